-- The classes of a line: each has its own line at the front of it, and directly extends the one whose line stands before it.
use Rattle.std.proofs.Common.{ℕ, ◌≡◌, ◌∙◌, ◌⊎◌, inl, inr, Bool, true, false, cond, nat_eq, List, [], ◌∷◌, ◌++◌, map, Option, Some, None, refl, sym, ap, subst, append_assoc, append-nil, arith}
use Rattle.std.specs.Prelude.{option_and_then, option_map}
use Rattle.std.specs.Option.{option_or}
use Rattle.std.proofs.lemmas.Bool.{eqb-true}
use Rattle.std.proofs.lemmas.List.Elements.{filter_map-append}
use Rattle.std.proofs.lemmas.List.Folds.{find-append}
use Rattle.std.specs.List.{cons_option, filter_map, find}
use Rattle.cdi_base.specs.declared.built_in.BuiltIn.TheVariants as names
use Rattle.cdi_deployment.specs.declared.deployment.Class.{Class}
use Rattle.cdi_deployment.specs.declared.deployment.Deployment.{Deployment}
use Rattle.cdi_deployment.specs.declared.deployment.Interface.{Interface}
use Rattle.cdi_types.specs.Line.{IsLineOf, class_named}
use Rattle.cdi_name_check.specs.NameProblems.{AreNameProblems}
use Rattle.cdi_types.specs.Declarations.{declarations_of, of_built_in, of_class, of_interface}
use Rattle.cdi_types.specs.Lineage.{IsLineage, superclass_of}
use Rattle.cdi_types.specs.declared.declaration.TypeDeclaration.{TypeDeclaration}
use Rattle.cdi_accepted.proofs.Lists.{Among, among_parts, found_among}
use Rattle.cdi_accepted.proofs.Duplicates.{no_built_in, no_interface}

-- ---- pairs of a class and one below it

module _ (Fit : Class → Class → Type 0) where
  -- each class fits those below it
  abbrev pub ArePairs : List Class → Type 0
  ArePairs [] = Unit {0}
  ArePairs (c ∷ below) = ((e : Class) → Among e below → Fit c e) × ArePairs below

  pairs_push : (line : List Class) (e : Class) → ArePairs line → ((c : Class) → Among c line → Fit c e) → ArePairs (line ++ e ∷ [])
  pairs_push [] e pairs fits = (λ k a. absurd a, tt)
  pairs_push (c ∷ below) e pairs fits = (first, pairs_push below e pairs.1 (λ k a. fits k (inr a)))
    where
      by : (k : Class) → Among k below ⊎ Among k (e ∷ []) → Fit c k
      by k (inl s) = pairs.0 k s
      by k (inr (inl same)) = let P : Class → Type 0 = λ x. Fit c x in subst P (sym same) (fits c (inl refl))
      by k (inr (inr never)) = absurd never

      first : (k : Class) → Among k (below ++ e ∷ []) → Fit c k
      first k a = by k (among_parts below (e ∷ []) k a)

-- ---- the superclass of a class

none_found : {X : Type 0} (p : X → Bool) (xs : List X) → ((x : X) → Among x xs → p x ≡ true → ⊥) → find p xs ≡ None
none_found p [] none = refl
none_found p (x ∷ xs) none = by (p x) refl (none_found p xs (λ y a e. none y (inr a) e))
  where
    by : (b : Bool) → p x ≡ b → find p xs ≡ None → cond b (Some x) (find p xs) ≡ None
    by true e rest = absurd (none x (inl refl) e)
    by false e rest = rest

find_map : {X Y : Type 0} (f : X → Y) (p : Y → Bool) (xs : List X) → find p (map f xs) ≡ option_map f (find (λ x. p (f x)) xs)
find_map f p [] = refl
find_map f p (x ∷ xs) = by (p (f x)) (find_map f p xs)
  where
    by : (b : Bool) → find p (map f xs) ≡ option_map f (find (λ y. p (f y)) xs) → cond b (Some (f x)) (find p (map f xs)) ≡ option_map f (cond b (Some x) (find (λ y. p (f y)) xs))
    by true rest = refl
    by false rest = rest

module _ (d : Deployment) (well : AreNameProblems d []) where
  abbrev types : List TypeDeclaration
  types = declarations_of d

  pub is_listed : (name : ℕ) (c : Class) → class_named d.classes name ≡ Some c → Among c d.classes
  is_listed name c is = (found_among (λ k. nat_eq k.name name) d.classes c is).0

  pub is_of_name : (name : ℕ) (c : Class) → class_named d.classes name ≡ Some c → c.name ≡ name
  is_of_name name c is = eqb-true c.name name (found_among (λ k. nat_eq k.name name) d.classes c is).1

  -- what a class extends is its superclass
  pub extends : (name : ℕ) (c : Class) → class_named d.classes name ≡ Some c → superclass_of types name ≡ c.extends
  extends name c is = ap (option_and_then (λ (t : TypeDeclaration). t.superclass)) found
    where
      test : TypeDeclaration → Bool
      test t = nat_eq t.name name

      listed : Among c d.classes
      listed = is_listed name c is

      built_in : List TypeDeclaration
      built_in = of_built_in names.Startup ∷ of_built_in names.Shutdown ∷ []

      no_built_ins : (t : TypeDeclaration) → Among t built_in → test t ≡ true → ⊥
      no_built_ins t a e = by a
        where
          same : (number : ℕ) → t.name ≡ number → number ≡ c.name
          same number is_number = sym is_number ∙ eqb-true t.name name e ∙ sym (is_of_name name c is)

          by : Among t built_in → ⊥
          by (inl t_is) = no_built_in d well c listed 1 (1, omega arith, refl) (same 1 (ap (λ (k : TypeDeclaration). k.name) t_is))
          by (inr (inl t_is)) = no_built_in d well c listed 2 (2, omega arith, refl) (same 2 (ap (λ (k : TypeDeclaration). k.name) t_is))
          by (inr (inr never)) = never

      no_interfaces : (i : Interface) → Among i d.interfaces → nat_eq i.name name ≡ true → ⊥
      no_interfaces i a e = no_interface d well c listed i a (eqb-true i.name name e ∙ sym (is_of_name name c is))

      found : find test types ≡ Some (of_class c)
      found =
          find-append test (built_in ++ map of_interface d.interfaces) (map of_class d.classes)
          ∙ ap (λ o. option_or o (find test (map of_class d.classes)))
          (find-append test built_in (map of_interface d.interfaces)
          ∙ ap (λ o. option_or o (find test (map of_interface d.interfaces))) (none_found test built_in no_built_ins)
          ∙ find_map of_interface test d.interfaces
          ∙ ap (option_map of_interface) (none_found (λ (i : Interface). nat_eq i.name name) d.interfaces no_interfaces))
          ∙ find_map of_class test d.classes
          ∙ ap (option_map of_class) is

  -- ---- lines

  abbrev named : List ℕ → List Class
  named ns = filter_map (class_named d.classes) ns

  -- its own line stands at the front
  pub record HasFront (line : List Class) (c : Class) : Type 0 where
    pub named : class_named d.classes c.name ≡ Some c
    pub front : List Class
    pub is_line : IsLineOf types d.classes c.name front
    pub rest : List Class
    pub are : line ≡ front ++ rest

  pub has_front : {a : ℕ} {ns : List ℕ} → IsLineage types a ns → (c : Class) → Among c (named ns) → HasFront (named ns) c
  has_front IsLineage.above_all c stands = absurd stands
  has_front {a} (IsLineage.top below none) c stands = by (class_named d.classes a) refl stands
    where
      by : (o : Option Class) → class_named d.classes a ≡ o → Among c (cons_option o []) → HasFront (cons_option o []) c
      by None e s = absurd s
      by (Some k) e (inl same) =
          let found : class_named d.classes a ≡ Some c = e ∙ ap (λ x. Some x) (sym same) in
          let name : c.name ≡ a = is_of_name a c found in
          let P : ℕ → Type 0 = λ n. IsLineage types n (n ∷ []) in
          record {
            named = ap (class_named d.classes) name ∙ found;
            front = named (c.name ∷ []);
            is_line = record { names = c.name ∷ []; lineage = subst P (sym name) (IsLineage.top below none); named = refl };
            rest = [];
            are = ap (λ o. cons_option o []) (sym e ∙ ap (class_named d.classes) (sym name)) ∙ sym (append-nil (named (c.name ∷ [])));
          }
      by (Some k) e (inr never) = absurd never
  has_front {a} (IsLineage.next {names = ns} below some rest) c stands =
      let split : named (ns ++ a ∷ []) ≡ named ns ++ named (a ∷ []) = filter_map-append (class_named d.classes) ns (a ∷ []) in
      let P : List Class → Type 0 = λ l. HasFront l c in
      subst P (sym split) (by split (has_front rest c) (among_parts (named ns) (named (a ∷ [])) c (subst (λ l. Among c l) split stands)))
    where
      above : HasFront (named ns) c → HasFront (named ns ++ named (a ∷ [])) c
      above f =
          record {
            named = f.named;
            front = f.front;
            is_line = f.is_line;
            rest = f.rest ++ named (a ∷ []);
            are = ap (λ l. l ++ named (a ∷ [])) f.are ∙ append_assoc f.front f.rest (named (a ∷ []));
          }

      own : named (ns ++ a ∷ []) ≡ named ns ++ named (a ∷ []) → (o : Option Class) → class_named d.classes a ≡ o → Among c (cons_option o []) → HasFront (named ns ++ named (a ∷ [])) c
      own split None e s = absurd s
      own split (Some k) e (inl same) =
          let found : class_named d.classes a ≡ Some c = e ∙ ap (λ x. Some x) (sym same) in
          let name : c.name ≡ a = is_of_name a c found in
          let P : ℕ → Type 0 = λ n. IsLineage types n (ns ++ n ∷ []) in
          record {
            named = ap (class_named d.classes) name ∙ found;
            front = named (ns ++ c.name ∷ []);
            is_line = record { names = ns ++ c.name ∷ []; lineage = subst P (sym name) (IsLineage.next below some rest); named = refl };
            rest = [];
            are = sym split ∙ ap (λ n. named (ns ++ n ∷ [])) (sym name) ∙ sym (append-nil (named (ns ++ c.name ∷ [])));
          }
      own split (Some k) e (inr never) = absurd never

      by : named (ns ++ a ∷ []) ≡ named ns ++ named (a ∷ []) → (Among c (named ns) → HasFront (named ns) c) → Among c (named ns) ⊎ Among c (named (a ∷ [])) → HasFront (named ns ++ named (a ∷ [])) c
      by split more (inl s) = above (more s)
      by split more (inr s) = own split (class_named d.classes a) refl s

  pub front_of : (name : ℕ) (line : List Class) → IsLineOf types d.classes name line → (c : Class) → Among c line → HasFront line c
  front_of name line is c stands =
      let P : List Class → Type 0 = λ l. HasFront l c in
      subst P (sym is.named) (has_front is.lineage c (subst (λ l. Among c l) is.named stands))

  -- ---- the pairs of a line

  module _ (Fit : Class → Class → Type 0) (fits : (e : Class) (direct : ℕ) (line : List Class) → Among e d.classes → e.extends ≡ Some direct → IsLineOf types d.classes direct line → (c : Class) → Among c line → Fit c e) where
    pairs_in : {a : ℕ} {ns : List ℕ} → IsLineage types a ns → ArePairs Fit (named ns)
    pairs_in IsLineage.above_all = tt
    pairs_in {a} (IsLineage.top below none) = by (class_named d.classes a)
      where
        by : (o : Option Class) → ArePairs Fit (cons_option o [])
        by None = tt
        by (Some c) = (λ e never. absurd never, tt)
    pairs_in {a} (IsLineage.next {b = b} {names = ns} below some rest) =
        subst (ArePairs Fit) (sym (filter_map-append (class_named d.classes) ns (a ∷ []))) (by (pairs_in rest) (class_named d.classes a) refl)
      where
        by : ArePairs Fit (named ns) → (o : Option Class) → class_named d.classes a ≡ o → ArePairs Fit (named ns ++ cons_option o [])
        by pairs None e = subst (ArePairs Fit) (sym (append-nil (named ns))) pairs
        by pairs (Some c) e =
            pairs_push Fit (named ns) c pairs
            (fits c b (named ns) (is_listed a c e) (sym (extends a c e) ∙ some) (record { names = ns; lineage = rest; named = refl }))

    pub pairs_of : (name : ℕ) (line : List Class) → IsLineOf types d.classes name line → ArePairs Fit line
    pairs_of name line is = subst (ArePairs Fit) (sym is.named) (pairs_in is.lineage)
