-- The methods of a class by their names: its own, and those of its direct superclass that it doesn't override.
use Rattle.std.proofs.Common.{ℕ, ◌≡◌, ◌∙◌, ◌||◌, ◌&&◌, Bool, true, false, not, cond, nat_eq, List, [], ◌∷◌, ◌++◌, filter, Option, Some, None, refl, sym, ap}
use Rattle.std.proofs.lemmas.Bool.{eqb-false, ne_eqb, true≢false}
use Rattle.std.proofs.lemmas.List.Elements.{filter_map-append}
use Rattle.std.specs.List.{cons_option, filter_map, list_any}
use Rattle.std.specs.Option.{option_or}
use Rattle.cdi_base.specs.Maps.{Map, at}
use Rattle.cdi_deployment.specs.declared.deployment.Class.{Class}
use Rattle.cdi_deployment.specs.declared.deployment.Member.{Member}
use Rattle.cdi_deployment.specs.Member.{member_name}
use Rattle.cdi_types.proofs.Lines.{inherited}
use Rattle.cdi_types.specs.Members.{declares, inherits, is_inherited, members_of, parts_of}

at-append : {X : Type 0} (xs ys : Map X) (key : ℕ) → at (xs ++ ys) key ≡ option_or (at xs key) (at ys key)
at-append [] ys key = refl
at-append (p ∷ xs) ys key = by (at-append xs ys key) (nat_eq key p.0)
  where
    by : at (xs ++ ys) key ≡ option_or (at xs key) (at ys key) → (b : Bool) → cond b (Some p.1) (at (xs ++ ys) key) ≡ option_or (cond b (Some p.1) (at xs key)) (at ys key)
    by more true = refl
    by more false = more

or_nothing : {X : Type 0} (a : Option X) → option_or a None ≡ a
or_nothing None = refl
or_nothing (Some x) = refl

-- what is inherited isn't declared below
undeclared : (i d : Bool) → (i && not d) ≡ true → d ≡ false
undeclared true false e = refl
undeclared true true e = absurd (true≢false (sym e))
undeclared false d e = absurd (true≢false (sym e))

overridden : (i d : Bool) → (i && not d) ≡ false → i ≡ true → d ≡ true
overridden true true e f = refl
overridden true false e f = absurd (true≢false e)
overridden false d e f = absurd (true≢false (sym f))

first_not : (a b : Bool) → (a || b) ≡ false → a ≡ false
first_not true b e = absurd (true≢false e)
first_not false b e = refl

others_not : (a b : Bool) → (a || b) ≡ false → b ≡ false
others_not true b e = absurd (true≢false e)
others_not false b e = e

module _ {X : Type 0} (class : Class) (f : Class × Member → Option (ℕ × X)) (keyed : (owner : Class) (m : Member) (y : ℕ × X) → f (owner, m) ≡ Some y → (y.0 ≡ member_name m) × (is_inherited m ≡ true)) where
  -- one that gives nothing of a name may be left out
  skip : (y : ℕ × X) (ys : Map X) (name : ℕ) → (name ≡ y.0 → ⊥) → at (y ∷ ys) name ≡ at ys name
  skip y ys name other = ap (λ b. cond b (Some y.1) (at ys name)) (ne_eqb name y.0 other)

  module _ (name : ℕ) where
    hidden : declares name class ≡ true → (ps : List (Class × Member)) → at (filter_map f (filter (inherits class) ps)) name ≡ None
    hidden d [] = refl
    hidden d ((owner, m) ∷ ps) = by (hidden d ps) (inherits class (owner, m)) refl (f (owner, m)) refl
      where
        left : List (Class × Member)
        left = filter (inherits class) ps

        by : at (filter_map f left) name ≡ None → (i : Bool) → inherits class (owner, m) ≡ i → (o : Option (ℕ × X)) → f (owner, m) ≡ o
            → at (filter_map f (cond i ((owner, m) ∷ left) left)) name ≡ None
        by rest false e o g = rest
        by rest true e None g = ap (λ o. at (cons_option o (filter_map f left)) name) g ∙ rest
        by rest true e (Some y) g =
            ap (λ o. at (cons_option o (filter_map f left)) name) g
            ∙ skip y (filter_map f left) name
            (λ same. true≢false (sym d ∙ ap (λ n. declares n class) (same ∙ (keyed owner m y g).0) ∙ undeclared (is_inherited m) (declares (member_name m) class) e))
            ∙ rest

    shown : declares name class ≡ false → (ps : List (Class × Member)) → at (filter_map f (filter (inherits class) ps)) name ≡ at (filter_map f ps) name
    shown d [] = refl
    shown d ((owner, m) ∷ ps) = by (shown d ps) (inherits class (owner, m)) refl (f (owner, m)) refl
      where
        left : List (Class × Member)
        left = filter (inherits class) ps

        by : at (filter_map f left) name ≡ at (filter_map f ps) name → (i : Bool) → inherits class (owner, m) ≡ i → (o : Option (ℕ × X)) → f (owner, m) ≡ o
            → at (filter_map f (cond i ((owner, m) ∷ left) left)) name ≡ at (cons_option (f (owner, m)) (filter_map f ps)) name
        by rest true e None g =
            ap (λ o. at (cons_option o (filter_map f left)) name) g ∙ rest ∙ sym (ap (λ o. at (cons_option o (filter_map f ps)) name) g)
        by rest true e (Some y) g =
            ap (λ o. at (cons_option o (filter_map f left)) name) g
            ∙ ap (λ o. cond (nat_eq name y.0) (Some y.1) o) rest
            ∙ sym (ap (λ o. at (cons_option o (filter_map f ps)) name) g)
        by rest false e None g = rest ∙ sym (ap (λ o. at (cons_option o (filter_map f ps)) name) g)
        by rest false e (Some y) g =
            rest
            ∙ sym (skip y (filter_map f ps) name
            (λ same. true≢false (sym (overridden (is_inherited m) (declares (member_name m) class) e (keyed owner m y g).1) ∙ ap (λ n. declares n class) (sym (same ∙ (keyed owner m y g).0)) ∙ d)))
            ∙ sym (ap (λ o. at (cons_option o (filter_map f ps)) name) g)

    not_own : (ms : List Member) → list_any (λ m. nat_eq (member_name m) name) ms ≡ false → at (filter_map f (parts_of class ms)) name ≡ None
    not_own [] e = refl
    not_own (m ∷ ms) e =
        let first = first_not (nat_eq (member_name m) name) (list_any (λ m. nat_eq (member_name m) name) ms) e in
        by first (not_own ms (others_not (nat_eq (member_name m) name) (list_any (λ m. nat_eq (member_name m) name) ms) e)) (f (class, m)) refl
      where
        by : nat_eq (member_name m) name ≡ false → at (filter_map f (parts_of class ms)) name ≡ None → (o : Option (ℕ × X)) → f (class, m) ≡ o
            → at (cons_option (f (class, m)) (filter_map f (parts_of class ms))) name ≡ None
        by first rest None g = ap (λ o. at (cons_option o (filter_map f (parts_of class ms))) name) g ∙ rest
        by first rest (Some y) g =
            ap (λ o. at (cons_option o (filter_map f (parts_of class ms))) name) g
            ∙ skip y (filter_map f (parts_of class ms)) name
            (λ same. eqb-false (member_name m) name first (sym (same ∙ (keyed class m y g).0)))
            ∙ rest

    pub overriding : (line : List Class) → at (filter_map f (members_of (line ++ class ∷ []))) name
        ≡ option_or (at (filter_map f (members_of (class ∷ []))) name) (cond (declares name class) None (at (filter_map f (members_of line)) name))
    overriding line =
        let own = filter_map f (members_of (class ∷ [])) in
        ap (λ ps. at (filter_map f ps) name) (inherited class line ∙ ap (λ ps. filter (inherits class) (members_of line) ++ ps) (sym (inherited class [])))
        ∙ ap (λ ys. at ys name) (filter_map-append f (filter (inherits class) (members_of line)) (members_of (class ∷ [])))
        ∙ at-append (filter_map f (filter (inherits class) (members_of line))) own name
        ∙ by (declares name class) refl
      where
        by : (d : Bool) → declares name class ≡ d
            → option_or (at (filter_map f (filter (inherits class) (members_of line))) name) (at (filter_map f (members_of (class ∷ []))) name)
            ≡ option_or (at (filter_map f (members_of (class ∷ []))) name) (cond d None (at (filter_map f (members_of line)) name))
        by true e =
            ap (λ o. option_or o (at (filter_map f (members_of (class ∷ []))) name)) (hidden e (members_of line))
            ∙ sym (or_nothing (at (filter_map f (members_of (class ∷ []))) name))
        by false e =
            let none : at (filter_map f (members_of (class ∷ []))) name ≡ None =
            ap (λ ps. at (filter_map f ps) name) (inherited class []) ∙ not_own class.members e in
            ap (λ o. option_or (at (filter_map f (filter (inherits class) (members_of line))) name) o) none
            ∙ or_nothing (at (filter_map f (filter (inherits class) (members_of line))) name)
            ∙ shown e (members_of line)
            ∙ sym (ap (λ o. option_or o (at (filter_map f (members_of line)) name)) none)
