-- Groups by priority: one for each priority, ascending, of the observers that have it, as they stand.
use Rattle.std.proofs.Common.{ℤ, ◌≡◌, ◌∙◌, inl, inr, Bool, true, false, cond, List, [], ◌∷◌, map, filter, refl, sym, ap, subst, Less, Equal, Greater}
use Rattle.std.specs.Prelude.{int_lt}
use Rattle.std.proofs.lemmas.Bool.{true≢false}
use Rattle.std.proofs.lemmas.Bool.Decides.{Decides-int_eq}
use Rattle.std.proofs.lemmas.Cmp.{int_cmp_total}
use Rattle.std.specs.FinMap.{int_cmp-IsAntisymmetric}
use Rattle.std.specs.List.{AllByRecursion}
use Rattle.std.specs.List.Sorted.{IsStrictlySortedBy}
use Rattle.std.specs.Ordering.{int_cmp, int_eq, is_eq}
use Rattle.cdi_beans.specs.declared.bean.ObserverMethod.{ObserverMethod}
use Rattle.cdi_event_tables.specs.Events.{Group, groups_of, new_group, with_observer}
use Rattle.cdi_accepted.proofs.Lists.{Among, among_map}
use Rattle.cdi_event_tables.proofs.Inserted.{in_order, inserted, order_rises, placed, to_order}

abbrev pub priority : ObserverMethod → ℤ
priority o = o.priority

abbrev pub of_priority : ℤ → List ObserverMethod → List ObserverMethod
of_priority p os = filter (λ (o : ObserverMethod). int_eq o.priority p) os

abbrev made : ℤ → List ObserverMethod → Group
made p os = record { priority = p; observers = os }

abbrev pub group_of : List ObserverMethod → ℤ → Group
group_of os p = made p (of_priority p os)

itself : (p : ℤ) → int_eq p p ≡ true
itself p = (Decides-int_eq p p).1 refl

abbrev AreOthers : ℤ → List ℤ → Type 0
AreOthers p qs = AllByRecursion (λ q. int_eq p q ≡ false) qs

-- what is above a priority is another
others_above : (p : ℤ) (qs : List ℤ) → AllByRecursion (λ q. int_cmp p q ≡ Less) qs → AreOthers p qs
others_above p [] all = tt
others_above p (q ∷ qs) all = (ap is_eq all.0, others_above p qs all.1)

above_both : (p q : ℤ) (qs : List ℤ) → int_cmp p q ≡ Less → AllByRecursion (λ r. int_cmp q r ≡ Less) qs → AllByRecursion (λ r. int_cmp p r ≡ Less) qs
above_both p q [] less all = tt
above_both p q (r ∷ qs) less all = (int_cmp_total.trans p q r less all.0, above_both p q qs less all.1)

not_among : (p : ℤ) (qs : List ℤ) → AreOthers p qs → Among p qs → ⊥
not_among p [] all a = a
not_among p (q ∷ qs) all (inl e) = true≢false (sym (itself p) ∙ ap (int_eq p) e ∙ all.0)
not_among p (q ∷ qs) all (inr a) = not_among p qs all.1 a

module _ (o : ObserverMethod) (os : List ObserverMethod) where
  -- the groups of other priorities stay
  unchanged : (qs : List ℤ) → AreOthers o.priority qs → map (group_of (o ∷ os)) qs ≡ map (group_of os) qs
  unchanged [] all = refl
  unchanged (q ∷ qs) all =
      ap (λ (b : Bool). made q (cond b (o ∷ of_priority q os) (of_priority q os)) ∷ map (group_of (o ∷ os)) qs) all.0
      ∙ ap (λ rest. group_of os q ∷ rest) (unchanged qs all.1)

  -- that of its own has it in front
  own_group : (p : ℤ) → int_eq o.priority p ≡ true → made p (o ∷ of_priority p os) ≡ group_of (o ∷ os) p
  own_group p e = ap (λ (b : Bool). made p (cond b (o ∷ of_priority p os) (of_priority p os))) (sym e)

  first_group : of_priority o.priority os ≡ [] → new_group o ≡ group_of (o ∷ os) o.priority
  first_group none =
      ap (λ l. made o.priority (o ∷ l)) (sym none) ∙ own_group o.priority (itself o.priority)

  inserting : (ps : List ℤ) → IsStrictlySortedBy int_cmp ps → ((Among o.priority ps → ⊥) → of_priority o.priority os ≡ [])
      → with_observer o (map (group_of os) ps) ≡ map (group_of (o ∷ os)) (inserted int_cmp o.priority ps)
  unfolding IsStrictlySortedBy
  inserting [] up free = ap (λ g. g ∷ []) (first_group (free (λ a. a)))
  inserting (p ∷ ps) up free = by (int_lt o.priority p) refl (int_lt p o.priority) refl (inserting ps up.1)
    where
      G : List Group
      G = map (group_of os) ps

      by : (lt : Bool) → int_lt o.priority p ≡ lt → (gt : Bool) → int_lt p o.priority ≡ gt
          → (((Among o.priority ps → ⊥) → of_priority o.priority os ≡ []) → with_observer o G ≡ map (group_of (o ∷ os)) (inserted int_cmp o.priority ps))
          → cond (is_eq (cond lt Less (cond gt Greater Equal))) (made p (o ∷ of_priority p os) ∷ G) (cond lt (new_group o ∷ group_of os p ∷ G) (group_of os p ∷ with_observer o G))
          ≡ map (group_of (o ∷ os)) (placed int_cmp (cond lt Less (cond gt Greater Equal)) o.priority p ps (inserted int_cmp o.priority ps))
      by true l gt g rest =
          let less : int_cmp o.priority p ≡ Less = ap (λ b. cond b Less (cond (int_lt p o.priority) Greater Equal)) l in
          let others : AreOthers o.priority (p ∷ ps) = (ap is_eq less, others_above o.priority ps (above_both o.priority p ps less up.0)) in
          ap (λ (h : Group). h ∷ group_of os p ∷ G) (first_group (free (not_among o.priority (p ∷ ps) others)))
          ∙ ap (λ gs. group_of (o ∷ os) o.priority ∷ gs) (sym (unchanged (p ∷ ps) others))
      by false l false g rest =
          let equal : int_cmp o.priority p ≡ Equal = ap (λ b. cond b Less (cond (int_lt p o.priority) Greater Equal)) l ∙ ap (λ b. cond b Greater Equal) g in
          let same : o.priority ≡ p = int_cmp-IsAntisymmetric o.priority p equal in
          let P : ℤ → Type 0 = λ q. AllByRecursion (λ r. int_cmp q r ≡ Less) ps in
          ap (λ (h : Group). h ∷ G) (own_group p (ap is_eq equal))
          ∙ ap (λ gs. group_of (o ∷ os) p ∷ gs) (sym (unchanged ps (others_above o.priority ps (subst P (sym same) up.0))))
      by false l true g rest =
          let greater : int_cmp o.priority p ≡ Greater = ap (λ b. cond b Less (cond (int_lt p o.priority) Greater Equal)) l ∙ ap (λ b. cond b Greater Equal) g in
          let other : int_eq o.priority p ≡ false = ap is_eq greater in
          ap (λ gs. group_of os p ∷ gs)
          (rest (λ none. free (elsewhere other none)))
          ∙ ap (λ (b : Bool). made p (cond b (o ∷ of_priority p os) (of_priority p os)) ∷ map (group_of (o ∷ os)) (inserted int_cmp o.priority ps)) (sym other)
        where
          elsewhere : int_eq o.priority p ≡ false → (Among o.priority ps → ⊥) → Among o.priority (p ∷ ps) → ⊥
          elsewhere other none (inl e) = true≢false (sym (itself o.priority) ∙ ap (int_eq o.priority) e ∙ other)
          elsewhere other none (inr a) = none a

-- the priorities of some observers
abbrev pub priorities : List ObserverMethod → List ℤ
priorities os = in_order int_cmp (map priority os)

no_such : (p : ℤ) (os : List ObserverMethod) → ((x : ObserverMethod) → Among x os → x.priority ≡ p → ⊥) → of_priority p os ≡ []
no_such p [] never = refl
no_such p (x ∷ os) never = by (no_such p os (λ y a. never y (inr a))) (int_eq x.priority p) refl
  where
    by : of_priority p os ≡ [] → (b : Bool) → int_eq x.priority p ≡ b → cond b (x ∷ of_priority p os) (of_priority p os) ≡ []
    by rest true e = absurd (never x (inl refl) ((Decides-int_eq x.priority p).0 e))
    by rest false e = rest

pub groups_by_priority : (os : List ObserverMethod) → groups_of os ≡ map (group_of os) (priorities os)
groups_by_priority [] = refl
groups_by_priority (o ∷ os) =
    ap (with_observer o) (groups_by_priority os)
    ∙ inserting o os (priorities os) (order_rises int_cmp int_cmp_total int_cmp-IsAntisymmetric (map priority os))
    (λ none. no_such o.priority os (λ x a e. none (to_order int_cmp int_cmp_total int_cmp-IsAntisymmetric (map priority os) o.priority (subst (λ p. Among p (map priority os)) e (among_map priority os x a)))))
