-- Beans and interceptors that need themselves, by flags and by the definition.
use Rattle.std.proofs.Common.{◌≡◌, ◌∙◌, ℕ, ◌<◌, ◌≤◌, ◌&&◌, ◌==◌, Bool, true, false, List, [], ◌∷◌, length, inl, inr, refl, sym, ap, arith, eq-eqb}
use Rattle.std.specs.Prelude.{◌↔◌, IsTrue}
use Rattle.std.specs.List.{Any, list_any, enumerate_from}
use Rattle.std.proofs.lemmas.Bool.{cases_lt, eqb-true, true≢false}
use Rattle.std.proofs.lemmas.List.{get_or_past}
use Rattle.std.proofs.lemmas.List.Folds.{Any-from_list_any, list_any-from_Any}
use Rattle.cdi_base.specs.declared.place.Place.{Place}
use Rattle.cdi_resolve.specs.Filters.{is_bean_of}
use Rattle.cdi_deployment.specs.Member.{member_name}
use Rattle.cdi_problems.specs.Elements.{Element}
use Rattle.cdi_problems.specs.Findings.{ArePlacesOf}
use Rattle.cdi_types.specs.ListsThose.{ListsThose}
use Rattle.cdi_live.specs.Cycles.{flag, AreNeedy, HasFlaggedCycle, HasDependentCycle, IsNeedyBean, IsNeedyProduct, IsNeedyInterceptor, is_product_of}
use Rattle.cdi_live.specs.OwnPoints.{Inventory}
use Rattle.cdi_live.specs.declared.cycles.NeedyFlags.{NeedyFlags}

any_same : {X : Type 0} (p : X → Bool) (P : X → Type 0) → ((x : X) → IsTrue (p x) ↔ P x) → (xs : List X) → IsTrue (list_any p xs) ↔ Any P xs
any_same p P same xs =
    (λ h. let a = Any-from_list_any p xs h in (a.0, a.1, a.2, a.3, (same a.1).0 a.4), λ a. list_any-from_Any p xs (a.0, a.1, a.2, a.3, (same a.1).1 a.4))

both_left : (a b : Bool) → IsTrue (a && b) → IsTrue a
both_left true b h = refl
both_left false b h = absurd cc

both_right : (a b : Bool) → IsTrue (a && b) → IsTrue b
both_right true b h = h
both_right false b h = absurd cc

both : (a b : Bool) → IsTrue a → IsTrue b → IsTrue (a && b)
both a b x y = ap (λ c. c && b) x ∙ y

nothing : ⊥ ↔ ⊥
nothing = (λ a. a, λ a. a)

module _ (s : Inventory) (flags : NeedyFlags) (needy : AreNeedy s flags) where
  pub same_cycle : (x : Element) → HasFlaggedCycle s.enabled flags x ↔ HasDependentCycle s x
  same_cycle (Element.AClass i c) =
      any_same (λ b. is_bean_of c.name b && flag flags.beans b.0) (IsNeedyBean s c.name) (λ b. (λ h. record { is = both_left (is_bean_of c.name b) (flag flags.beans b.0) h; itself = (needy.beans b.0).0 (both_right (is_bean_of c.name b) (flag flags.beans b.0) h) }, λ n. both (is_bean_of c.name b) (flag flags.beans b.0) n.is ((needy.beans b.0).1 n.itself))) s.enabled.beans
  same_cycle (Element.AMember i c m) =
      any_same (λ b. is_product_of c.name (member_name m) b && flag flags.beans b.0) (IsNeedyProduct s c.name (member_name m)) (λ b. (λ h. record { is = both_left (is_product_of c.name (member_name m) b) (flag flags.beans b.0) h; itself = (needy.beans b.0).0 (both_right (is_product_of c.name (member_name m) b) (flag flags.beans b.0) h) }, λ n. both (is_product_of c.name (member_name m) b) (flag flags.beans b.0) n.is ((needy.beans b.0).1 n.itself))) s.enabled.beans
  same_cycle (Element.AnInterceptor i j) =
      any_same (λ k. (k.1.name == j.name) && flag flags.interceptors k.0) (IsNeedyInterceptor s j.name) (λ k. (λ h. record { is = eqb-true k.1.name j.name (both_left (k.1.name == j.name) (flag flags.interceptors k.0) h); itself = (needy.interceptors k.0).0 (both_right (k.1.name == j.name) (flag flags.interceptors k.0) h) }, λ n. both (k.1.name == j.name) (flag flags.interceptors k.0) (eq-eqb k.1.name j.name n.is) ((needy.interceptors k.0).1 n.itself))) (enumerate_from 0 s.enabled.interceptors)
  same_cycle _ = nothing

module _ (P Q : Element → Type 0) (same : (x : Element) → P x ↔ Q x) where
  lists : (xs found : List Element) → ListsThose P xs found → ListsThose Q xs found
  lists [] [] ListsThose.none = ListsThose.none
  lists [] (f ∷ found) l = elim l [ ]
  lists (x ∷ xs) [] (ListsThose.skip out rest) = ListsThose.skip (λ q. out ((same x).1 q)) (lists xs [] rest)
  lists (x ∷ xs) (f ∷ found) (ListsThose.keep p rest) = ListsThose.keep ((same x).0 p) (lists xs found rest)
  lists (x ∷ xs) (f ∷ found) (ListsThose.skip out rest) = ListsThose.skip (λ q. out ((same x).1 q)) (lists xs (f ∷ found) rest)

  pub same_places : (xs : List Element) (found : List Place) → ArePlacesOf P xs found → ArePlacesOf Q xs found
  same_places xs found a = record { those = a.those; listed = lists xs a.those a.listed; are = a.are }

-- past the last index no flag is set, and nothing needs itself
pub flags_all : (flags : List Bool) (n : ℕ) (P : ℕ → Type 0) → length flags ≡ n → ((i : ℕ) → n ≤ i → P i → ⊥) → ((i : ℕ) → i < n → IsTrue (flag flags i) ↔ P i) → (i : ℕ) → IsTrue (flag flags i) ↔ P i
flags_all flags n P len none told i =
    elim (cases_lt i n) [
      | inl lt ↦ told i lt
      | inr le ↦ (λ h. absurd (true≢false (sym h ∙ get_or_past flags i false (omega arith))), λ p. absurd (none i le p))
    ]
