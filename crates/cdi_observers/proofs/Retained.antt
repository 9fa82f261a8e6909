-- What `retain` leaves, and which beans are enabled.
use Rattle.std.proofs.Common.{◌≡◌, ◌∙◌, ℕ, Bool, true, false, List, [], ◌∷◌, length, Option, Some, None, refl, sym, subst, arith}
use Rattle.std.proofs.lemmas.Bool.{true≢false}
use Rattle.std.specs.List.{items_where_true}
use Rattle.std.specs.List.Retain.{IsFiltered, ReturnsInTurn}
use Rattle.cdi_types.specs.ListsThose.{ListsThose}
use Rattle.cdi_enable.specs.Enablement.{Enablement, IsEnabledClass, IsEnabledManaged, bean_of_class}
use Rattle.cdi_enable.specs.declared.managed_bean.ManagedBean.{ManagedBean}
use Rattle.cdi_enable.proofs.Free.{once}

-- R answers by T, and leaves its state; T tells whether P holds
module _ {X F : Type 0} (R : F → X → Bool → F → Type 0) (T : X → Bool → Type 0) (P : X → Type 0) (f : F) (answers : (x : X) (b : Bool) (f' : F) → R f x b f' → T x b × (f' ≡ f)) (yes : (x : X) → T x true → P x) (no : (x : X) → T x false → P x → ⊥) where
  in_turn : (bs : List Bool) (xs : List X) (p q : F) → p ≡ f → length bs ≡ length xs → ReturnsInTurn R p bs xs q → ListsThose P xs (items_where_true bs xs)
  in_turn [] [] p q is len turn = ListsThose.none
  in_turn [] (x ∷ xs) p q is len turn = absurd (omega (arith, len))
  in_turn (b ∷ bs) [] p q is len turn = absurd turn
  in_turn (true ∷ bs) (x ∷ xs) p q is len turn =
      let At : F → Type 0 = λ g. R g x true turn.0 in
      let told = answers x true turn.0 (subst At is turn.1) in
      ListsThose.keep (yes x told.0) (in_turn bs xs turn.0 q told.1 (omega (arith, len)) turn.2)
  in_turn (false ∷ bs) (x ∷ xs) p q is len turn =
      let At : F → Type 0 = λ g. R g x false turn.0 in
      let told = answers x false turn.0 (subst At is turn.1) in
      ListsThose.skip (no x told.0) (in_turn bs xs turn.0 q told.1 (omega (arith, len)) turn.2)

  pub retained : (xs ys : List X) → IsFiltered R f xs ys → ListsThose P xs ys
  retained xs ys filtered =
      let Q : List X → Type 0 = λ zs. ListsThose P xs zs in
      subst Q (sym filtered.4) (in_turn filtered.0 xs f filtered.1 refl filtered.2 filtered.3)

once_managed : (managed : List ManagedBean) (o : Option ℕ) (r s : Bool) → IsEnabledManaged managed o r → IsEnabledManaged managed o s → r ≡ s
once_managed managed None r s x y = x ∙ sym y
once_managed managed (Some b) r s x y = once b r s x y

pub not_enabled : (e : Enablement) (class : ℕ) → IsEnabledClass e class false → IsEnabledClass e class true → ⊥
not_enabled e class x y = true≢false (once_managed e.managed (bean_of_class e.classes class) true false y x)
