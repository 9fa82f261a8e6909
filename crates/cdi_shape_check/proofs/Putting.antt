-- What holds of each entry of a map, once one more is put in.
use Rattle.std.proofs.Common.{◌≡◌, ◌∙◌, ℕ, Bool, true, false, cond, nat_eq, Option, Some, refl, sym, subst}
use Rattle.std.proofs.lemmas.Bool.{eqb-true}

module _ {X : Type 0} (P : ℕ → X → Type 0) (key : ℕ) (value : X) (holds : P key value) (old new : ℕ → Option X)
    (each : (k : ℕ) (x : X) → old k ≡ Some x → P k x)
    (puts : (k : ℕ) → new k ≡ cond (nat_eq key k) (Some value) (old k)) where
  pub each_after : (k : ℕ) (x : X) → new k ≡ Some x → P k x
  each_after k x there = by (nat_eq key k) refl (sym (puts k) ∙ there)
    where
      by : (b : Bool) → nat_eq key k ≡ b → cond b (Some value) (old k) ≡ Some x → P k x
      by true same e =
          let AtKey : ℕ → Type 0 = λ j. P j value in
          let here : P k value = subst AtKey (eqb-true key k same) holds in
          let is : value ≡ x = cc in
          subst (P k) is here
      by false other e = each k x e
