-- The bean types that a restriction leaves.
use Rattle.std.proofs.Common.{◌≡◌, ◌∙◌, Bool, true, false, cond, ℕ, List, ◌∷◌, filter, Option, refl, sym, true≢false}
use Rattle.cdi_types.specs.ListsThose.{ListsThose}
use Rattle.cdi_types.specs.Subtype.{IsSubtype}
use Rattle.cdi_types.specs.declared.declaration.TypeDeclaration.{TypeDeclaration}
use Rattle.cdi_bean_check.specs.BeanTypes.{IsBeanType, is_left}

module _ (types : List TypeDeclaration) (of : ℕ) (typed : Option (List ℕ)) where
  pub restricted : {all above : List ℕ} → ListsThose (IsSubtype types of) all above → ListsThose (IsBeanType types of typed) all (filter (is_left typed) above)
  restricted ListsThose.none = ListsThose.none
  restricted (ListsThose.skip n rest) = ListsThose.skip (λ h. n h.above) (restricted rest)
  restricted (ListsThose.keep {x = x} {xs = xs} {found = found} p rest) = by (is_left typed x) refl (restricted rest)
    where
      by : (b : Bool) → is_left typed x ≡ b → ListsThose (IsBeanType types of typed) xs (filter (is_left typed) found) → ListsThose (IsBeanType types of typed) (x ∷ xs) (cond b (x ∷ filter (is_left typed) found) (filter (is_left typed) found))
      by true e more = ListsThose.keep (record { above = p; left = e }) more
      by false e more = ListsThose.skip (λ h. true≢false (sym h.left ∙ e)) more
