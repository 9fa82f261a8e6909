-- What qualifiers in parts have.
use Rattle.std.proofs.Common.{◌≡◌, ◌∙◌, Bool, ◌||◌, List, [], ◌∷◌, ◌++◌, refl, ap}
use Rattle.std.proofs.lemmas.List.Folds.{list_any-append}
use Rattle.std.specs.List.{list_any}
use Rattle.std.specs.declared.rc.Rc.{Rc}
use Rattle.cdi_beans.specs.ManagedQualifiers.{qualifiers_in}
use Rattle.cdi_quals.specs.declared.qualifier.Qualifier.{Qualifier}

module _ {Z : Type 0} (p : Qualifier → Bool) where
  -- one in the parts passes a test if one of one part does
  any_in : (parts : List (Rc (List Qualifier) Z)) → list_any p (qualifiers_in parts) ≡ list_any (λ part. list_any p part.value) parts
  any_in [] = refl
  any_in (part ∷ parts) = list_any-append p part.value (qualifiers_in parts) ∙ ap (λ b. list_any p part.value || b) (any_in parts)

  pub any_of : (own : List Qualifier) (parts : List (Rc (List Qualifier) Z)) → list_any p (own ++ qualifiers_in parts) ≡ (list_any p own || list_any (λ part. list_any p part.value) parts)
  any_of own parts = list_any-append p own (qualifiers_in parts) ∙ ap (λ b. list_any p own || b) (any_in parts)
