-- Exceptions have texts.
use Rattle.std.proofs.Common.{ℕ, zero, suc, ◌≡◌, ◌≤◌, ◌||◌, ◌⊎◌, inl, inr, Bool, true, List, [], ◌∷◌, Option, Some, None, refl, sym, subst, nat_eq, arith}
use Rattle.std.specs.Prelude.{is_some}
use Rattle.std.proofs.lemmas.Bool.{and_parts, eqb-true, or_cases, true≢false}
use Rattle.std.specs.List.{list_all, slice_get}
use Rattle.cdi_base.specs.BuiltIn.{number_of}
use Rattle.cdi_base.specs.declared.built_in.BuiltIn.{BuiltIn}
use Rattle.cdi_base.specs.declared.built_in.BuiltIn.TheVariants as names
use Rattle.cdi_body_check.specs.Exceptions.{is_declared}
use Rattle.cdi_deployment.specs.declared.deployment.Deployment.{Deployment}
use Rattle.cdi_deployment.specs.declared.deployment.Exception.{Exception}
use Rattle.cdi_name_check.specs.UnknownName.{is_built_in}
use Rattle.cdi_run_tables.specs.Texts.{has_text, has_texts}
use Rattle.cdi_body_check.specs.WrittenNames.{is_built_in_exception, is_exception}
use Rattle.cdi_accepted.proofs.Lists.{all_pass, passing}

abbrev pub HasTextIn : List (List ℕ) → ℕ → Type 0
HasTextIn texts x = (text : List ℕ) × (slice_get texts x ≡ Some text)

text_of : (texts : List (List ℕ)) (x : ℕ) → has_text texts x ≡ true → HasTextIn texts x
text_of texts x e = by (slice_get texts x) refl e
  where
    by : (o : Option (List ℕ)) → slice_get texts x ≡ o → is_some o ≡ true → HasTextIn texts x
    by None is h = absurd (true≢false (sym h))
    by (Some text) is h = (text, is)

-- a table that has a number has those below it
below : (texts : List (List ℕ)) (x y : ℕ) → x ≤ y → has_text texts y ≡ true → has_text texts x ≡ true
below [] x y le e = absurd (true≢false (sym e))
below (text ∷ texts) zero y le e = refl
below (text ∷ texts) (suc x) zero le e = absurd (omega arith)
below (text ∷ texts) (suc x) (suc y) le e = below texts x y (omega arith) e

within : (x : BuiltIn) → number_of x ≤ 18
within names.Object = omega arith
within names.Startup = omega arith
within names.Shutdown = omega arith
within names.Any = omega arith
within names.Default = omega arith
within names.Named = omega arith
within names.Initialized = omega arith
within names.BeforeDestroyed = omega arith
within names.Destroyed = omega arith
within names.Value = omega arith
within names.ContextNotActiveException = omega arith
within names.CreationException = omega arith
within names.IllegalProductException = omega arith
within names.IllegalStateException = omega arith
within names.IllegalArgumentException = omega arith
within names.NullPointerException = omega arith
within names.ObserverException = omega arith
within names.UnsatisfiedResolutionException = omega arith
within names.AmbiguousResolutionException = omega arith

module _ (d : Deployment) (texts : has_texts d ≡ true) where
  parts : (has_text d.names 18 ≡ true) × (list_all (λ (x : Exception). has_text d.names x.name) d.exceptions ≡ true)
  parts = and_parts (has_text d.names 18) (list_all (λ (x : Exception). has_text d.names x.name) d.exceptions) texts

  pub built_in_text : (x : BuiltIn) → HasTextIn d.names (number_of x)
  built_in_text x = text_of d.names (number_of x) (below d.names (number_of x) 18 (within x) parts.0)

  -- of several tests one is passed
  first_or : (x : ℕ) (b : BuiltIn) (t : Bool) → (t ≡ true → HasTextIn d.names x) → (t || is_built_in b x) ≡ true → HasTextIn d.names x
  first_or x b t rest e = by (or_cases t (is_built_in b x) e)
    where
      by : (t ≡ true) ⊎ (is_built_in b x ≡ true) → HasTextIn d.names x
      by (inl h) = rest h
      by (inr h) = subst (HasTextIn d.names) (eqb-true (number_of b) x h) (built_in_text b)

  built_in_exception : (x : ℕ) → is_built_in_exception x ≡ true → HasTextIn d.names x
  built_in_exception x e =
      first_or x names.AmbiguousResolutionException _
      (first_or x names.UnsatisfiedResolutionException _
      (first_or x names.ObserverException _
      (first_or x names.NullPointerException _
      (first_or x names.IllegalArgumentException _
      (first_or x names.IllegalStateException _
      (first_or x names.IllegalProductException _
      (first_or x names.CreationException _
      (λ h. subst (HasTextIn d.names) (eqb-true 10 x h) (built_in_text names.ContextNotActiveException)))))))))
      e

  pub exception_text : (x : ℕ) → is_exception d x ≡ true → HasTextIn d.names x
  exception_text x e = by (or_cases (is_built_in_exception x) (is_declared d.exceptions x) e)
    where
      by : (is_built_in_exception x ≡ true) ⊎ (is_declared d.exceptions x ≡ true) → HasTextIn d.names x
      by (inl h) = built_in_exception x h
      by (inr h) =
          let found = passing (λ (k : Exception). nat_eq k.name x) d.exceptions h in
          subst (HasTextIn d.names) (eqb-true found.item.name x found.passes)
          (text_of d.names found.item.name (all_pass (λ (k : Exception). has_text d.names k.name) d.exceptions found.item parts.1 found.stands))
