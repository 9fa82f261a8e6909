-- The names of exceptions have texts.
use Rattle.std.specs.Prelude.{ℕ, ◌&&◌, Bool, List, is_some, slice_get}
use Rattle.std.specs.List.{list_all}
use Rattle.cdi_base.specs.BuiltIn.{number_of}
use Rattle.cdi_base.specs.declared.built_in.BuiltIn.TheVariants as built_in
use Rattle.cdi_deployment.specs.declared.deployment.Deployment.{Deployment}

abbrev pub has_text : List (List ℕ) → ℕ → Bool
has_text names name = is_some (slice_get names name)

-- the table of names has the built-in names and those of the declared exceptions
abbrev pub has_texts : Deployment → Bool
has_texts d =
    has_text d.names (number_of built_in.AmbiguousResolutionException)
    && list_all (λ x. has_text d.names x.name) d.exceptions
