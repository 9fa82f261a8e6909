-- The registered bodies that a deployment names.
use Rattle.std.specs.Prelude.{ℕ, ◌≡◌, ◌==◌, Bool, List, Option, Some, None, nat_eq, option_and_then, if◌then◌else◌}
use Rattle.std.specs.HashMap.{get}
use Rattle.std.specs.List.{list_any}
use Rattle.cdi_bodies.specs.Gives.{place_of}
use Rattle.cdi_bodies.specs.declared.entry.Entry.{Entry}
use Rattle.cdi_body_check.specs.Sites.{Site, sites_of, body_of}
use Rattle.cdi_deployment.specs.declared.deployment.Deployment.{Deployment}
use Rattle.cdi_event_tables.specs.declared.ids.BodyIds.{BodyIds}

-- one of these has a body of this name
abbrev pub is_named : List Site → ℕ → Bool
is_named sites name = list_any (λ s. body_of s == name) sites

-- what is kept for a name, if one of these has a body of it
abbrev pub told_of : (ℕ → Option ℕ) → List Site → ℕ → Option (Option ℕ)
told_of place sites name = if is_named sites name then Some (place name) else None

-- the body of a name, by its number
abbrev pub id_in : BodyIds → ℕ → Option ℕ
id_in ids name = option_and_then (λ id. id) (get nat_eq ids.ids name)

-- each name of a body in a deployment has the number of the body that is registered under it, if one is
pub record AreIdsIn {X : Type 0} {F : X → Type 0} {g : _} (entries : List (Entry X F g))
    (d : Deployment) (ids : BodyIds) : Type 0 where
  pub told :
      (name : ℕ) → get nat_eq ids.ids name ≡ told_of (place_of entries) (sites_of d) name
