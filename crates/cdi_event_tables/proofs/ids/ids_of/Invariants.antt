use Rattle.std.proofs.Common.{◌≡◌, ℕ, Some, nat_eq, drop, if◌then◌else◌}
use Rattle.std.specs.HashMap.{get}
use Rattle.cdi_bodies.specs.Gives.{place_of}
use Rattle.cdi_bodies.specs.Table.{entries_of}
use Rattle.cdi_body_check.specs.Sites.{shown}
use Rattle.cdi_event_tables.specs.Ids.{is_named, told_of}
use Rattle.cdi_event_tables.proofs.ids.ids_of.Given as goal

-- once those that are left are put down, each name has what is told of it
abbrev pub invariant-loop-site : goal.invariant-loop-site
invariant-loop-site g l =
    (name : ℕ) → (if is_named (shown (drop l.site-index l.sites)) name then Some (place_of (entries_of l.bodies) name) else get nat_eq l.ids name)
    ≡ told_of (place_of (entries_of l.bodies)) (shown l.sites) name
