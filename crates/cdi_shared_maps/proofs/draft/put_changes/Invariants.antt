use Rattle.std.proofs.Common.{◌≡◌, ℕ, drop}
use Rattle.cdi_shared_maps.specs.Maps.{changed}
use Rattle.cdi_shared_maps.specs.Pages.{value_at, IsDraft, KeepsPages}
use Rattle.cdi_shared_maps.proofs.draft.put_changes.Given as goal

abbrev pub invariant-loop-i : goal.invariant-loop-i
invariant-loop-i l = record {
  draft : IsDraft l.pages l.table l.shared;
  values : (key : ℕ) → value_at l.pages l.table key ≡ changed (drop l.i l.changes) (value_at l.fn.pages l.fn.table) key;
  kept : KeepsPages l.fn.pages l.pages l.shared;
}
