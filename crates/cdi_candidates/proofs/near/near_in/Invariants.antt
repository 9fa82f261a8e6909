use Rattle.std.proofs.Common.{◌≡◌, ◌++◌, drop}
use Rattle.std.specs.List.{enumerate_from, flat_map}
use Rattle.cdi_candidates.specs.Near as spec
use Rattle.cdi_resolve.specs.Filters.{is_enabled}
use Rattle.cdi_candidates.proofs.near.near_in.Given as goal

abbrev pub invariant-loop-index : goal.invariant-loop-index
invariant-loop-index l =
    let q = l.question in
    l.near ++ flat_map (λ b. spec.near_bean q.selected.now q.ty q.required.now (is_enabled l.flags b.0) b.1) (enumerate_from l.index (drop l.index l.beans))
    ≡ spec.near_in q.selected.now q.ty q.required.now l.beans l.flags
