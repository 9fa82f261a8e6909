use Rattle.std.proofs.Common.{None}
use Rattle.cdi_shared_maps.proofs.Writes.{get_or-replicate_same}
use Rattle.cdi_shared_maps.proofs.pages.Pages.new.Goals as goal

pub returns-clause-nothing : goal.returns-clause-nothing
returns-clause-nothing c =
    λ place. rw (c.in_ok-push.ensures.items, c.new-pages.ensures.items) (get_or-replicate_same 32 place None)
