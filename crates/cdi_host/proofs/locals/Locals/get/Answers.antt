use Rattle.std.proofs.Common.{◌∙◌, ap}
use Rattle.cdi_base.specs.Maps.{at}
use Rattle.cdi_store.proofs.Entries.{at-lookup}
use Rattle.cdi_host.proofs.locals.Locals.get.Goals as goal

pub returns-in-Some : goal.returns-in-Some
returns-in-Some c =
    c.copied.ensures ∙ (rw c.deref.ensures at c.get.ensures.value) ∙ at-lookup c.in-Some.entries.value.entries c.args.lookup
    ∙ ap (λ m. at m c.args.lookup) (rw c.in-Some.is at c.self.view_is)
