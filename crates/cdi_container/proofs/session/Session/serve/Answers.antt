use Rattle.std.proofs.Common.{◌∙◌, ap, refl}
use Rattle.cdi_container.specs.Sessions.{SessionParts}
use Rattle.cdi_container.specs.Sessions.Served.{silent, serves}
use Rattle.cdi_container.proofs.session.Session.serve.Goals as goal

pub returns-in_default-clause-served : goal.returns-in_default-clause-served
returns-in_default-clause-served g c = silent refl refl refl

pub returns-clause-served : goal.returns-clause-served
returns-clause-served g c =
    let booted = c.boot_reply.ensures ∙ ap (λ (k : SessionParts g.row.D.Denot). k.container.booted) c.self.view_is in
    serves (rw (c.deref.ensures.value, c.in-Ok.ensures, booted) at c.serve_lines.ensures.served)
