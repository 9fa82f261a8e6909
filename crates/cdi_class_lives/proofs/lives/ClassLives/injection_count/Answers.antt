use Rattle.std.proofs.Common.{◌∙◌, sym, ap, length}
use Rattle.cdi_class_lives.specs.ClassLives.{injections_in}
use Rattle.cdi_class_lives.proofs.Keeping.{same_length}
use Rattle.cdi_class_lives.proofs.lives.ClassLives.injection_count.Goals as goal

pub returns-in-Some : goal.returns-in-Some
returns-in-Some c =
    let self = c.args.self.now in
    let life = c.in-Some.life.now in
    c.len.ensures
    ∙ same_length self.steps life.injections (self.kept c.args.class life (sym c.in-Some.ensures)).step_places
    ∙ ap (λ o. length (injections_in self o)) c.in-Some.ensures
