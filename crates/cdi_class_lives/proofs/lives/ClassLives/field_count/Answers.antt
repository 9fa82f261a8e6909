use Rattle.std.proofs.Common.{◌∙◌, sym, ap, length}
use Rattle.cdi_class_lives.specs.ClassLives.{fields_in}
use Rattle.cdi_class_lives.proofs.Keeping.{same_length}
use Rattle.cdi_class_lives.proofs.lives.ClassLives.field_count.Goals as goal

pub returns-in-Some : goal.returns-in-Some
returns-in-Some c =
    let self = c.args.self.now in
    let life = c.in-Some.life.now in
    c.len.ensures
    ∙ same_length self.fields life.fields (self.kept c.args.class life (sym c.in-Some.ensures)).field_places
    ∙ ap (λ o. length (fields_in self o)) c.in-Some.ensures
