use Rattle.std.proofs.Common.{◌≡◌, ◌∙◌, sym, ap, Some, slice_get, option_and_then}
use Rattle.std.specs.Option.{option_copied}
use Rattle.cdi_class_lives.specs.ClassLives.{fields_in}
use Rattle.cdi_class_lives.proofs.Keeping.{told_get}
use Rattle.cdi_class_lives.proofs.lives.ClassLives.field.Goals as goal

pub returns-in_err-place : goal.returns-in_err-place
returns-in_err-place c =
    let self = c.args.self.now in
    let life = c.in_ok-get.field-0.now in
    let is : slice_get self.lives c.args.class ≡ Some life = sym c.in_ok-get.ensures in
    let told = told_get self.fields life.fields c.args.index (self.kept c.args.class life is).field_places in
    ap option_copied c.from_residual-in_err-place.ensures
    ∙ sym (ap (λ o. slice_get (fields_in self o) c.args.index) is ∙ told ∙ ap (option_and_then (slice_get self.fields)) (sym c.in_err-place.ensures))

pub returns : goal.returns
returns c =
    let self = c.args.self.now in
    let life = c.in_ok-get.field-0.now in
    let is : slice_get self.lives c.args.class ≡ Some life = sym c.in_ok-get.ensures in
    let told = told_get self.fields life.fields c.args.index (self.kept c.args.class life is).field_places in
    c.get-3.ensures
    ∙ sym (ap (λ o. slice_get (fields_in self o) c.args.index) is ∙ told ∙ ap (option_and_then (slice_get self.fields)) (sym c.in_ok-place.ensures))
