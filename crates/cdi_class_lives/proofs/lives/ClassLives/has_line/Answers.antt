use Rattle.std.proofs.Common.{◌≡◌, ◌∙◌, ℕ, List, Option, Some, None, option_map, sym, ap}
use Rattle.std.proofs.lemmas.Bool.Decides.{Decides-eqb}
use Rattle.std.proofs.lemmas.Option.{same_Some}
use Rattle.std.proofs.lemmas.Slice.Eq.{slice_eq-Decides}
use Rattle.cdi_class_lives.specs.declared.life.ClassLife.{ClassLife}
use Rattle.cdi_class_lives.proofs.lives.ClassLives.has_line.Goals as goal

pub returns-in-Some : goal.returns-in-Some
returns-in-Some c =
    let decided = slice_eq-Decides Decides-eqb c.as_slice.result.now c.args.line.now c.eq.result c.eq.ensures in
    let line = ap (option_map (λ (life : ClassLife). life.line)) (sym c.in-Some.ensures) in (
      λ e. line ∙ ap Some (sym c.as_slice.ensures ∙ decided.0 e),
      λ e. decided.1 (c.as_slice.ensures ∙ same_Some c.in-Some.life.now.line c.args.line.now (sym line ∙ e)),
    )
