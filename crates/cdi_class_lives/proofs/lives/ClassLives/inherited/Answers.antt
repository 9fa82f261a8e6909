use Rattle.std.proofs.Common.{◌≡◌, ◌∙◌, ℕ, Option, Some, None, sym, ap, subst}
use Rattle.cdi_class_lives.proofs.Keeping.{is_kept_below}
use Rattle.cdi_class_lives.specs.ClassLives.{life_from}
use Rattle.cdi_class_lives.specs.Kept.{IsKept}
use Rattle.cdi_class_lives.specs.Lives.{inherited}
use Rattle.cdi_class_lives.specs.declared.life.ClassLife.{ClassLife}
use Rattle.cdi_class_lives.specs.declared.lives.ClassLives.{ClassLives}
use Rattle.cdi_class_lives.proofs.lives.ClassLives.inherited.Goals as goal

kept_above : (self : ClassLives) (above : Option ℕ) (life : ClassLife) → life_from self above ≡ Some life → IsKept self.steps self.fields self.methods life
kept_above self None life e = absurd cc
kept_above self (Some class) life e = self.kept class life e

pub returns-clause-kept : goal.returns-clause-kept
returns-clause-kept c =
    let self = c.args.self.now in
    let is : c.in_ok-life.life ≡ inherited (life_from self c.args.above) self.steps c.args.class c.args.declared.now =
    c.in_ok-life.ensures
    ∙ ap (λ above. inherited above c.as_slice-kept.result.now c.args.class c.args.declared.now) c.life.ensures
    ∙ ap (λ kept. inherited (life_from self c.args.above) kept c.args.class c.args.declared.now) c.as_slice-kept.ensures in
    subst (IsKept self.steps self.fields self.methods) (sym is)
    (is_kept_below self.steps self.fields self.methods (life_from self c.args.above) c.args.class c.args.declared.now (kept_above self c.args.above))
