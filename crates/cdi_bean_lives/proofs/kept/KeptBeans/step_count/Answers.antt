use Rattle.std.proofs.Common.{◌∙◌, ◌^◌, length, Some, sym, ap}
use Rattle.std.specs.Option.{option_copied}
use Rattle.std.proofs.lemmas.Bool.{ltb-true}
use Rattle.cdi_bean_lives.proofs.Lasting.{few_at}
use Rattle.cdi_bean_lives.specs.Steps.{kept_steps}
use Rattle.cdi_bean_lives.specs.declared.kept.KeptBean.TheVariants as kept_beans
use Rattle.cdi_bean_lives.proofs.kept.KeptBeans.step_count.Goals as goal

pub step_count-requires : goal.step_count-requires
step_count-requires c =
    let self = c.args.self.now in
    let life = c.in-Some-Managed.life in
    ltb-true (length (kept_steps self.lives life)) (2 ^ 32)
    (few_at self.lives self.beans c.args.bean (kept_beans.Managed life) self.few
    (sym c.get.ensures ∙ ap option_copied c.in-Some-Managed.is ∙ ap Some c.in-Some-Managed.field-0-is))
