use Rattle.std.proofs.Common.{◌≡◌, ◌≤◌, length, arith}
use Rattle.cdi_prepare.specs.declared.reading.Prepared.{Prepared}
use Rattle.cdi_prepare.proofs.Counted.{few-scripts, weaker}
use Rattle.cdi_prepare.proofs.reading.prepare.Goals as goal

pub returns-in-Ok-clause-few : goal.returns-in-Ok-clause-few
returns-in-Ok-clause-few c =
    let few = few-scripts c.args.bytes.now c.in-Ok.deployment c.in-Ok.ensures.gives in
    weaker (λ (p : Prepared). length p.scripts.items ≡ length c.in-Ok.deployment.scripts) (λ (p : Prepared). length p.scripts.items ≤ 4096) c.prepare_scripts.result (λ p h. omega (arith, h, few)) c.prepare_scripts.ensures.count
