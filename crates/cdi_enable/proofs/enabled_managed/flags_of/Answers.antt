use Rattle.std.proofs.Common.{◌↔◌, IsTrue, length-append, arith}
use Rattle.cdi_enable.specs.Free.{IsFree}
use Rattle.cdi_enable.proofs.Flags.{flag_push, flags_all}
use Rattle.cdi_enable.proofs.enabled_managed.flags_of.Goals as goal

pub loop-bean-preserved : goal.loop-bean-preserved
loop-bean-preserved c =
    let i = c.loop-bean in
    rw c.in_ok-push.ensures.ok (record { len = simp length-append (omega (arith, i.invariant.len)); told = flag_push (λ b r. IsTrue r ↔ IsFree c.args.beans.now b) i.flags c.is_free.result i.bean i.invariant.len i.invariant.told c.is_free.ensures })

pub returns : goal.returns
returns c = flags_all c.args.beans.now c.loop-bean.flags c.loop-bean.bean c.loop-bean.invariant.len c.loop-bean-test.false c.loop-bean.invariant.told
