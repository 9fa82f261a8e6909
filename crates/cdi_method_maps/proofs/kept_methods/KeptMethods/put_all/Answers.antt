use Rattle.cdi_method_maps.proofs.Growth.{Grows-trans}
use Rattle.cdi_method_maps.proofs.Puts.{IsChangeFor-grown, Puts-push}
use Rattle.cdi_method_maps.proofs.kept_methods.KeptMethods.put_all.Goals as goal

pub loop-named-preserved : goal.loop-named-preserved
loop-named-preserved c =
    let i = c.loop-named in
    let kept = c.put.new.self in
    let named = c.in-Some.named in
    let change = c.in_ok-change.change in
    let step = c.in_ok-change.ensures in
    record {
      grows = Grows-trans c.args.self.now i.self kept i.invariant.grows step.grows;
      puts = λ later grows. rw c.in_ok-push.ensures.items (Puts-push later i.yielded i.changes.items named change (i.invariant.puts later (Grows-trans i.self kept later step.grows grows)) (IsChangeFor-grown kept later named change grows step.change));
    }
