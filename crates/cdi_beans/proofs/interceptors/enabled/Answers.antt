use Rattle.std.specs.List.{enumerate_from}
use Rattle.cdi_beans.specs.Interceptors.{listed}
use Rattle.cdi_beans.proofs.Adding.{filter_map_more}
use Rattle.cdi_beans.proofs.interceptors.enabled.Goals as goal

pub loop-name-preserved : goal.loop-name-preserved
loop-name-preserved c =
    let i = c.loop-name in
    filter_map_more (listed (enumerate_from 0 c.as_slice-interceptors.result.now)) c.as_slice-name-items.result.now i.name-index c.name-item.result c.in_ok-enabled.enabled i.enabled c.add_listed.new.enabled c.loop-name-test.true c.name-item.is c.in_ok-add_listed.ensures i.invariant
