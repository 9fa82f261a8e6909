use Rattle.std.proofs.Common.{refl, arith}
use Rattle.cdi_calls.proofs.ReferenceSteps.{proxy_asks, proxy_held}
use Rattle.cdi_steps.proofs.Results.{map_ok}
use Rattle.cdi_steps.proofs.Made.{leaves_alone}
use Rattle.cdi_calls.proofs.references.use_proxy.Goals as goal

pub returns-in-Some-clause-step : goal.returns-in-Some-clause-step
returns-in-Some-clause-step g c =
    map_ok c.use_instance.result (λ next h. record {
      leads = proxy_held (g.T.Tables.tables c.args.tables.now) c.args.bean c.args.purpose (g.W.Contents.world c.args.world.now) c.in-Some.number next (g.W.Contents.world c.use_instance.new.world) c.in-Some.ensures h.settles;
      lowers = omega (arith, h.lowers);
      known = h.known;
      invoked = h.invoked;
      quiet = h.quiet;
    }) c.use_instance.ensures.step

pub returns-in-None-clause-step : goal.returns-in-None-clause-step
returns-in-None-clause-step g c =
    leaves_alone (proxy_asks (g.T.Tables.tables c.args.tables.now) c.args.bean c.args.purpose (g.W.Contents.world c.args.world.now)) (omega arith) refl (tt, tt) tt
