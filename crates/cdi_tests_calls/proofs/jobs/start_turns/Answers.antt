use Rattle.std.proofs.Common.{sym, subst}
use Rattle.cdi_run_tables.specs.Machine.{machine_tables}
use Rattle.cdi_runtime.specs.Standing.{RuntimeParts}
use Rattle.cdi_steps.specs.Known.{AllInvoked, KnownJob}
use Rattle.cdi_tests_calls.proofs.jobs.start_turns.Goals as goal

pub returns : goal.returns
returns g c =
    record {
      known = record {
        frames = rw c.start.ensures.frames tt;
        pending = rw c.start.ensures.pending (subst (λ (r : RuntimeParts _). KnownJob (machine_tables r.tables) r.world c.args.job) (sym c.begin.ensures) c.requires);
        invoked = subst (λ (r : RuntimeParts _). AllInvoked (machine_tables r.tables) r.world) c.runtime.view_is c.runtime.invariant.invoked;
      };
    }
