use Rattle.std.proofs.Common.{sym, subst}
use Rattle.cdi_frames.specs.Stacks.{KnownFrames, KnownPending}
use Rattle.cdi_run_tables.specs.Machine.{machine_tables}
use Rattle.cdi_runtime.specs.Standing.{RuntimeParts}
use Rattle.cdi_steps.specs.Known.{AllInvoked, KnownJob}
use Rattle.cdi_container.proofs.container.begun.Goals as goal

-- a command that begins changes no contexts
pub returns-clause-known : goal.returns-clause-known
returns-clause-known g c =
    let t = c.begin.new.self in
    record {
      frames = subst (KnownFrames (machine_tables t.tables)) (sym c.start.ensures.frames) tt;
      pending =
          subst (KnownPending (machine_tables t.tables) t.world) (sym c.start.ensures.pending)
          (subst (λ (r : RuntimeParts _). KnownJob (machine_tables r.tables) r.world c.args.job) (sym c.begin.ensures) c.requires);
      invoked = subst (λ (r : RuntimeParts _). AllInvoked (machine_tables r.tables) r.world) c.runtime.view_is c.runtime.invariant.invoked;
    }
