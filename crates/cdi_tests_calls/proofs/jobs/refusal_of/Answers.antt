use Rattle.std.proofs.Common.{sym, subst}
use Rattle.cdi_run_tables.specs.Machine.{machine_tables}
use Rattle.cdi_runtime.specs.Standing.{RuntimeParts}
use Rattle.cdi_steps.specs.Known.{KnownJob}
use Rattle.cdi_tests_calls.proofs.jobs.refusal_of.Goals as goal

pub returns-then-is_call : goal.returns-then-is_call
returns-then-is_call g c = record {
  known = λ none. c.is_call.ensures c.if-is_call.true (machine_tables c.args.runtime.now.tables) c.args.runtime.now.world (c.forget_resolution.ensures (machine_tables c.args.runtime.now.tables));
}

pub refusal-requires : goal.refusal-requires
refusal-requires g c = c.forget_resolution.ensures (machine_tables c.args.runtime.now.tables)

pub returns : goal.returns
returns g c =
    let told = c.refusal.ensures in
    record { known = λ none. subst (λ (r : RuntimeParts _). KnownJob (machine_tables r.tables) r.world c.refusal.new.job) (sym told.kept) (told.known none) }
