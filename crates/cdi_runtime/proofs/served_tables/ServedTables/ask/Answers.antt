use Rattle.std.proofs.Common.{◌≡◌, ◌∙◌, sym, ap, subst}
use Rattle.cdi_run_tables.specs.Machine.{machine_tables, machine_resolution as machine_told}
use Rattle.cdi_host.specs.Asked.{asked_for, machine_resolution}
use Rattle.cdi_runtime.proofs.Served.{numbered_resolved}
use Rattle.cdi_runtime.proofs.served_tables.ServedTables.ask.Goals as goal

pub numbered-requires : goal.numbered-requires
numbered-requires c = numbered_resolved c.self.inside.tables c.self.invariant c.args.bean_type c.args.qualifiers.now c.ask.result c.ask.ensures.told

pub returns-clause-told : goal.returns-clause-told
returns-clause-told c =
    subst (λ t. (machine_tables t).resolve (asked_for c.args.bean_type c.args.qualifiers.now) ≡ machine_resolution c.numbered.result) c.self.view_is
    (sym (ap machine_told c.ask.ensures.told) ∙ sym c.numbered.ensures)
