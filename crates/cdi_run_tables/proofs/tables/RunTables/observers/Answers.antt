use Rattle.std.proofs.Common.{◌≡◌, subst}
use Rattle.std.specs.Prelude.{IfOk}
use Rattle.cdi_event_tables.specs.Observers.{is_heard_by}
use Rattle.cdi_run_tables.specs.Observers.{heard_groups, planned_groups}
use Rattle.cdi_run_tables.proofs.Heard.{hears_it}
use Rattle.cdi_run_tables.proofs.Observing.{resolved_if_heard, told_if_heard}
use Rattle.cdi_run_tables.proofs.tables.RunTables.observers.Goals as goal

pub returns-clause-heard : goal.returns-clause-heard
returns-clause-heard c =
    let t = c.args.self.now in
    let uses = c.args.qualifiers.now in
    let numbered = c.numbered_observers.result.now in
    let hearing : IfOk c.heard_groups.result (λ all. all ≡ heard_groups (hears_it t c.args.class uses) (planned_groups t) numbered) =
    subst (λ p. IfOk c.heard_groups.result (λ all. all ≡ heard_groups (is_heard_by p.tables.declared c.args.class uses) (planned_groups t) numbered)) c.self.view_is
    (subst (λ gs. IfOk c.heard_groups.result (λ all. all ≡ heard_groups (is_heard_by c.self.inside.parts.tables.declared c.args.class uses) gs numbered)) c.observer_groups.ensures c.heard_groups.ensures) in
    told_if_heard t c.args.class uses numbered c.numbered_observers.ensures c.requires c.heard_groups.result hearing

pub returns-clause-resolved : goal.returns-clause-resolved
returns-clause-resolved c =
    let t = c.args.self.now in
    let uses = c.args.qualifiers.now in
    let numbered = c.numbered_observers.result.now in
    let hearing : IfOk c.heard_groups.result (λ all. all ≡ heard_groups (hears_it t c.args.class uses) (planned_groups t) numbered) =
    subst (λ p. IfOk c.heard_groups.result (λ all. all ≡ heard_groups (is_heard_by p.tables.declared c.args.class uses) (planned_groups t) numbered)) c.self.view_is
    (subst (λ gs. IfOk c.heard_groups.result (λ all. all ≡ heard_groups (is_heard_by c.self.inside.parts.tables.declared c.args.class uses) gs numbered)) c.observer_groups.ensures c.heard_groups.ensures) in
    resolved_if_heard t c.args.class uses numbered c.numbered_observers.ensures c.heard_groups.result hearing
