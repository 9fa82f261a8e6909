use Rattle.std.proofs.Common.{◌∙◌, sym, ap}
use Rattle.cdi_run_tables.specs.Asked.{AreTold}
use Rattle.cdi_run_tables.specs.Kept.{AreRunTables}
use Rattle.cdi_run_tables.specs.Machine.{resolution_of}
use Rattle.cdi_run_tables.specs.Seen.{parts_seen}
use Rattle.cdi_run_tables.specs.declared.asked.CommandAnswers.{CommandAnswers}
use Rattle.cdi_run_tables.specs.declared.index.RunIndex.{RunIndex}
use Rattle.cdi_run_tables.specs.declared.parts.KeptParts.{KeptParts}
use Rattle.cdi_run_tables.proofs.tables.RunTables.ask.Goals as goal

-- an index with other answers
with_asked : (p : KeptParts) (i : RunIndex) (asked : CommandAnswers) → AreRunTables p i → AreTold (parts_seen p) asked → AreRunTables p (record i { asked = asked })
with_asked p i asked is told =
    record {
      kept = is.kept;
      index = record {
        names = is.index.names;
        checked = is.index.checked;
        events = is.index.events;
        observers = is.index.observers;
        interceptor_steps = is.index.interceptor_steps;
        asked = told;
      };
    }

pub invariant_of-self : goal.invariant_of-self
invariant_of-self c =
    let t = c.self.inside in
    with_asked t.parts t.index c.promote.new.self c.self.invariant (c.promote.ensures (parts_seen t.parts) c.self.invariant.index.asked)

pub returns-in-Some-clause-told : goal.returns-in-Some-clause-told
returns-in-Some-clause-told c =
    c.in-Some.ensures (parts_seen c.self.inside.parts) c.self.invariant.index.asked ∙ ap (λ t. resolution_of t c.args.ty c.args.uses.now) c.self.view_is

pub invariant_of-self-2 : goal.invariant_of-self-2
invariant_of-self-2 c =
    let t = c.self.inside in
    with_asked t.parts t.index c.remember.new.self c.self.invariant
    (c.remember.ensures (parts_seen t.parts) c.self.invariant.index.asked (c.resolve_anew-told.ensures ∙ ap (λ t. resolution_of t c.args.ty c.args.uses.now) (sym c.self.view_is)))
