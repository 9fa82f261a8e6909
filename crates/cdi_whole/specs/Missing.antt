-- Runs in which nothing is missing, for every command.
use Rattle.std.specs.Prelude.{ℕ, ◌≡◌, List, length, Option, Some, None}
use Rattle.cdi_base.specs.declared.value.Value.{Value}
use Rattle.cdi_machine.specs.Tables.{Tables, Bean, One}
use Rattle.cdi_machine.specs.Words.{Name, Asked}
use Rattle.cdi_machine.specs.World.{World, at_begin}
use Rattle.cdi_machine.specs.Programs.{Given, Prog}
use Rattle.cdi_machine.specs.Commands.{Command, task}
use Rattle.cdi_machine.specs.Container.{State, before_commands, refusal, Leads}
use Rattle.cdi_machine.specs.Runs.{Legal, Outcome, Runs}
use Rattle.cdi_whole.specs.Fits.{AnswersCalls, Fits}

-- no point of the run is one at which something is missing
abbrev pub NothingMissing : {tables : Tables} {legal : Legal} {Starved : Type 0} {p : Prog Given}
    {w v : World} {o : Outcome} → Runs tables legal Starved p w o v → Type 0
NothingMissing (Runs.misses r) = ⊥
NothingMissing Runs.returns = Unit {0}
NothingMissing Runs.throws = Unit {0}
NothingMissing Runs.cuts = Unit {0}
NothingMissing (Runs.sees r) = NothingMissing r
NothingMissing (Runs.changes r) = NothingMissing r
NothingMissing (Runs.writes h r) = NothingMissing r
NothingMissing (Runs.is_full h) = Unit {0}
NothingMissing (Runs.marks r) = NothingMissing r
NothingMissing (Runs.does a h r) = NothingMissing r
NothingMissing (Runs.picks i l c r) = NothingMissing r
NothingMissing (Runs.calls r1 r) = NothingMissing r1 × NothingMissing r
NothingMissing (Runs.starves s) = Unit {0}

-- If the tables and the bodies fit one another, then in each state that commands lead a container to, a command that isn't
-- refused misses nothing.
abbrev pub MissesNothing : Tables → Legal → Type 0 → Type 0
MissesNothing tables legal Starved =
    Fits tables legal → (ticks depth : ℕ) (cs : List Command) (s : State)
    → Leads tables legal (before_commands ticks depth) cs s
    → (c : Command) → refusal tables s c ≡ None
    → (o : Outcome) (v : World) → (r : Runs tables legal Starved (task c) (at_begin s.world) o v)
    → NothingMissing r

-- A call that isn't refused asks for what there is: if its type and qualifiers resolve to a bean of the tables, that is a
-- managed one, and has the method, with as many values.
abbrev pub AsksWhatIsThere : Tables → Type 0
AsksWhatIsThere tables =
    (s : State) (request : Option (List ℕ)) (asked : Asked) (method : Name) (args : List Value)
    → refusal tables s (Command.Call request asked method args) ≡ None
    → (b : ℕ) (bean : Bean) → tables.resolve asked ≡ One b → tables.bean b ≡ Some bean
    → AnswersCalls tables b method (length args)
