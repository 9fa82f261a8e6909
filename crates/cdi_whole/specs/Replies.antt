-- What commands that aren't refused ask for, and what they are replied.
use Rattle.std.specs.Prelude.{ℕ, ◌≡◌, List, length, Option, Some, None}
use Rattle.cdi_base.specs.declared.act.Act.{Act}
use Rattle.cdi_base.specs.declared.act.Act.TheVariants as acts
use Rattle.cdi_base.specs.declared.reply.Reply.TheVariants as replies
use Rattle.cdi_machine.specs.Commands.{Command}
use Rattle.cdi_machine.specs.Container.{State, before_commands, refusal, GivesReply, Leads}
use Rattle.cdi_machine.specs.Runs.{Legal}
use Rattle.cdi_machine.specs.Tables.{Bean, Kind, One, Product, Tables}
use Rattle.cdi_machine.specs.Words.{Asked, Name}
use Rattle.cdi_whole.specs.Worked.{legal_by, tables as worked_tables}
use Rattle.cdi_whole.specs.Fits.{Fits, HasText}

-- a read that isn't refused, of what resolves to a bean of the tables, is one of a product
abbrev pub ReadsProducts : Tables → Type 0
ReadsProducts tables =
    (s : State) (request : Option (List ℕ)) (asked : Asked)
    → refusal tables s (Command.Read request asked) ≡ None
    → (b : ℕ) (bean : Bean) → tables.resolve asked ≡ One b → tables.bean b ≡ Some bean
    → (p : Product) × (bean.kind ≡ Kind.Producer p)

-- If the tables and the bodies fit one another, then in each state that commands lead to, an exception with which a command
-- is answered is one whose class has a text.
abbrev pub AnswersWithText : Tables → Legal → Type 0
AnswersWithText tables legal =
    Fits tables legal → (ticks depth : ℕ) (cs : List Command) (s : State)
    → Leads tables legal (before_commands ticks depth) cs s
    → (c : Command) (x : Name) (t : State) → GivesReply tables legal s c (replies.Threw x) t
    → HasText tables x

-- the callback calls the method of its own class, which takes one value, without a value
abbrev pub CallWithNone : Act → Type 0
CallWithNone (acts.Own name args) = (name ≡ 7) × (length args ≡ 0)
CallWithNone _ = ⊥

abbrev pub RefusesWrongCounts : Type 0
RefusesWrongCounts = Fits worked_tables (legal_by CallWithNone) → ⊥
