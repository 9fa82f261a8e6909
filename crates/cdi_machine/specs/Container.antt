-- A container between commands: which commands are refused, and what the others are answered.
use Rattle.std.specs.Prelude.{ℕ, ◌≡◌, ◌++◌, List, [], ◌∷◌, map, length, drop, Bool, true, false, not, Option, Some, None, nat_eq, if◌then◌else◌}
use Rattle.cdi_base.specs.declared.entry.Entry.{Entry}
use Rattle.cdi_base.specs.declared.reply.Reply.{Reply}
use Rattle.cdi_base.specs.declared.reply.Reply.TheVariants as replies
use Rattle.cdi_base.specs.declared.reply.Refusal.{Refusal}
use Rattle.cdi_base.specs.declared.reply.Refusal.TheVariants as refusals
use Rattle.cdi_base.specs.Maps.{at}
use Rattle.cdi_contexts.specs.Contexts.{Contexts}
use Rattle.cdi_contexts.specs.Refusals.{first_that_holds, begin_refusals, invalidate_refusals, request_refusals}
use Rattle.cdi_machine.specs.Words.{Name}
use Rattle.cdi_machine.specs.Tables.{Tables, Method, Kind, Bean, Resolution, One}
use Rattle.cdi_machine.specs.World.{World, at_begin, before_boot}
use Rattle.cdi_machine.specs.Programs.{Given, Result, Completion}
use Rattle.cdi_machine.specs.Commands.{Command, task}
use Rattle.cdi_machine.specs.Runs.{Legal, Outcome, Ends, Cut, Runs}

pub record State : Type 0 where
  pub world : World
  pub halted : Bool
  -- a command was started and isn't over
  pub busy : Bool
  -- so many entries in front of the trace aren't shown any more
  pub shown_from : ℕ

-- no command is under way, and the whole trace is shown
abbrev pub idle_state : World → Bool → State
idle_state w halted = record { world = w; halted = halted; busy = false; shown_from = 0 }

abbrev pub before_commands : ℕ → ℕ → State
before_commands ticks depth = idle_state (before_boot ticks depth) false

-- the entries that are shown
abbrev pub shown_entries : State → List Entry
shown_entries s = drop s.shown_from s.world.trace

-- ---- refusals

-- what the contexts refuse
abbrev pub refused_by_contexts : Contexts → Command → List (Bool × Refusal)
refused_by_contexts c (Command.Begin r s) = begin_refusals c r s
refused_by_contexts c (Command.Invalidate s) = invalidate_refusals c s
refused_by_contexts c (Command.End r) = request_refusals c (Some r)
refused_by_contexts c (Command.Call r asked method args) = request_refusals c r
refused_by_contexts c (Command.Read r asked) = request_refusals c r
refused_by_contexts c (Command.Fire r class qualifiers v) = request_refusals c r
refused_by_contexts c _ = []

abbrev pub no_method : Option Method → Bool
no_method None = true
no_method (Some m) = false

abbrev pub wrong_count : Option Method → ℕ → Bool
wrong_count None n = false
wrong_count (Some m) n = not (nat_eq m.count n)

-- what the bean refuses: a call wants a method with so many values, a read wants a product
abbrev pub call_refusals : Option Bean → Name → ℕ → List (Bool × Refusal)
call_refusals None method n = []
call_refusals (Some bean) method n = elim bean.kind [
  | Kind.Class c ↦
      (no_method (at c.methods method), refusals.NoMethod) ∷
      (wrong_count (at c.methods method) n, refusals.WrongCount) ∷
      []
  | Kind.Producer p ↦ (true, refusals.NoMethod) ∷ []
]

abbrev pub read_refusals : Option Bean → List (Bool × Refusal)
read_refusals None = []
read_refusals (Some bean) =
    elim bean.kind [ Kind.Class c ↦ (true, refusals.NoMethod) ∷ [] | Kind.Producer p ↦ [] ]

abbrev pub bean_of : Tables → Resolution → Option Bean
bean_of t (One b) = t.bean b
bean_of t _ = None

abbrev pub refused_by_tables : Tables → Command → List (Bool × Refusal)
refused_by_tables t (Command.Call r asked method args) =
    (not (t.is_known asked), refusals.UnknownName) ∷
    call_refusals (bean_of t (t.resolve asked)) method (length args)
refused_by_tables t (Command.Read r asked) =
    (not (t.is_known asked), refusals.UnknownName) ∷ read_refusals (bean_of t (t.resolve asked))
refused_by_tables t (Command.Fire r class qualifiers v) =
    (not (t.is_event class qualifiers), refusals.UnknownName) ∷ []
refused_by_tables t c = []

abbrev pub refusal : Tables → State → Command → Option Refusal
refusal t s c =
    first_that_holds
    ((s.halted, refusals.Halted) ∷
    (s.world.down, refusals.Down) ∷
    (s.busy, refusals.Busy) ∷
    refused_by_contexts s.world.contexts c ++ refused_by_tables t c)

-- ---- replies

-- calls and reads answer their value
abbrev pub given_to : Command → World → Given → Reply
given_to (Command.Call r asked method args) w (Result v) = replies.Value v
given_to (Command.Read r asked) w (Result v) = replies.Value v
given_to Command.Live w g = replies.Live (map (λ p. p.0) w.instances)
given_to c w g = replies.Done

abbrev pub reply_to : Command → Outcome → World → Reply
reply_to c (Ends (Completion.Gave g)) w = given_to c w g
reply_to c (Ends (Completion.Threw x)) w = replies.Threw x
reply_to c (Cut cause) w = replies.Halted cause

abbrev pub is_cut : Outcome → Bool
is_cut (Cut cause) = true
is_cut (Ends c) = false

abbrev pub state_after : Outcome → World → State
state_after o w = idle_state w (is_cut o)

-- What was written so far isn't shown any more. While a command is under way, its world stays as it is; else the trace is
-- emptied, and there is no environment.
abbrev pub after_refusal : State → State
after_refusal s =
    if s.busy
    then record s { shown_from = length s.world.trace }
    else idle_state (at_begin s.world) s.halted

-- ---- a command

-- A command is refused, or it is carried out, with an empty trace at first, and a cut halts the container.
pub data GivesReply (tables : Tables) (legal : Legal)
    : State → Command → Reply → State → Type 0 where
  refuses : {s : State} {c : Command} (r : Refusal) → refusal tables s c ≡ Some r
      → GivesReply tables legal s c (replies.Refused r) (after_refusal s)
  carries_out : {s : State} {c : Command} {o : Outcome} {v : World} → refusal tables s c ≡ None
      → Runs tables legal ⊥ (task c) (at_begin s.world) o v
      → GivesReply tables legal s c (reply_to c o v) (state_after o v)

-- the commands, one after the other, lead a container from the one state to the other
pub data Leads (tables : Tables) (legal : Legal) : State → List Command → State → Type 0 where
  stays : {s : State} → Leads tables legal s [] s
  goes_on : {s t u : State} {c : Command} {r : Reply} {cs : List Command}
      → GivesReply tables legal s c r t → Leads tables legal t cs u
      → Leads tables legal s (c ∷ cs) u

-- what is shown of a command
pub record Said : Type 0 where
  pub entries : List Entry
  pub reply : Reply

pub data Plays (tables : Tables) (legal : Legal) : State → List Command → List Said → Type 0 where
  ends : {s : State} → Plays tables legal s [] []
  goes_on : {s t : State} {c : Command} {r : Reply} {cs : List Command} {said : List Said}
      → GivesReply tables legal s c r t → Plays tables legal t cs said
      → Plays tables legal s (c ∷ cs) (record { entries = shown_entries t; reply = r } ∷ said)
