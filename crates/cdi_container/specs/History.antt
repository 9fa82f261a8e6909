-- The items that a container has written since its start, the latest first.
use Rattle.std.specs.Prelude.{ℕ, List, []}
use Rattle.cdi_base.specs.declared.reply.Reply.{Reply}
use Rattle.cdi_machine.specs.Tables.{Tables}
use Rattle.cdi_machine.specs.World.{World}
use Rattle.cdi_machine.specs.Programs.{Given, Prog}
use Rattle.cdi_machine.specs.Commands.{Command}
use Rattle.cdi_machine.specs.Runs.{Legal, Outcome}
use Rattle.cdi_whole.specs.Beginnings.{BeginsOnce}
use Rattle.cdi_ledger.specs.Ledger.{Item, items_of, InOrder}
use Rattle.cdi_container.specs.States.{ContainerState, CarriesOut, AnswersCommand, before_start, after_refusal}

abbrev pub carried_items : {tables : Tables} {legal : Legal} {Starved : Type 0} {p : Prog Given}
    {w v : World} {o : Outcome}
    → List Item → CarriesOut tables legal Starved p w o v → List Item
carried_items h (CarriesOut.ends r) = items_of h r
carried_items h (CarriesOut.starves s r) = items_of h r

-- those of a command, behind those before it
abbrev pub answer_items : {tables : Tables} {legal : Legal} {Starved : Type 0} {s t : ContainerState}
    {c : Command} {reply : Reply}
    → List Item → AnswersCommand tables legal Starved s c reply t → List Item
answer_items h (AnswersCommand.refuses r e is stays) = h
answer_items h (AnswersCommand.carries_out o e carries halts is) = carried_items h carries
answer_items h (AnswersCommand.lacks_memory starved asks e is halts) = h

-- what stands written, and the container's state, after some commands and lines that are none
pub data History (tables : Tables) (legal : Legal) (Starved : Type 0)
    : ContainerState → List Item → Type 0 where
  begins : (ticks depth : ℕ) → History tables legal Starved (before_start ticks depth) []
  answers : {s t : ContainerState} {h : List Item} {c : Command} {reply : Reply}
      → History tables legal Starved s h
      → (a : AnswersCommand tables legal Starved s c reply t)
      → History tables legal Starved t (answer_items h a)
  refuses_line : {s : ContainerState} {h : List Item} → History tables legal Starved s h
      → History tables legal Starved (after_refusal s) h

-- it is in order
abbrev pub KeepsOrder : Tables → Legal → Type 0
KeepsOrder tables legal =
    (s : ContainerState) (h : List Item) → History tables legal (Unit {0}) s h → InOrder h

-- and each destruction begins its callbacks exactly once
abbrev pub BeginsFarewellsOnce : Tables → Legal → Type 0
BeginsFarewellsOnce tables legal =
    (s : ContainerState) (h : List Item) → History tables legal (Unit {0}) s h
    → BeginsOnce tables h
