-- What is legal for bodies that are scripts is legal for the scripts.
use Rattle.std.proofs.Common.{ℕ, zero, suc, ◌≡◌, List, [], ◌∷◌}
use Rattle.cdi_base.specs.declared.act.Act.{Act}
use Rattle.cdi_base.specs.declared.fields.Fields.{Fields}
use Rattle.cdi_bodies.specs.declared.entry.Entry.{Entry}
use Rattle.cdi_bodies.specs.declared.view.View.{View}
use Rattle.cdi_bodies.specs.declared.chooser.Chooser.{Chooser}
use Rattle.cdi_bodies.specs.Gives.{gives}
use Rattle.cdi_bodies.specs.Picks.{picks}
use Rattle.cdi_machine.specs.Laws.{IsWithin}
use Rattle.cdi_machine.specs.Registered.{chosen_by}
use Rattle.cdi_prepare.specs.declared.scripts.NamedScript.{NamedScript}
use Rattle.cdi_prepare.proofs.Holding.{AreBodiesOf}
use Rattle.cdi_base.specs.Chosen.{chosen}
use Rattle.cdi_base.specs.declared.settings.Order.{Order}
use Rattle.cdi_shell.specs.Drive.{legal_by}

module _ {X : Type 0} {F : X → Type 0} {g : _} (order : Order) where
  -- what a body gives is what its script does next
  pub holds_gives : (es : List (Entry X F g)) (ss : List NamedScript) (id count : ℕ) (fields : Fields) (view : View) (act : Act) → AreBodiesOf es ss → gives es id fields view act → (legal_by order ss).gives id count fields view act
  holds_gives [] [] id count fields view act h p = absurd p
  holds_gives [] (s ∷ ss) id count fields view act h p = absurd h
  holds_gives (e ∷ es) [] id count fields view act h p = absurd h
  holds_gives (e ∷ es) (s ∷ ss) zero count fields view act h p = h.0.runs fields view act p
  holds_gives (e ∷ es) (s ∷ ss) (suc id) count fields view act h p = holds_gives es ss id count fields view act h.1 p

  -- so is what the chooser may pick, if it answers by the order
  pub within : {Y : Type 0} {G : Y → Type 0} {k : _} (chooser : Chooser Y G k) (es : List (Entry X F g)) (ss : List NamedScript) → ((candidates count i : ℕ) → picks chooser candidates count i → i ≡ chosen order candidates) → AreBodiesOf es ss
      → IsWithin (chosen_by es chooser) (legal_by order ss)
  within chooser es ss first h = record { act = λ id count fields view a p. holds_gives es ss id count fields view a h p; pick = λ candidates count i p. first candidates count i p }
