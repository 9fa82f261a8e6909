-- What is legal under registered bodies.
use Rattle.std.specs.Prelude.{List}
use Rattle.cdi_bodies.specs.declared.chooser.Chooser.{Chooser}
use Rattle.cdi_bodies.specs.declared.entry.Entry.{Entry}
use Rattle.cdi_bodies.specs.Gives.{gives, LiesInShape}
use Rattle.cdi_bodies.specs.Picks.{picks}
use Rattle.cdi_machine.specs.Runs.{Legal}

-- any act that the registered bodies may give, and any pick
abbrev pub legal_of : {X : Type 0} {F : X → Type 0} {g : _} → List (Entry X F g) → Legal
legal_of entries =
    record {
      gives = λ body count fields view act. gives entries body fields view act;
      picks = λ candidates count choice. Unit {0};
    }

-- any act that the registered bodies may give, and the picks that the chooser may answer
abbrev pub chosen_by : {X : Type 0} {F : X → Type 0} {g : _} {Y : Type 0} {G : Y → Type 0} {h : _}
    → List (Entry X F g) → Chooser Y G h → Legal
chosen_by entries chooser =
    record {
      gives = λ body count fields view act. gives entries body fields view act;
      picks = λ candidates count choice. picks chooser candidates count choice;
    }

-- any act that lies in its body's shape, and any pick
abbrev pub in_shapes : {X : Type 0} {F : X → Type 0} {g : _} → List (Entry X F g) → Legal
in_shapes entries =
    record {
      gives = λ body count fields view act. LiesInShape entries body view act;
      picks = λ candidates count choice. Unit {0};
    }
