-- Entries that stand for scripts: their bodies may give just what the scripts do next.
use Rattle.std.proofs.Common.{ℕ, zero, suc, ◌≡◌, ◌∙◌, List, [], ◌∷◌, true, refl, ap}
use Rattle.std.proofs.lemmas.Grind.{merely}
use Rattle.std.specs.Prelude.{Result, IfOk}
use Rattle.std.specs.Borrow.{Bor}
use Rattle.std.specs.declared.alloc.AllocError.{AllocError}
use Rattle.cdi_base.specs.declared.act.Act.{Act}
use Rattle.cdi_base.specs.declared.fields.Fields.{Fields}
use Rattle.cdi_bodies.specs.declared.entry.Entry.{Entry}
use Rattle.cdi_bodies.specs.declared.view.View.{View}
use Rattle.cdi_bodies.specs.Gives.{LieInShape, Promises, gives}
use Rattle.cdi_bodies.specs.Shape.{in_shape}
use Rattle.cdi_prepare.specs.declared.scripts.NamedScript.{NamedScript}
use Rattle.cdi_prepare.proofs.Holding.{AreBodiesOf}
use Rattle.cdi_script.specs.declared.step.Step.{Step}
use Rattle.cdi_script.specs.Listed.{shape_of}
use Rattle.cdi_script.specs.Next.{next_of}
use Rattle.cdi_script.proofs.Within.{next_of-in_shape}
use Rattle.cdi_base.specs.declared.settings.Order.{Order}
use Rattle.cdi_shell.specs.Drive.{legal_by}
use denote.Param.Members.{Shared, fn_of}
use denote.RawPtr.{null_ptr}

-- what a body is shown
abbrev Shown : Type 0
Shown = Bor Fields × (Bor View × Unit {0})

-- a script in the place of a closure
abbrev Held : Type 0
Held = (script : List Step) × Unit {0}

-- it answers what the script does next
abbrev promise : Shared Held Shown (Result Act AllocError)
promise = fn_of (λ held shown. Unit {0}) (λ held shown answer. IfOk answer (λ act. act ≡ next_of held.0 shown.0.now shown.1.0.now))

abbrev StandIn : Type 0
StandIn = Entry (List Step) (λ script. Unit {0}) promise

stays_within : (script : List Step) (fields : Fields) (view : View) (act : Act) → act ≡ next_of script fields view → in_shape (shape_of script) view act ≡ true
stays_within script fields view act is = ap (in_shape (shape_of script) view) is ∙ next_of-in_shape script fields view

stand_in : NamedScript → StandIn
stand_in s =
    record {
      name = s.name;
      shape = shape_of s.script;
      body = record { ptr = null_ptr; vtable = s.script; alloc = record { memory = record { seal = tt } }; value = tt };
      callable = record { at = λ shown. merely tt };
      within = λ fields view act given. stays_within s.script fields.now view.now act given;
    }

pub stand_ins : List NamedScript → List StandIn
stand_ins [] = []
stand_ins (s ∷ ss) = stand_in s ∷ stand_ins ss

runs : (s : NamedScript) (fields : Fields) (view : View) (act : Act) → Promises (stand_in s) fields view act → act ≡ next_of s.script fields view
unfolding stand_in
runs s fields view act p = p.given ∙ ap (λ (x : Fields). next_of s.script x p.shown_view.now) p.is_fields ∙ ap (λ (x : View). next_of s.script fields x) p.is_view

pub are_bodies : (ss : List NamedScript) → AreBodiesOf (stand_ins ss) ss
unfolding stand_ins stand_in
are_bodies [] = tt
are_bodies (s ∷ ss) = (record { name = refl; shape = refl; runs = runs s }, are_bodies ss)

pub lie_in_shape : (ss : List NamedScript) → LieInShape (stand_ins ss)
unfolding stand_ins stand_in
lie_in_shape [] id fields view act h = absurd h
lie_in_shape (s ∷ ss) zero fields view act h = stays_within s.script fields view act (runs s fields view act h)
lie_in_shape (s ∷ ss) (suc id) fields view act h = lie_in_shape ss id fields view act h

-- what a script does next its entry may give
pub gives_next : (order : Order) (ss : List NamedScript) (id count : ℕ) (fields : Fields) (view : View) (act : Act) → (legal_by order ss).gives id count fields view act → gives (stand_ins ss) id fields view act
unfolding stand_ins stand_in
gives_next order [] id count fields view act h = absurd h
gives_next order (s ∷ ss) zero count fields view act h =
    record {
      shown_fields = record { ref_ptr = (0, 0); now = fields };
      shown_view = record { ref_ptr = (0, 0); now = view };
      is_fields = refl;
      is_view = refl;
      given = h;
    }
gives_next order (s ∷ ss) (suc id) count fields view act h = gives_next order ss id count fields view act h
