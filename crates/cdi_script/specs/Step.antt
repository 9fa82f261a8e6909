-- The steps of scripts. For each: its row, which says how it is written; its action; the act that
-- the action comes to; and what it names.
use Rattle.std.specs.Prelude.{◌≡◌, ℕ, List, [], ◌∷◌, ◌++◌, length, codes, Bool, true, false, Some, None}
use Rattle.cdi_base.specs.declared.act.Act.{Act}
use Rattle.cdi_base.specs.declared.act.Act.TheVariants as acts
use Rattle.cdi_base.specs.declared.fields.Fields.{Fields}
use Rattle.cdi_bodies.specs.declared.shape.Shape.{Shape}
use Rattle.cdi_bodies.specs.declared.view.View.{View}
use Rattle.cdi_script.specs.declared.part.PartKind.{PartKind}
use Rattle.cdi_script.specs.declared.part.PartKind.TheVariants.{Name, Via, Local, Qualifiers, Value, Values}
use Rattle.cdi_script.specs.declared.part.Parts.{Parts}
use Rattle.cdi_script.specs.declared.step.Action.{Action}
use Rattle.cdi_script.specs.declared.step.Action.TheVariants as actions
use Rattle.cdi_script.specs.declared.step.Row.{Row as AnyRow}
use Rattle.cdi_script.specs.declared.step.StepKind.{StepKind}
use Rattle.cdi_script.specs.declared.step.StepKind.TheVariants as kinds
use Rattle.cdi_script.specs.Value.{value_of, values_of}

-- how a step of a kind is written: its word, and what stands behind that
pub record Row : Type 0 where
  pub word : List ℕ
  pub parts : List PartKind

abbrev pub row : List ℕ → List PartKind → Row
row word parts = record { word = word; parts = parts }

-- a row of the program is this one
pub record Shows (row : AnyRow) (is : Row) : Type 0 where
  pub word : row.word.now ≡ is.word
  pub parts : row.parts.now ≡ is.parts

abbrev pub row_of : StepKind → Row
row_of kinds.Set = row (codes "set") (Name ∷ Value ∷ [])
row_of kinds.Call = row (codes "call") (Via ∷ Name ∷ Values ∷ [])
row_of kinds.Own = row (codes "own") (Name ∷ Values ∷ [])
row_of kinds.Read = row (codes "read") (Via ∷ [])
row_of kinds.Write = row (codes "write") (Via ∷ Value ∷ [])
row_of kinds.Fire = row (codes "fire") (Name ∷ Qualifiers ∷ Value ∷ [])
row_of kinds.Proceed = row (codes "proceed") []
row_of kinds.ProceedWith = row (codes "proceed") (Values ∷ [])
row_of kinds.Find = row (codes "find") (Name ∷ Qualifiers ∷ [])
row_of kinds.Destroy = row (codes "destroy") (Local ∷ [])
row_of kinds.Keep = row (codes "keep") (Name ∷ Value ∷ [])
row_of kinds.Peek = row (codes "peek") (Name ∷ [])
row_of kinds.Give = row (codes "give") (Value ∷ [])
row_of kinds.Throw = row (codes "throw") (Name ∷ [])

abbrev pub all_kinds : List StepKind
all_kinds =
    kinds.Set ∷ kinds.Call ∷ kinds.Own ∷ kinds.Read ∷ kinds.Write ∷ kinds.Fire ∷ kinds.Proceed
    ∷ kinds.ProceedWith ∷ kinds.Find ∷ kinds.Destroy ∷ kinds.Keep
    ∷ kinds.Peek ∷ kinds.Give ∷ kinds.Throw ∷ []

-- the action of a step with these parts
abbrev pub action_of : StepKind → Parts → Action
action_of kinds.Set parts = actions.Set parts.name parts.value
action_of kinds.Call parts = actions.Call parts.via parts.name parts.values
action_of kinds.Own parts = actions.Own parts.name parts.values
action_of kinds.Read parts = actions.Read parts.via
action_of kinds.Write parts = actions.Write parts.via parts.value
action_of kinds.Fire parts = actions.Fire parts.name parts.qualifiers parts.value
action_of kinds.Proceed parts = actions.Proceed
action_of kinds.ProceedWith parts = actions.ProceedWith parts.values
action_of kinds.Find parts = actions.Find parts.name parts.qualifiers
action_of kinds.Destroy parts = actions.Destroy parts.local
action_of kinds.Keep parts = actions.Keep parts.name parts.value
action_of kinds.Peek parts = actions.Peek parts.name
action_of kinds.Give parts = actions.Give parts.value
action_of kinds.Throw parts = actions.Throw parts.name

-- the act of an action; the lookup is the one that it makes if it makes one
abbrev pub act_of : ℕ → Action → Fields → View → Act
act_of lookup (actions.Set field value) fields view = acts.Set field (value_of value fields view)
act_of lookup (actions.Call via method args) fields view =
    acts.Call via method (values_of args fields view)
act_of lookup (actions.Own method args) fields view = acts.Own method (values_of args fields view)
act_of lookup (actions.Read via) fields view = acts.Read via
act_of lookup (actions.Write via value) fields view = acts.Write via (value_of value fields view)
act_of lookup (actions.Fire class qualifiers value) fields view =
    acts.Fire class qualifiers (value_of value fields view)
act_of lookup actions.Proceed fields view = acts.Proceed None
act_of lookup (actions.ProceedWith args) fields view =
    acts.Proceed (Some (values_of args fields view))
act_of lookup (actions.Find bean_type qualifiers) fields view = acts.Find lookup
act_of lookup (actions.Destroy local) fields view = acts.Destroy local
act_of lookup (actions.Keep key value) fields view = acts.Keep key (value_of value fields view)
act_of lookup (actions.Peek key) fields view = acts.Peek key
act_of lookup (actions.Give value) fields view = acts.Give (value_of value fields view)
act_of lookup (actions.Throw exception) fields view = acts.Throw exception

-- the action makes a lookup
abbrev pub is_lookup : Action → Bool
is_lookup (actions.Find bean_type qualifiers) = true
is_lookup _ = false

-- the shape with what an action names added last
abbrev pub with_action : Shape → Action → Shape
with_action shape (actions.Set field value) = record shape { sets = shape.sets ++ field ∷ [] }
with_action shape (actions.Call via method args) =
    record shape {
      calls = shape.calls ++ (record { via = via; method = method; count = length args }) ∷ [];
    }
with_action shape (actions.Own method args) =
    record shape { owns = shape.owns ++ (record { method = method; count = length args }) ∷ [] }
with_action shape (actions.Read via) = record shape { cells = shape.cells ++ via ∷ [] }
with_action shape (actions.Write via value) = record shape { cells = shape.cells ++ via ∷ [] }
with_action shape (actions.Fire class qualifiers value) =
    record shape { fires = shape.fires ++ (record { class = class; qualifiers = qualifiers }) ∷ [] }
with_action shape actions.Proceed = record shape { chain = true }
with_action shape (actions.ProceedWith args) = record shape { chain = true }
with_action shape (actions.Find bean_type qualifiers) =
    record shape {
      lookups =
          shape.lookups ++ (record { bean_type = bean_type; qualifiers = qualifiers }) ∷ [];
    }
with_action shape (actions.Destroy local) =
    record shape { destroys = shape.destroys ++ local ∷ [] }
with_action shape (actions.Keep key value) = record shape { chain = true }
with_action shape (actions.Peek key) = record shape { chain = true }
with_action shape (actions.Give value) = shape
with_action shape (actions.Throw exception) =
    record shape { throws = shape.throws ++ exception ∷ [] }
