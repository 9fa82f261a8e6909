-- The business methods of a plan by their names, in the words of an instance's life.
use Rattle.std.specs.Prelude.{ℕ, ◌≡◌, true, Option, option_map}
use Rattle.cdi_machine.specs.declared.member.Method.{Method}
use Rattle.cdi_machine.specs.Tables as machine
use Rattle.cdi_machine.specs.Words.{Name}
use Rattle.cdi_numbered_plans.specs.Machine.{method_in}
use Rattle.cdi_numbered_plans.specs.Numbers.{has_numbers}
use Rattle.cdi_plans.specs.declared.plan.Plan.{Plan}

-- a method of the machine
abbrev pub method_by : machine.Method → Method
method_by m = record { code = m.code; count = m.count; chain = m.chain }

-- those of a plan, if what that names has numbers
pub record AreMethodsBy (ids : ℕ → Option ℕ) (plan : Plan) (method : Name → Option Method)
    : Type 0 where
  pub same :
      has_numbers plan ≡ true → (name : Name)
      → method name ≡ option_map method_by (method_in ids plan name)
