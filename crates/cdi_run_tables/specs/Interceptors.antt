-- What is asked of an enabled interceptor.
use Rattle.std.specs.Prelude.{ℕ, List, [], map, Option, Some, None, option_and_then, option_map}
use Rattle.cdi_base.specs.declared.place.InterceptorMethod.{InterceptorMethod}
use Rattle.cdi_base.specs.declared.place.Place.TheVariants as places
use Rattle.cdi_machine.specs.Tables as machine
use Rattle.cdi_machine.specs.Words.{Name, Asked, Fields}
use Rattle.cdi_run_tables.specs.Machine.{interceptor_at}
use Rattle.cdi_run_tables.specs.declared.tables.RunTables.{RunTables}

-- where there is no interceptor, there are no fields
abbrev pub fields_in : Option machine.Interceptor → Fields
fields_in None = []
fields_in (Some j) = j.fields

abbrev pub injected_in : Option machine.Interceptor → List (Name × Asked)
injected_in None = []
injected_in (Some j) = j.injected

-- the step of an injected field
abbrev pub injecting : Name × Asked → machine.Step
injecting p = machine.Step.Inject p.0 p.1

-- the steps by which an instance of an interceptor is created
abbrev pub plan_of : Option machine.Interceptor → List machine.Step
plan_of j = map injecting (injected_in j)

-- the code of the method of an interceptor for a role; a body that isn't registered has the number of no body
abbrev pub code_in : InterceptorMethod → machine.Interceptor → Option machine.Code
code_in role j =
    option_map (λ b. record { place = places.Interceptor j.name role; body = b }) (j.body role)

abbrev pub method_code : RunTables → ℕ → InterceptorMethod → Option machine.Code
method_code t place role = option_and_then (code_in role) (interceptor_at t place)
