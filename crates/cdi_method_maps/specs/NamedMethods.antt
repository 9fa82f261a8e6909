-- Methods by their names.
use Rattle.std.specs.Prelude.{ℕ, ◌==◌, Bool, List, Option, find, option_map}
use Rattle.std.specs.List.{list_any}
use Rattle.cdi_machine.specs.declared.member.Method.{Method}
use Rattle.cdi_method_maps.specs.declared.named_method.NamedMethod.{NamedMethod}

-- the first method of a name
abbrev pub method_named : ℕ → List NamedMethod → Option Method
method_named name methods = option_map (λ m. m.method) (find (λ m. m.name == name) methods)

-- whether a name is one of these
abbrev pub is_among : ℕ → List ℕ → Bool
is_among name names = list_any (λ n. n == name) names
