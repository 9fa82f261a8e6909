use Rattle.std.proofs.Common.{◌≡◌, ◌++◌, string_bytes, drop}
use Rattle.cdi_pictures.specs.Interceptors as spec
use Rattle.cdi_pictures.proofs.interceptors.add_interceptors.Given as goal

abbrev pub invariant-loop-index : goal.invariant-loop-index
invariant-loop-index l =
    string_bytes l.text ++ spec.interceptors_after l.names l.index l.before (drop l.index l.interceptors)
    ≡ string_bytes l.initial.text ++ spec.interceptors_text l.names l.interceptors
