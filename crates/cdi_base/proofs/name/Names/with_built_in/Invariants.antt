use Rattle.std.proofs.Common.{◌≡◌, ◌≤◌, length, drop}
use Rattle.cdi_base.specs.BuiltIn.{all_built_in, built_in_names}
use Rattle.cdi_base.proofs.BuiltIns.{all_added}
use Rattle.cdi_base.proofs.name.Names.with_built_in.Given as goal

abbrev pub invariant-loop-built_in : goal.invariant-loop-built_in
invariant-loop-built_in l = record { goes_on : all_added l.names (drop l.built_in-index l.built_in-items) ≡ built_in_names; short : length l.names ≤ l.built_in-index; all : l.built_in-items ≡ all_built_in }
