use Rattle.std.proofs.Common.{◌≡◌, drop}
use Rattle.cdi_base.specs.Name.{Extends}
use Rattle.cdi_prepare.specs.Scripts.{scripts_after, scripts_in}
use Rattle.cdi_prepare.proofs.scripts.read_scripts.Given as goal

abbrev pub invariant-loop-script : goal.invariant-loop-script
invariant-loop-script l = record {
  goes_on : scripts_after l.scripts.items l.names (drop l.script-index l.declared) ≡ scripts_in l.fn.names l.declared;
  kept : Extends l.fn.names l.names;
}
