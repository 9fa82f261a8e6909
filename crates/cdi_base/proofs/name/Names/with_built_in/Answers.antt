use Rattle.std.proofs.Common.{refl, arith}
use Rattle.cdi_base.specs.BuiltIn.{all_built_in, built_in_names}
use Rattle.cdi_base.proofs.BuiltIns.{all_added-all, goes_on_at, length-with_name}
use Rattle.cdi_base.proofs.name.Names.with_built_in.Goals as goal

pub loop-built_in-init : goal.loop-built_in-init
loop-built_in-init c = record { goes_on = rw c.new-names.ensures all_added-all; short = rw c.new-names.ensures (omega arith); all = refl }

pub loop-built_in-preserved : goal.loop-built_in-preserved
loop-built_in-preserved c =
    let i = c.loop-built_in in
    record {
      goes_on = goes_on_at all_built_in i.built_in-index _ i.names c.intern.new.self built_in_names c.text.result.now (omega arith) c.text.ensures c.in-Ok.ensures.added i.invariant.goes_on;
      short = rw c.in-Ok.ensures.added (omega (arith, length-with_name i.names c.text.result.now));
      all = refl;
    }
