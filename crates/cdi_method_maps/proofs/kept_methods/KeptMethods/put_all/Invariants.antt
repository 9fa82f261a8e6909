use Rattle.cdi_method_maps.specs.declared.kept_methods.KeptMethods.{KeptMethods}
use Rattle.cdi_method_maps.specs.KeptMethods.{Grows, Puts}
use Rattle.cdi_method_maps.proofs.kept_methods.KeptMethods.put_all.Given as goal

-- the changes put the methods that were kept, also when more have come
abbrev pub invariant-loop-named : goal.invariant-loop-named
invariant-loop-named l = record {
  grows : Grows l.fn.self l.self;
  puts : (later : KeptMethods) → Grows l.self later → Puts later l.yielded l.changes.items;
}
