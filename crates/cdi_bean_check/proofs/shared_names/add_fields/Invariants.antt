use Rattle.std.proofs.Common.{◌≡◌, ◌++◌, map, drop}
use Rattle.cdi_bean_check.proofs.shared_names.add_fields.Given as goal

abbrev pub invariant-loop-field : goal.invariant-loop-field
invariant-loop-field l = l.names ++ map (λ f. f.name) (drop l.field-index l.fields) ≡ l.initial.names ++ map (λ f. f.name) l.fields
