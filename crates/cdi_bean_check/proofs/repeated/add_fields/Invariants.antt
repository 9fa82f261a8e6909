use Rattle.std.proofs.Common.{◌≡◌, ◌++◌, map, filter, drop}
use Rattle.cdi_bean_check.specs.Repeated.{has_field}
use Rattle.cdi_bean_check.proofs.repeated.add_fields.Given as goal

abbrev pub invariant-loop-field : goal.invariant-loop-field
invariant-loop-field l =
    l.names ++ map (λ f. f.name) (filter (λ f. has_field f.name l.above) (drop l.field-index l.fields))
    ≡ l.initial.names ++ map (λ f. f.name) (filter (λ f. has_field f.name l.above) l.fields)
