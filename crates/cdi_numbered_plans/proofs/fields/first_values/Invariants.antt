use Rattle.std.proofs.Common.{◌≡◌, drop}
use Rattle.std.specs.Prelude.{fold}
use Rattle.cdi_base.specs.Fields.{put}
use Rattle.cdi_numbered_plans.specs.Machine.{first_values}
use Rattle.cdi_numbered_plans.proofs.fields.first_values.Given as goal

-- those that were put, and those that are left
abbrev pub invariant-loop-field : goal.invariant-loop-field
invariant-loop-field l =
    fold (λ all f. put all f.name f.value) l.all (drop l.field-index l.fields) ≡ first_values l.fields
