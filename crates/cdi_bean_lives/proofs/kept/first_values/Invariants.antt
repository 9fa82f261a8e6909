use Rattle.std.proofs.Common.{◌≡◌, drop}
use Rattle.std.specs.Prelude.{fold}
use Rattle.cdi_base.specs.Fields.{put}
use Rattle.cdi_class_lives.specs.ClassLives.{fields_of}
use Rattle.cdi_numbered_plans.specs.Machine.{first_values}
use Rattle.cdi_bean_lives.proofs.kept.first_values.Given as goal

-- those that were put, and those that are left
abbrev pub invariant-loop-at : goal.invariant-loop-at
invariant-loop-at l =
    fold (λ all f. put all f.name f.value) l.fields (drop l.at (fields_of l.lives l.class)) ≡ first_values (fields_of l.lives l.class)
