use Rattle.std.proofs.Common.{◌∙◌, ◌+◌, ◌<◌, length, drop, sym, ap, arith}
use Rattle.std.specs.Prelude.{fold}
use Rattle.std.specs.Option.{option_copied}
use Rattle.cdi_base.specs.Fields.{put}
use Rattle.cdi_class_lives.specs.ClassLives.{fields_of}
use Rattle.cdi_bean_lives.proofs.Lasting.{is_there, next_value, put_first}
use Rattle.cdi_bean_lives.proofs.kept.first_values.Goals as goal
use Rattle.cdi_bean_lives.proofs.kept.first_values.Goals.{in-Some+in_ok-clone+in_ok-put, in_default}

pub loop-at-preserved : goal.loop-at-preserved
loop-at-preserved c =
    let fs = fields_of c.args.lives.now c.args.class in
    let i = c.loop-at in
    elim c.match-field.branch [
      | in-Some+in_ok-clone+in_ok-put w ↦
          let field = w.in-Some.field.now in
          ap (λ all. fold put_first all (drop (i.at + 1) fs)) (w.fields-is ∙ w.in_ok-put.ensures.ok ∙ ap (put i.fields field.name) w.in_ok-clone.ensures.cases)
          ∙ sym (next_value fs i.at field i.fields (sym c.field.ensures ∙ ap option_copied w.in-Some.is))
          ∙ i.invariant
      | in_default w ↦
          let within : i.at < length fs = omega (arith, c.loop-at-test.true, c.field_count-at-end.ensures) in
          absurd (is_there fs i.at within (sym c.field.ensures ∙ ap option_copied w.in_default.is))
    ]
