use Rattle.std.proofs.Common.{◌≡◌, ◌∙◌, ◌+◌, true, false, sym, ap}
use Rattle.std.specs.Option.{option_or}
use Rattle.cdi_resolve.specs.BindingFlags.{flags_at, first_flags}
use Rattle.cdi_resolve.specs.Filters.{is_enabled}
use Rattle.cdi_resolve.proofs.Flags.{ahead, goes_on, at_end, enabled_ahead, disabled_ahead, none_ahead}
use Rattle.cdi_resolve.proofs.binding_flags.BindingFlags.build.Goals as goal
use Rattle.cdi_resolve.proofs.binding_flags.BindingFlags.build.Goals.{then-has_flag+in_ok-add_bean, else-has_flag}

pub loop-place-preserved : goal.loop-place-preserved
loop-place-preserved c =
    let beans = c.args.beans.now in
    let enabled = c.args.enabled.now in
    let i = c.loop-place.place in
    let b = c.index-beans-place.result in
    let lt = c.loop-place-test.true in
    let is = c.index-beans-place.is in
    elim c.if-has_flag.branch [
      | then-has_flag+in_ok-add_bean w ↦
          let on : is_enabled enabled i ≡ true = sym c.has_flag.ensures ∙ w.if-has_flag.true in
          rw w.flags-is (λ name. goes_on name (flags_at c.loop-place.flags name) (flags_at w.add_bean.new.self name) b.qualifiers (ahead beans enabled (i + 1)) _ (w.in_ok-add_bean.ensures name)
          (ap (λ xs. option_or (flags_at c.loop-place.flags name) (first_flags name xs)) (sym (enabled_ahead beans enabled i b lt is on)) ∙ c.loop-place.invariant name))
      | else-has_flag w ↦
          let off : is_enabled enabled i ≡ false = sym c.has_flag.ensures ∙ w.if-has_flag.false in
          rw w.flags-is (λ name. ap (λ xs. option_or (flags_at c.loop-place.flags name) (first_flags name xs)) (sym (disabled_ahead beans enabled i b lt is off)) ∙ c.loop-place.invariant name)
    ]

pub returns : goal.returns
returns c = λ name. at_end name (flags_at c.loop-place.flags name) _ _ (none_ahead c.args.beans.now c.args.enabled.now c.loop-place.place c.loop-place-test.false) (c.loop-place.invariant name)
