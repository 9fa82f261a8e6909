use Rattle.std.proofs.Common.{◌≡◌, ◌∙◌, ◌⊎◌, inl, inr, ◌<◌, true, false, sym, ap, arith}
use Rattle.std.proofs.lemmas.Bool.{true≢false}
use Rattle.cdi_types.specs.NameSet.{has}
use Rattle.cdi_live.specs.Live.{IsBeanBelow}
use Rattle.cdi_live.proofs.Above.{before, before_or_here, here}
use Rattle.cdi_live.proofs.sets.types_of_beans.Goals as goal
use Rattle.cdi_live.proofs.sets.types_of_beans.Goals.{then-is_managed+in_ok-add_types_of, else-is_managed}

pub loop-bean-init : goal.loop-bean-init
loop-bean-init c = λ class. (λ h. absurd (true≢false (sym h ∙ c.new-names.ensures class)), λ a. absurd (omega (arith, a.2)))

pub loop-bean-preserved : goal.loop-bean-preserved
loop-bean-preserved c = λ class.
    let l = c.loop-bean in
    let types = c.args.types.now in
    let beans = c.args.enabled.now in
    let bean = c.bean-item.result in
    let P = IsBeanBelow types class in
    elim c.if-is_managed.branch [
      | then-is_managed+in_ok-add_types_of w ↦ (
          let added = w.in_ok-add_types_of.ensures class in (
            λ h. elim (added.0 (sym (ap (λ (s : _). has s class) w.names-is) ∙ h)) [
              | inl below ↦ here P beans l.bean-index bean c.loop-bean-test.true c.bean-item.is (record { managed = sym c.is_managed.ensures ∙ w.if-is_managed.true; below = rw w.class.ensures at below })
              | inr old ↦ before P beans l.bean-index bean c.loop-bean-test.true c.bean-item.is ((l.invariant class).0 old)
            ],
            λ a. ap (λ (s : _). has s class) w.names-is ∙ added.1 (elim (before_or_here P beans l.bean-index bean c.loop-bean-test.true c.bean-item.is a) [
              | inl old ↦ inr ((l.invariant class).1 old)
              | inr now ↦ inl (rw w.class.ensures now.below)
            ]),
          )
          )
      | else-is_managed w ↦ (
        λ h. before P beans l.bean-index bean c.loop-bean-test.true c.bean-item.is ((l.invariant class).0 (sym (ap (λ (s : _). has s class) w.names-is) ∙ h)),
        λ a. ap (λ (s : _). has s class) w.names-is ∙ elim (before_or_here P beans l.bean-index bean c.loop-bean-test.true c.bean-item.is a) [
          | inl old ↦ (l.invariant class).1 old
          | inr now ↦ absurd (true≢false (sym now.managed ∙ sym c.is_managed.ensures ∙ w.if-is_managed.false))
        ],
      )
    ]
