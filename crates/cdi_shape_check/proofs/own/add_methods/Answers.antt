use Rattle.std.proofs.Common.{◌≡◌, ℕ, false, refl, ap}
use Rattle.std.specs.HashSet.{contains}
use Rattle.cdi_deployment.specs.declared.deployment.Member.{Member}
use Rattle.cdi_deployment.specs.declared.deployment.Member.TheVariants as members
use Rattle.cdi_deployment.specs.declared.deployment.Method.{Method}
use Rattle.cdi_name_check.specs.NameSets.{same_pair}
use Rattle.cdi_shape_check.specs.OwnParts.{is_method}
use Rattle.cdi_shape_check.proofs.SetSteps.{key_added, none_added}
use Rattle.cdi_shape_check.proofs.own.add_methods.Goals as goal
use Rattle.cdi_shape_check.proofs.own.add_methods.Goals.{in-Method+in_ok-insert, in_default}

no_method : (name count : ℕ) (m : Member) → ((x : Method) → m ≡ members.Method x → ⊥) → is_method name count m ≡ false
no_method name count (members.Method x) h = absurd (h x refl)
no_method name count _ h = refl

pub loop-member-preserved : goal.loop-member-preserved
loop-member-preserved c = λ name count.
    let l = c.loop-member in
    let m = c.member-item.result in
    let before = contains same_pair c.args.set.now (name, count) in
    let now = contains same_pair l.set (name, count) in
    elim c.match-member.branch [
      | in-Method+in_ok-insert w ↦ rw w.set-is (key_added (is_method name count) c.args.members.now l.member-index m c.loop-member-test.true c.member-item.is before now _ (l.invariant name count) _ (ap (is_method name count) w.in-Method.is) (w.in_ok-insert.ensures.updates.0 (name, count)))
      | in_default w ↦ rw w.set-is (none_added (is_method name count) c.args.members.now l.member-index m c.loop-member-test.true c.member-item.is before now now (l.invariant name count) (no_method name count m w.in_default.not-Method))
    ]
