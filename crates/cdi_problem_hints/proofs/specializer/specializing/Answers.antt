use Rattle.std.proofs.Common.{◌≡◌, ◌∙◌, ◌++◌, ◌∷◌, [], ℕ, Bool, sym, ap}
use Rattle.cdi_base.specs.declared.place.Place.{Place}
use Rattle.cdi_beans.specs.declared.bean.Bean.{Bean}
use Rattle.cdi_candidates.specs.Candidates.{place_of}
use Rattle.cdi_problem_hints.proofs.Where.{kept_more, passed_over}
use Rattle.cdi_problem_hints.specs.Specializers as spec
use Rattle.cdi_problem_hints.proofs.specializer.specializing.Goals as goal
use Rattle.cdi_problem_hints.proofs.specializer.specializing.Goals.{then-specializes+in_ok-push, else-specializes}

pub loop-enabled-preserved : goal.loop-enabled-preserved
loop-enabled-preserved c =
    let i = c.loop-enabled.enabled-index in
    let xs = c.args.beans.now in
    let b = c.enabled-item.result in
    let old = c.loop-enabled.places in
    let own : c.bean-bean.result.now ≡ b.1 = c.bean-bean.ensures in
    let does : Bean → Bool = λ o. spec.specializes c.args.most c.args.classes.now c.args.class o.specializes in
    let test : ℕ × Bean → Bool = λ p. does p.1 in
    let place : ℕ × Bean → Place = λ p. place_of p.1 in
    let tested = c.specializes.ensures ∙ ap does own in
    elim c.if-specializes.branch [
      | then-specializes+in_ok-push w ↦
          w.places-is ∙ w.in_ok-push.ensures.ok ∙ ap (λ p. old ++ p ∷ []) (w.place_of.ensures ∙ ap place_of own)
          ∙ kept_more test place xs i b c.loop-enabled-test.true c.enabled-item.is (sym tested ∙ w.if-specializes.true) old c.loop-enabled.invariant
      | else-specializes w ↦
          w.places-is
          ∙ passed_over test place xs i b c.loop-enabled-test.true c.enabled-item.is (sym tested ∙ w.if-specializes.false) old c.loop-enabled.invariant
    ]
