use Rattle.std.proofs.Common.{◌≡◌, ◌∙◌, ◌++◌, ◌∷◌, ◌+◌, ℕ, Bool, true, false, List, [], drop, append_assoc, append-nil, ap, sym}
use Rattle.cdi_beans.specs.declared.bean.EnabledInterceptor.{EnabledInterceptor}
use Rattle.cdi_plans.specs.Bindings.{bindings_had}
use Rattle.cdi_plans.specs.Chains.{is_bound, places_from}
use Rattle.cdi_plans.proofs.Places.{taken, passed_over, none_left}
use Rattle.cdi_plans.proofs.chain.places_in.Goals as goal
use Rattle.cdi_plans.proofs.chain.places_in.Goals.{then-is_bound+in_ok-push, else-is_bound}

pub loop-place-preserved : goal.loop-place-preserved
loop-place-preserved c =
    let js = c.args.interceptors.now in
    let i = c.loop-place.place in
    let j = c.index-interceptors-place.result in
    let old = c.loop-place.places in
    let passes : EnabledInterceptor → Bool = is_bound c.args.method (bindings_had c.args.own.now c.args.of_class.now) in
    let rest : List ℕ = places_from passes (i + 1) (drop (i + 1) js) in
    elim c.if-is_bound.branch [
      | then-is_bound+in_ok-push w ↦ (
          let is : passes j ≡ true = sym c.is_bound.ensures ∙ w.if-is_bound.true in
          rw (w.places-is, w.in_ok-push.ensures.ok) (append_assoc old (i ∷ []) rest ∙ ap (λ ps. old ++ ps) (sym (taken passes js i j c.loop-place-test.true c.index-interceptors-place.is is)) ∙ c.loop-place.invariant))
      | else-is_bound w ↦ (
          let is : passes j ≡ false = sym c.is_bound.ensures ∙ w.if-is_bound.false in
          rw w.places-is (ap (λ ps. old ++ ps) (sym (passed_over passes js i j c.loop-place-test.true c.index-interceptors-place.is is)) ∙ c.loop-place.invariant))
    ]

pub returns : goal.returns
returns c =
    let js = c.args.interceptors.now in
    let i = c.loop-place.place in
    let passes : EnabledInterceptor → Bool = is_bound c.args.method (bindings_had c.args.own.now c.args.of_class.now) in
    sym (append-nil c.loop-place.places)
    ∙ ap (λ ps. c.loop-place.places ++ ps) (sym (none_left passes js i c.loop-place-test.false))
    ∙ c.loop-place.invariant
