use Rattle.std.proofs.Common.{◌≡◌, ◌∙◌, ◌&&◌, ◌+◌, ℕ, Bool, true, false, cond, nat_eq, position, take, Some, Option, refl, sym, ap, arith}
use Rattle.std.proofs.lemmas.Bool.{eqb-true, true≢false}
use Rattle.std.proofs.lemmas.Grind.{common_steps}
use Rattle.std.specs.Option.{is_some}
use Rattle.cdi_deployment.specs.declared.deployment.Class.{Class}
use Rattle.cdi_types.proofs.Places.{or_here, gets_place, keeps_place}
use Rattle.cdi_types.proofs.ClassPlaces.{position-more}
use Rattle.cdi_bean_check.specs.ManagedBeans.{is_bean}
use Rattle.cdi_bean_check.proofs.bean_classes.places_of.Goals as goal
use Rattle.cdi_bean_check.proofs.bean_classes.places_of.Goals.{then-is_bean+then-not-contains_key+in_ok-insert, else-is_bean, else-is_bean-via-then-is_bean+else-not-contains_key, else-is_bean-via-else-is_bean}

with_true : (a b : Bool) → b ≡ true → (a && b) ≡ a
with_true true b e = e
with_true false b e = refl

with_false : (a b : Bool) → b ≡ false → (a && b) ≡ false
with_false true b e = e
with_false false b e = refl

pub loop-place-preserved : goal.loop-place-preserved
loop-place-preserved c = λ q.
    let classes = c.args.classes.now in
    let i = c.loop-place.place in
    let d = c.index-classes-place.result in
    let bean : is_bean d ≡ c.is_bean.result = sym c.is_bean.ensures in
    let place_of : ℕ → Option ℕ = λ name. position (λ (k : Class). nat_eq k.name name && is_bean k) (take i classes) in
    let more = position-more (λ (k : Class). nat_eq k.name q && is_bean k) classes i d c.loop-place-test.true c.index-classes-place.is in
    let known : (r b : Bool) → r ≡ is_some (place_of d.name) → r ≡ b → nat_eq d.name q ≡ true → is_some (place_of q) ≡ b = λ r b is e same.
    ap (λ (n : ℕ). is_some (place_of n)) (sym (eqb-true d.name q same)) ∙ sym is ∙ e in
    let goes : (here : Bool) → (nat_eq d.name q && is_bean d) ≡ here → or_here (place_of q) here i ≡ position (λ (k : Class). nat_eq k.name q && is_bean k) (take (i + 1) classes) = λ here e.
    ap (λ h. or_here (place_of q) h i) (sym e) ∙ sym more in
    elim c.if-is_bean.branch [
      | then-is_bean+then-not-contains_key+in_ok-insert w ↦ rw w.places-is (
          w.in_ok-insert.ensures.updates.0 q ∙ ap (cond (nat_eq d.name q) (Some i)) (c.loop-place.invariant q)
          ∙ gets_place (place_of q) (nat_eq d.name q) i (known w.contains_key.result false (w.contains_key.ensures ∙ ap is_some (c.loop-place.invariant d.name)) w.if-not-contains_key.true)
          ∙ goes (nat_eq d.name q) (with_true (nat_eq d.name q) (is_bean d) (bean ∙ w.if-is_bean.true))
          )
      | else-is_bean w ↦ rw w.places-is (elim w.else-is_bean.branch [
        | else-is_bean-via-then-is_bean+else-not-contains_key w' ↦
            c.loop-place.invariant q
            ∙ keeps_place (place_of q) (nat_eq d.name q) i (known w'.contains_key.result true (w'.contains_key.ensures ∙ ap is_some (c.loop-place.invariant d.name)) w'.if-not-contains_key.false)
            ∙ goes (nat_eq d.name q) (with_true (nat_eq d.name q) (is_bean d) (bean ∙ w'.if-is_bean.true))
        | else-is_bean-via-else-is_bean w' ↦
            c.loop-place.invariant q
            ∙ keeps_place (place_of q) false i (λ e. absurd (true≢false (sym e)))
            ∙ goes false (with_false (nat_eq d.name q) (is_bean d) (bean ∙ w'.if-is_bean.false))
      ])
    ]

pub returns : goal.returns
returns c = λ q.
    let all : take c.loop-place.place c.args.classes.now ≡ c.args.classes.now = grind (arith, common_steps, c.loop-place-test.false) in
    c.loop-place.invariant q ∙ ap (position (λ (k : Class). nat_eq k.name q && is_bean k)) all
