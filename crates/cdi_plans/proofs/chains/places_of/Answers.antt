use Rattle.std.proofs.Common.{◌≡◌, ◌∙◌, ℕ, Bool, true, false, cond, nat_eq, position, take, Some, Option, sym, ap}
use Rattle.std.proofs.lemmas.Bool.{eqb-true}
use Rattle.std.specs.Option.{is_some}
use Rattle.cdi_plans.specs.declared.bindings.ClassBindings.{ClassBindings}
use Rattle.cdi_types.proofs.Places.{gets_place, keeps_place}
use Rattle.cdi_types.proofs.ClassPlaces.{position-more}
use Rattle.cdi_plans.proofs.chains.places_of.Goals as goal
use Rattle.cdi_plans.proofs.chains.places_of.Goals.{then-not-contains_key+in_ok-insert, else-not-contains_key}

pub loop-place-preserved : goal.loop-place-preserved
loop-place-preserved c = λ q.
    let classes = c.args.classes.now in
    let i = c.loop-place.place in
    let d = c.index-classes-place.result in
    let place_of : ℕ → Option ℕ = λ name. position (λ (k : ClassBindings). nat_eq k.name name) (take i classes) in
    let more = position-more (λ (k : ClassBindings). nat_eq k.name q) classes i d c.loop-place-test.true c.index-classes-place.is in
    let known : (b : Bool) → c.contains_key.result ≡ b → nat_eq d.name q ≡ true → is_some (place_of q) ≡ b = λ b r e.
    ap (λ (n : ℕ). is_some (place_of n)) (sym (eqb-true d.name q e)) ∙ ap is_some (sym (c.loop-place.invariant d.name)) ∙ sym c.contains_key.ensures ∙ r in
    elim c.if-not-contains_key.branch [
      | then-not-contains_key+in_ok-insert w ↦ rw w.places-is (w.in_ok-insert.ensures.updates.0 q ∙ ap (cond (nat_eq d.name q) (Some i)) (c.loop-place.invariant q) ∙ gets_place (place_of q) (nat_eq d.name q) i (known false w.if-not-contains_key.true) ∙ sym more)
      | else-not-contains_key w ↦ rw w.places-is (c.loop-place.invariant q ∙ keeps_place (place_of q) (nat_eq d.name q) i (known true w.if-not-contains_key.false) ∙ sym more)
    ]
