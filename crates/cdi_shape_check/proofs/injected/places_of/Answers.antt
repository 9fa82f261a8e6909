use Rattle.std.proofs.Common.{◌≡◌, ◌∙◌, ℕ, Bool, true, false, cond, nat_eq, position, take, Some, Option, sym, ap, arith}
use Rattle.std.proofs.lemmas.Bool.{eqb-true}
use Rattle.std.proofs.lemmas.Grind.{common_steps}
use Rattle.std.specs.HashMap.{get}
use Rattle.std.specs.Option.{is_some}
use Rattle.cdi_deployment.specs.declared.deployment.InjectedField.{InjectedField}
use Rattle.cdi_types.proofs.Places.{gets_place, keeps_place}
use Rattle.cdi_types.proofs.ClassPlaces.{position-more}
use Rattle.cdi_shape_check.proofs.injected.places_of.Goals as goal
use Rattle.cdi_shape_check.proofs.injected.places_of.Goals.{then-not-contains_key+in_ok-insert, else-not-contains_key}

pub loop-place-preserved : goal.loop-place-preserved
loop-place-preserved c = λ q.
    let fields = c.args.fields.now in
    let i = c.loop-place.place in
    let d = c.index-fields-place.result in
    let named : c.name-name.result ≡ d.name = c.name-name.ensures in
    let place_of : ℕ → Option ℕ = λ name. position (λ (k : InjectedField). nat_eq k.name name) (take i fields) in
    let more = position-more (λ (k : InjectedField). nat_eq k.name q) fields i d c.loop-place-test.true c.index-fields-place.is in
    let known : (b : Bool) → c.contains_key.result ≡ b → nat_eq d.name q ≡ true → is_some (place_of q) ≡ b = λ b r e.
    ap (λ (n : ℕ). is_some (place_of n)) (sym (eqb-true d.name q e)) ∙ ap is_some (sym (c.loop-place.invariant d.name)) ∙ ap (λ n. is_some (get nat_eq c.loop-place.places n)) (sym named) ∙ sym c.contains_key.ensures ∙ r in
    elim c.if-not-contains_key.branch [
      | then-not-contains_key+in_ok-insert w ↦ rw w.places-is (w.in_ok-insert.ensures.updates.0 q ∙ ap (λ n. cond (nat_eq n q) (Some i) (get nat_eq c.loop-place.places q)) named ∙ ap (cond (nat_eq d.name q) (Some i)) (c.loop-place.invariant q) ∙ gets_place (place_of q) (nat_eq d.name q) i (known false w.if-not-contains_key.true) ∙ sym more)
      | else-not-contains_key w ↦ rw w.places-is (c.loop-place.invariant q ∙ keeps_place (place_of q) (nat_eq d.name q) i (known true w.if-not-contains_key.false) ∙ sym more)
    ]

pub returns : goal.returns
returns c = λ q.
    let all : take c.loop-place.place c.args.fields.now ≡ c.args.fields.now = grind (arith, common_steps, c.loop-place-test.false) in
    c.loop-place.invariant q ∙ ap (position (λ (k : InjectedField). nat_eq k.name q)) all
