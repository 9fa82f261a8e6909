use Rattle.std.proofs.Common.{◌≡◌, ◌∙◌, ℕ, Bool, true, false, cond, nat_eq, take, List, Option, Some, option_map, sym, ap}
use Rattle.std.proofs.lemmas.Bool.{eqb-true}
use Rattle.std.specs.Option.{is_some}
use Rattle.cdi_deployment.specs.declared.deployment.Class.{Class}
use Rattle.cdi_types.specs.Line.{class_named}
use Rattle.cdi_live.specs.FieldNeeds.{needs_of_fields}
use Rattle.cdi_live.specs.Settings.{setting_of}
use Rattle.cdi_live.specs.declared.node.Node.{Node}
use Rattle.cdi_live.proofs.FieldNeeds.{named_more, is_some-map, gets_own, keeps_own}
use Rattle.cdi_live.proofs.field_needs.FieldNeeds.build.Goals as goal
use Rattle.cdi_live.proofs.field_needs.FieldNeeds.build.Goals.{then-not-contains_key+in_ok-needs_of_fields+in_ok-insert+in-Some-1, then-not-contains_key+in_ok-needs_of_fields+in_ok-insert+in-None-1, else-not-contains_key}

pub loop-class-preserved : goal.loop-class-preserved
loop-class-preserved c = λ q.
    let f : Class → List Node = needs_of_fields (setting_of c.args.tables.now) in
    let classes = c.as_slice-class-items.result.now in
    let i = c.loop-class.class-index in
    let d = c.class-item.result in
    let before : ℕ → Option Class = λ name. class_named (take i classes) name in
    let more = ap (option_map f) (named_more q classes i d c.loop-class-test.true c.class-item.is) in
    let known : (b : Bool) → c.contains_key.result ≡ b → nat_eq d.name q ≡ true → is_some (before q) ≡ b = λ b r e.
    ap (λ (n : ℕ). is_some (before n)) (sym (eqb-true d.name q e)) ∙ sym (is_some-map f (before d.name)) ∙ ap is_some (sym (c.loop-class.invariant d.name)) ∙ sym c.contains_key.ensures ∙ r in
    let gets = λ (list : List Node) (is : list ≡ f d) (absent : c.contains_key.result ≡ false).
    ap (cond (nat_eq d.name q) (Some list)) (c.loop-class.invariant q) ∙ gets_own f (before q) (nat_eq d.name q) d list is (known false absent) ∙ sym more in
    elim c.if-not-contains_key.branch [
      | then-not-contains_key+in_ok-needs_of_fields+in_ok-insert+in-Some-1 w ↦ rw w.lists-is (w.in_ok-insert.ensures.updates.0 q ∙ gets w.in_ok-needs_of_fields.field-0 w.in_ok-needs_of_fields.ensures w.if-not-contains_key.true)
      | then-not-contains_key+in_ok-needs_of_fields+in_ok-insert+in-None-1 w ↦ rw w.lists-is (w.in_ok-insert.ensures.updates.0 q ∙ gets w.in_ok-needs_of_fields.field-0 w.in_ok-needs_of_fields.ensures w.if-not-contains_key.true)
      | else-not-contains_key w ↦ rw w.lists-is (c.loop-class.invariant q ∙ keeps_own f (before q) (nat_eq d.name q) d (known true w.if-not-contains_key.false) ∙ sym more)
    ]
