use Rattle.std.proofs.Common.{◌≡◌, ◌∙◌, ◌++◌, [], Option, reverse, slice_get, option_and_then, nat_eq, sym, ap}
use Rattle.std.specs.List.{cons_option}
use Rattle.std.specs.Option.{option_copied}
use Rattle.cdi_deployment.specs.declared.deployment.Class.{Class}
use Rattle.cdi_types.specs.Line.{class_named}
use Rattle.cdi_types.proofs.LineSteps.{found_by_place, found_one, line, start_rises, rises_on, rises_last, stops_fall}
use Rattle.cdi_types.proofs.class_index.ClassIndex.line_from.Goals as goal
use Rattle.cdi_types.proofs.class_index.ClassIndex.line_from.Goals.{in-Some-at+in_ok-push, in_default-at}

pub loop-next-init : goal.loop-next-init
loop-next-init c =
    rw c.empty-found.ensures
    (start_rises c.args.graph.now c.args.self.now c.args.name c.args.place c.args.class_place c.requires.place c.requires.class c.stop_at-next.result c.stop_at-next.ensures)

pub above-next-requires : goal.above-next-requires
above-next-requires c = rw c.in-Some.is at c.loop-next.invariant.stop

pub loop-next-smaller : goal.loop-next-smaller
loop-next-smaller c =
    rw c.in-Some.is (stops_fall c.args.graph.now c.args.self.now c.in-Some.stop c.above-next.result c.requires.acyclic c.above-next.ensures)

pub loop-next-preserved : goal.loop-next-preserved
loop-next-preserved c =
    let classes = c.args.self.now in
    let before = c.loop-next.found in
    let own : Option Class = option_copied c.at.result in
    let rises = rw c.in-Some.is at c.loop-next.invariant in
    let named : own ≡ class_named classes c.in-Some.stop.name =
    c.at.ensures ∙ ap (option_and_then (slice_get classes)) rises.stop.class_place ∙ sym (found_by_place (λ (k : Class). nat_eq k.name c.in-Some.stop.name) classes) in
    let joined : line (reverse c.match-at.found) ≡ cons_option own [] ++ line (reverse before) =
    elim c.match-at.branch [
      | in-Some-at+in_ok-push w ↦
          ap (λ cs. line (reverse cs)) (w.found-is ∙ w.in_ok-push.ensures.ok) ∙ found_one before w.in-Some-at.class
          ∙ ap (λ o. cons_option (option_copied o) [] ++ line (reverse before)) (sym w.in-Some-at.is)
      | in_default-at w ↦
          ap (λ cs. line (reverse cs)) w.found-is ∙ ap (λ o. cons_option (option_copied o) [] ++ line (reverse before)) (sym w.in_default-at.is)
    ] in
    rises_on c.args.graph.now classes c.args.name c.in-Some.stop before c.match-at.found own c.above-next.result rises named joined c.above-next.ensures

pub returns : goal.returns
returns c =
    rw c.in_reverse.ensures
    (rises_last c.args.graph.now c.args.self.now c.args.name c.loop-next.found c.loop-next.next c.in_default.is c.loop-next.invariant)
