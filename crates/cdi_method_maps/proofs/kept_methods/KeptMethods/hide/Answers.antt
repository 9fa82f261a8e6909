use Rattle.std.proofs.Common.{◌∙◌, ◌++◌, ◌∷◌, [], take, List, Some, None, ap, sym, append_assoc, append-nil}
use Rattle.cdi_shared_maps.specs.declared.change.Change.{Change}
use Rattle.cdi_method_maps.specs.KeptMethods.{hidden_changes}
use Rattle.cdi_method_maps.proofs.HiddenChanges.{hidden_changes-more, taken_out}
use Rattle.cdi_method_maps.proofs.kept_methods.KeptMethods.hide.Goals as goal
use Rattle.cdi_method_maps.proofs.kept_methods.KeptMethods.hide.Goals.{in-Some+in_ok-push, in_default}

pub loop-name-preserved : goal.loop-name-preserved
loop-name-preserved c =
    let kept = c.args.self.now in
    let names = c.args.names.now in
    let i = c.loop-name.name-index in
    let old = c.args.changes.now.items in
    let so_far = hidden_changes kept (take i names) in
    elim c.match-key.branch [
      | in-Some+in_ok-push w ↦
          let more = hidden_changes-more kept names i c.name-item.result (Some w.in-Some.key) c.loop-name-test.true c.name-item.is w.in-Some.ensures in
          rw w.changes-is (w.in_ok-push.ensures.items ∙ ap (λ (cs : List Change). cs ++ taken_out w.in-Some.key ∷ []) c.loop-name.invariant ∙ append_assoc old so_far (taken_out w.in-Some.key ∷ []) ∙ ap (λ (cs : List Change). old ++ cs) (sym more))
      | in_default w ↦
          let more = hidden_changes-more kept names i c.name-item.result None c.loop-name-test.true c.name-item.is w.in_default.ensures in
          rw w.changes-is (c.loop-name.invariant ∙ ap (λ (cs : List Change). old ++ cs) (sym (more ∙ append-nil so_far)))
    ]
