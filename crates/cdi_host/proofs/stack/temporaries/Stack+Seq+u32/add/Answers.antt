use Rattle.std.proofs.Common.{◌∙◌, ◌++◌, ◌∷◌, [], List, ℕ, ap, sym, refl, true≢false}
use Rattle.cdi_machine.specs.World.{on_top}
use Rattle.cdi_host.proofs.Stacks.{reverse-with_item, reverse-empty}
use Rattle.cdi_host.proofs.stack.temporaries.Stack+Seq+u32.add.Goals as goal
use Rattle.cdi_host.proofs.stack.temporaries.Stack+Seq+u32.add.Goals.{in-Some+in_ok-push, in_default}

pub returns-clause-ok : goal.returns-clause-ok
returns-clause-ok c =
    let with_number = λ (numbers : List ℕ). numbers ++ c.args.number ∷ [] in
    elim c.match-last_mut.branch [
      | in-Some+in_ok-push w ↦
          let e = w.in-Some.ensures in
          rw w.self-inside-is (reverse-with_item with_number c.self.inside.items w.in-Some.innermost.now w.push.new.self
          (e.variant.0 refl) e.value w.in_ok-push.ensures.ok ∙ ap (on_top with_number) c.self.view_is)
      | in_default w ↦
          rw w.self-inside-is (reverse-empty with_number c.self.inside.items
          (λ h. true≢false (sym (w.in_default.ensures.variant.1 h))) ∙ ap (on_top with_number) c.self.view_is)
    ]
