use Rattle.std.proofs.Common.{◌∙◌, ap, sym, refl, true≢false}
use Rattle.cdi_machine.specs.World.{on_top}
use Rattle.cdi_host.specs.Invocation.{with_data}
use Rattle.cdi_host.proofs.Stacks.{reverse-with_item, reverse-empty}
use Rattle.cdi_host.proofs.stack.invocations.Stack+Invocation.keep.Goals as goal
use Rattle.cdi_host.proofs.stack.invocations.Stack+Invocation.keep.Goals.{in-Some+in_ok-keep, in_default+in-Null-1, in_default+in-Text-1}

pub returns-clause-ok : goal.returns-clause-ok
returns-clause-ok c =
    let v = c.self.inside.items in
    let f = with_data c.args.key c.args.value in
    elim c.match-last_mut.branch [
      | in-Some+in_ok-keep w ↦
          let e = w.in-Some.ensures in
          rw w.self-inside-is (reverse-with_item f v w.in-Some.innermost.now w.keep.new.self
          (e.variant.0 refl) e.value w.in_ok-keep.ensures.ok ∙ ap (on_top f) c.self.view_is)
      | in_default+in-Null-1 w ↦
          rw w.self-inside-is (reverse-empty f v
          (λ h. true≢false (sym (w.in_default.ensures.variant.1 h))) ∙ ap (on_top f) c.self.view_is)
      | in_default+in-Text-1 w ↦
          rw w.self-inside-is (reverse-empty f v
          (λ h. true≢false (sym (w.in_default.ensures.variant.1 h))) ∙ ap (on_top f) c.self.view_is)
    ]
