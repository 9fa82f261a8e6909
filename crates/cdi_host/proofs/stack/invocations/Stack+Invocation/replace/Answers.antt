use Rattle.std.proofs.Common.{◌∙◌, ap, sym, refl, true≢false}
use Rattle.cdi_machine.specs.World.{on_top}
use Rattle.cdi_host.specs.Invocation.{with_parameters}
use Rattle.cdi_host.proofs.Stacks.{reverse-with_item, reverse-empty}
use Rattle.cdi_host.proofs.stack.invocations.Stack+Invocation.replace.Goals as goal
use Rattle.cdi_host.proofs.stack.invocations.Stack+Invocation.replace.Goals.{in-Some, in_default}

pub returns : goal.returns
returns c =
    let v = c.self.inside.items in
    let f = with_parameters c.args.parameters in
    elim c.match-last_mut.branch [
      | in-Some w ↦
          let e = w.in-Some.ensures in
          rw w.self-inside-is (reverse-with_item f v w.in-Some.innermost.now w.replace.new.self
          (e.variant.0 refl) e.value w.replace.ensures ∙ ap (on_top f) c.self.view_is)
      | in_default w ↦
          rw w.self-inside-is (reverse-empty f v
          (λ h. true≢false (sym (w.in_default.ensures.variant.1 h))) ∙ ap (on_top f) c.self.view_is)
    ]
