use Rattle.std.proofs.Common.{◌∙◌, ap, sym, refl, true≢false}
use Rattle.cdi_machine.specs.World.{on_top}
use Rattle.cdi_host.specs.Invocation.{reached}
use Rattle.cdi_host.proofs.Stacks.{reverse-with_item, reverse-empty}
use Rattle.cdi_host.proofs.stack.invocations.Stack+Invocation.reach.Goals as goal
use Rattle.cdi_host.proofs.stack.invocations.Stack+Invocation.reach.Goals.{in-Some, in_default}

pub returns : goal.returns
returns c = elim c.match-last_mut.branch [
  | in-Some w ↦
      let v = c.self.inside.items in
      let e = w.in-Some.ensures in
      rw w.self-inside-is (reverse-with_item reached v w.in-Some.innermost.now w.reach.new.self
      (e.variant.0 refl) e.value w.reach.ensures ∙ ap (on_top reached) c.self.view_is)
  | in_default w ↦
      rw w.self-inside-is (reverse-empty reached c.self.inside.items
      (λ h. true≢false (sym (w.in_default.ensures.variant.1 h))) ∙ ap (on_top reached) c.self.view_is)
]
