use Rattle.std.proofs.Common.{◌≡◌, ◌∙◌, sym, ap, subst, [], None}
use Rattle.cdi_frames.specs.Stacks.{Steps}
use Rattle.cdi_frames.specs.declared.stack.Pending.TheVariants as pendings
use Rattle.cdi_machine.specs.Container.{refusal}
use Rattle.cdi_machine.specs.World.{at_begin}
use Rattle.cdi_steps.specs.Known.{KnownJob}
use Rattle.cdi_steps.specs.Words.{command_of}
use Rattle.cdi_steps.specs.declared.task.Task.TheVariants as tasks
use Rattle.cdi_runtime.specs.Standing.{RuntimeParts}
use Rattle.cdi_container.specs.Standing.{state_of, tables_in, tables_of}
use Rattle.cdi_container.specs.States.{machine_state}
use Rattle.cdi_container.specs.Turns.{IsLeftOf}
use Rattle.cdi_container.specs.declared.left.Left.TheVariants as lefts
use Rattle.cdi_container.proofs.Replying.{is_live, told_by_end}
use Rattle.cdi_container.proofs.container.Container.begin_admitted.Goals as goal

pub begun-stack-requires : goal.begun-stack-requires
begun-stack-requires g c =
    subst (λ s. KnownJob (tables_of s) (state_of s).world c.args.job) (sym c.self.view_is) c.requires.known

pub returns-then-asks_for_live-clause-left : goal.returns-then-asks_for_live-clause-left
returns-then-asks_for_live-clause-left g c =
    let s = c.args.self.now in
    subst (λ k. IsLeftOf (tables_of s) (g.D.Driver.legal s.runtime.driver) (state_of s) k lefts.Tells (state_of c.forget.new.self))
    (sym (is_live c.args.job (sym c.asks_for_live.ensures ∙ c.if-asks_for_live.true))) (IsLeftOf.tells c.forget.ensures.state)

pub returns-clause-left : goal.returns-clause-left
returns-clause-left g c =
    let job = c.args.job in
    let i = c.self.inside in
    let v = c.begun-stack.new.runtime.world in
    let told = told_by_end job (sym c.asks_for_live.ensures ∙ c.if-asks_for_live.false) in
    let admitted =
    subst (λ s. refusal (tables_of s) (machine_state (state_of s)) (command_of job) ≡ None) (sym c.self.view_is) c.requires.unrefused in
    let steps =
    subst (λ w. Steps (tables_in i.runtime) (g.D.Driver.legal i.runtime.driver) [] (pendings.Does (tasks.Begin job)) (at_begin i.runtime.world) [] (pendings.Does (tasks.Begin job)) w)
    (sym (ap (λ (r : RuntimeParts _). r.world) c.begun-stack.ensures.begins)) Steps.stays in
    subst (λ s. IsLeftOf (tables_of s) (g.D.Driver.legal s.runtime.driver) (state_of s) (command_of job) (lefts.Runs c.begun-stack.result c.has_value-is_valued.result) (record { world = v; halted = i.halted })) c.self.view_is
    (rw (c.has_value-is_valued.ensures, c.begun-stack.ensures.stack) (IsLeftOf.runs job told admitted steps))
