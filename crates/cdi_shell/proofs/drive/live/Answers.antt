use Rattle.std.proofs.Common.{◌∙◌, ap, sym, subst, Result, OnOk, IsTrue}
use Rattle.cdi_lines.specs.declared.fault.ServeFault.{ServeFault}
use Rattle.cdi_lines.specs.Served.{Blames}
use Rattle.cdi_container.specs.Standing.{IsStarted}
use Rattle.cdi_shell.specs.Drive.{Streams}
use Rattle.cdi_shell.proofs.Playing.{outcome_is, lives}
use Rattle.cdi_shell.proofs.drive.live.Goals as goal

pub returns-clause-lives : goal.returns-clause-lives
returns-clause-lives g c =
    let streams : Streams = record { unread = g.R.Source.unread c.args.input.now; unread_after = g.R.Source.unread c.serve-served.new.input; held = g.W.Sink.written c.args.output.now; held_after = g.W.Sink.written c.serve-served.new.output } in
    let limits = c.args.settings.limits in
    let started =
    subst (λ k. IsStarted (g.D.Driver.legal c.args.driver) (g.D.Driver.legal k.runtime.driver) c.args.tables limits.ticks limits.depth k) (sym c.new-session.ensures.container)
    c.start-container.ensures in
    lives (λ driver. g.D.Driver.legal driver) (g.D.Driver.legal c.args.driver) c.args.tables c.args.settings c.new-session.result c.serve-served.new.self streams
    c.serve-served.result c.halted.result c.after_serving.result started c.new-session.ensures.shows c.serve-served.ensures.served
    (c.halted.ensures ∙ ap (λ k. k.halted) c.container.ensures) c.after_serving.ensures

pub returns-clause-passed_on : goal.returns-clause-passed_on
returns-clause-passed_on g c =
    subst (λ (r : Result (Unit {0}) ServeFault). OnOk r (IsTrue (g.W.Sink.is_passed_on c.serve-served.new.output))) (sym (outcome_is c.after_serving.result c.serve-served.result _ c.after_serving.ensures))
    c.serve-served.ensures.passed_on

pub returns-clause-blames : goal.returns-clause-blames
returns-clause-blames g c =
    subst (λ (r : Result (Unit {0}) ServeFault). Blames r (g.R.Source.has_failed c.args.input.now) (g.R.Source.has_failed c.serve-served.new.input) (g.W.Sink.has_failed c.args.output.now) (g.W.Sink.has_failed c.serve-served.new.output))
    (sym (outcome_is c.after_serving.result c.serve-served.result _ c.after_serving.ensures)) c.serve-served.ensures.blames
