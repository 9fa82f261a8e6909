-- A deployment whose bodies are scripts plays what the scripts do.
use Rattle.std.proofs.Common.{ℕ, ◌≡◌, ◌∙◌, List, [], Bool, false, ap, sym, subst, Option, Some, None, if◌then◌else◌}
use Rattle.cdi_base.specs.declared.or_memory.OrMemory.{OrMemory}
use Rattle.cdi_base.specs.declared.or_memory.OrMemory.TheVariants as errors
use Rattle.cdi_bodies.specs.declared.entry.Entry.{Entry}
use Rattle.cdi_bodies.specs.declared.chooser.Chooser.{Chooser}
use Rattle.cdi_bodies.specs.declared.shape.Shape.{Shape}
use Rattle.cdi_bodies.specs.Picks.{picks}
use Rattle.cdi_body_check.specs.Shapes.{shape_of}
use Rattle.cdi_body_check.specs.Sites.{sites_of}
use Rattle.cdi_check.specs.Problems.{AreProblemsOf}
use Rattle.cdi_deployment.specs.declared.deployment.Deployment.{Deployment}
use Rattle.cdi_machine.specs.Commands.{Command}
use Rattle.cdi_machine.specs.Laws.{IsWithin}
use Rattle.cdi_machine.specs.Registered.{chosen_by}
use Rattle.cdi_machine.specs.Runs.{Legal}
use Rattle.cdi_problems.specs.declared.problem.Problem.{Problem}
use Rattle.cdi_event_tables.specs.Ids.{is_named, told_of}
use Rattle.cdi_run_tables.specs.Machine.{machine_tables}
use Rattle.cdi_run_tables.specs.declared.tables.RunTables.{RunTables}
use Rattle.cdi_container.specs.Accepted as container
use Rattle.cdi_container.specs.Accepted.{IsAccepted, IsUnaccepted}
use Rattle.cdi_container.specs.declared.acceptance.Unaccepted.{Unaccepted}
use Rattle.cdi_container.specs.declared.acceptance.Unaccepted.TheVariants as reasons
use Rattle.cdi_container.specs.Sessions.{AnswersLine, reply_in}
use Rattle.cdi_container.specs.States.{before_start}
use Rattle.cdi_prepare.specs.declared.scripts.NamedScript.{NamedScript}
use Rattle.cdi_prepare.specs.Scripts.{place_under, shape_under}
use Rattle.cdi_prepare.proofs.Holding.{AreBodiesOf, same_place, same_shape}
use Rattle.cdi_report.specs.Reports.{AreProblemsWith, problem_lines}
use Rattle.cdi_base.specs.Chosen.{chosen}
use Rattle.cdi_base.specs.declared.settings.Settings.{Settings}
use Rattle.cdi_shell.specs.declared.ending.Ending.{Ending}
use Rattle.cdi_shell.specs.Drive.{Streams, AreTablesWith, IsRefusable, IsWellFormedWith, Lives, PlaysScripts, Refuses, RefusesOr, RefusesUnaccepted, legal_by}
use Rattle.cdi_shell.proofs.Attended.{attended}
use Rattle.cdi_shell.proofs.Holding.{within}
use Rattle.cdi_shell.proofs.Lookups.{same_lookups}
use Rattle.cdi_shell.proofs.SoundScripts.{sound_scripts}
use Rattle.cdi_shell.proofs.Wider.{answers_more, line_more}

-- what is legal for the bodies is legal for their scripts
lives_wider : (o : Settings) (t : RunTables) (small large : Legal) (streams : Streams) (e : Ending) → IsWithin small large → Lives o t small streams e → Lives o t large streams e
lives_wider o t small large streams e more l =
    let names = t.deployment.names in
    let tables = machine_tables t in
    record {
      reply = l.reply;
      started = l.started;
      ended = l.ended;
      result = l.result;
      boots = answers_more names tables small large more (before_start o.limits.ticks o.limits.depth) Command.Boot l.reply l.started l.boots;
      served = attended (AnswersLine o.shows_trace names tables small (Unit {0})) (AnswersLine o.shows_trace names tables large (Unit {0})) (λ s. s) (λ s. Unit {0}) (λ s line text u k h. tt)
          (λ s line text u k h. line_more names tables small large more o.shows_trace s line text u h)
          16777216 (reply_in names o.shows_trace l.reply l.started) l.started l.ended streams.unread streams.unread_after streams.held streams.held_after tt l.result l.served;
      is_ending = l.is_ending;
    }

module _ {X : Type 0} {F : X → Type 0} {g : _} (d : Deployment) (es : List (Entry X F g)) (ss : List NamedScript) (h : AreBodiesOf es ss) where
  shapes : (name : ℕ) → shape_of es name ≡ shape_under ss name
  shapes name = same_shape es ss name h

  problems_with : (problems : List Problem) → AreProblemsOf d (shape_of es) problems → AreProblemsWith ss d problems
  problems_with problems are = record { shape_of = shape_of es; shapes = shapes; are = are }

  tables_with : (t : RunTables) → container.AreTablesWith d es t → AreTablesWith ss d t
  tables_with t a =
      record {
        deployment_is = a.deployment_is;
        tabled = a.tabled;
        ids = λ name.
            a.ids.told name
            ∙ ap (λ (o : Option ℕ). if is_named (sites_of t.deployment) name then Some o else None) (same_place es ss name h)
            ∙ ap (λ (k : Deployment). told_of (place_under ss) (sites_of k) name) a.deployment_is;
        lookups = a.lookups ∙ same_lookups es ss h;
      }

  -- a deployment that is as one that was read isn't told to be malformed
  pub refusable : IsWellFormedWith ss d → (u : OrMemory Unaccepted) → IsUnaccepted d es u → IsRefusable u
  refusable formed (errors.Fault (reasons.Problems names problems)) told = tt
  refusable formed (errors.Fault reasons.Malformed) told = cc (formed told.tables (tables_with told.tables told.are), told.malformed)
  refusable formed errors.Memory told = tt

module _ {X : Type 0} {F : X → Type 0} {g : _} (o : Settings) (d : Deployment) (es : List (Entry X F g)) (ss : List NamedScript) (streams : Streams) (e : Ending) (h : AreBodiesOf es ss) where
  pub accepted_plays : {Y : Type 0} {G : Y → Type 0} {k : _} (chooser : Chooser Y G k) (t : RunTables) → ((candidates count i : ℕ) → picks chooser candidates count i → i ≡ chosen o.order candidates) → IsWellFormedWith ss d → IsAccepted d es t → Lives o t (chosen_by es chooser) streams e → PlaysScripts o d ss streams e
  accepted_plays chooser t first formed a l =
      let none = problems_with d es ss h [] a.are.faultless in
      let tables = tables_with d es ss h t a.are in
      PlaysScripts.runs none tables (sound_scripts o.order ss d t none tables formed)
      (lives_wider o t (chosen_by es chooser) (legal_by o.order ss) streams e (within o.order chooser es ss first h) l)

  pub refused_plays : (u : OrMemory Unaccepted) → IsUnaccepted d es u → streams.unread_after ≡ streams.unread → RefusesUnaccepted u streams.held streams.held_after e → PlaysScripts o d ss streams e
  refused_plays (errors.Fault (reasons.Problems names problems)) (named, are, some) unread (RefusesOr.starves held is) = PlaysScripts.starves (record { unread = unread; held = held; is_ending = is })
  refused_plays (errors.Fault (reasons.Problems names problems)) (named, are, some) unread (RefusesOr.refuses w) =
      PlaysScripts.refuses (problems_with d es ss h problems are) some
      (record { unread = unread; refuses = subst (λ (ns : List (List ℕ)). Refuses (problem_lines ns problems) streams.held streams.held_after e) named w })
  refused_plays (errors.Fault reasons.Malformed) u unread w = absurd w
  refused_plays errors.Memory told unread (held, is) = PlaysScripts.starves (record { unread = unread; held = held; is_ending = is })
