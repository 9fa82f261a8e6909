-- Each line of a run that tells an exception tells it by a name.
use Rattle.std.proofs.Common.{ℕ, ◌≡◌, Bool, List, [], true, Result, Ok, Err, IfOk, refl, sym, subst}
use Rattle.std.specs.List.{list_all}
use Rattle.cdi_base.specs.declared.command.Command.{Command as Written}
use Rattle.cdi_base.specs.declared.reply.Reply.{Reply}
use Rattle.cdi_base.specs.Name.{is_name}
use Rattle.cdi_text.specs.declared.command.BadLine.{BadLine}
use Rattle.cdi_text.specs.Command.{command_in}
use Rattle.cdi_ledger.specs.Ledger.{Item}
use Rattle.cdi_machine.specs.Commands.{Command}
use Rattle.cdi_machine.specs.Runs.{Legal}
use Rattle.cdi_machine.specs.Tables.{Tables}
use Rattle.cdi_run_tables.specs.Machine.{machine_tables}
use Rattle.cdi_run_tables.specs.declared.tables.RunTables.{RunTables}
use Rattle.cdi_container.specs.Commands.{machine_command}
use Rattle.cdi_container.specs.History.{History, answer_items}
use Rattle.cdi_container.specs.Sessions.{AnswersLine, AnswersRead, reply_in}
use Rattle.cdi_container.specs.States.{ContainerState, AnswersCommand, before_start}
use Rattle.cdi_prepare.specs.Ready.{Readied, readied_in}
use Rattle.cdi_prepare.specs.Scripts.{registered}
use Rattle.cdi_report.specs.Reports.{AreProblemsWith}
use Rattle.cdi_report.specs.Facts.{HasFacts}
use Rattle.cdi_base.specs.declared.settings.Settings.{Settings}
use Rattle.cdi_shell.specs.declared.ending.Ending.{Ending}
use Rattle.cdi_shell.specs.Drive.{AreTablesWith, Lives, Streams, legal_by}
use Rattle.cdi_shell.specs.Thrown.{AnswersByName, LinesTellTrueNames, LivesByNames, TellsThem, TellsTrueName}
use Rattle.cdi_shell.proofs.Attended.{attended}
use Rattle.cdi_shell.proofs.SoundScripts.{sound_scripts}
use Rattle.cdi_shell.proofs.Serving.{formed_with}
use Rattle.cdi_shell.proofs.Thrown.{true_name}

-- ---- the lines of a container

module _ (names : List (List ℕ)) (tables : Tables) (legal : Legal)
    (told : (s u : ContainerState) (h : List Item) → History tables legal (Unit {0}) s h → (c : Command) (reply : Reply) → AnswersCommand tables legal (Unit {0}) s c reply u → TellsTrueName names reply) where
  -- something stands written behind the commands that led to the state
  abbrev Lived : ContainerState → Type 0
  Lived s = (h : List Item) × History tables legal (Unit {0}) s h

  goes_on : (c : Result Written BadLine) (s t : ContainerState) (reply : Reply) → Lived s → AnswersRead names tables legal (Unit {0}) c s reply t → Lived t
  goes_on (Ok command) s t reply (h, history) a = (answer_items h a, History.answers history a)
  goes_on (Err none) s t reply (h, history) a = subst Lived (sym a.1) (h, History.refuses_line history)

  tells : (c : Result Written BadLine) (s t : ContainerState) (reply : Reply) → Lived s → AnswersRead names tables legal (Unit {0}) c s reply t → TellsTrueName names reply
  tells (Ok command) s t reply (h, history) a = told s t h history (machine_command names command) reply a
  tells (Err none) s t reply lived a = subst (λ r. TellsTrueName names r) (sym a.0) tt

  keeps : (shows : Bool) (s : ContainerState) (line text : List ℕ) (t : ContainerState) → Lived s → AnswersLine shows names tables legal (Unit {0}) s line text t → Lived t
  keeps shows s line text t lived (reply, h, is) = goes_on (command_in line) s t reply lived h

  by_name : (shows : Bool) (s : ContainerState) (line text : List ℕ) (t : ContainerState) → Lived s → AnswersLine shows names tables legal (Unit {0}) s line text t → AnswersByName shows names tables legal s line text t
  by_name shows s line text t lived (reply, h, is) = (reply, h, is, tells (command_in line) s t reply lived h)

lives_by_names : (o : Settings) (t : RunTables) (legal : Legal) (streams : Streams) (ending : Ending) → TellsThem t legal
    → Lives o t legal streams ending → LivesByNames o t legal streams ending
lives_by_names o t legal streams ending told l =
    let names = t.deployment.names in
    let tables = machine_tables t in
    let begun = History.begins o.limits.ticks o.limits.depth in
    record {
      lives = l;
      start = told (before_start o.limits.ticks o.limits.depth) l.started [] begun Command.Boot l.reply l.boots;
      served = attended (AnswersLine o.shows_trace names tables legal (Unit {0})) (AnswersByName o.shows_trace names tables legal) (λ s. s) (Lived names tables legal told)
          (keeps names tables legal told o.shows_trace) (by_name names tables legal told o.shows_trace)
          16777216 (reply_in names o.shows_trace l.reply l.started) l.started l.ended streams.unread streams.unread_after streams.held streams.held_after
          (answer_items [] l.boots, History.answers begun l.boots) l.result l.served;
    }

-- ---- those of a run

pub lines_tell : ((bytes : List ℕ) → IfOk (readied_in bytes) (λ r. HasFacts r.deployment)) → LinesTellTrueNames
lines_tell facts bytes = by (readied_in bytes) refl (facts bytes)
  where
    by : (found : Result Readied (List ℕ)) → readied_in bytes ≡ found → IfOk found (λ r. HasFacts r.deployment)
        → IfOk found (λ r. (t : RunTables) → AreProblemsWith (registered r.scripts) r.deployment [] → AreTablesWith (registered r.scripts) r.deployment t
        → (o : Settings) (streams : Streams) (ending : Ending) → Lives o t (legal_by o.order (registered r.scripts)) streams ending
        → LivesByNames o t (legal_by o.order (registered r.scripts)) streams ending)
    by (Ok r) is has = λ t none are o streams ending l.
        let legal = legal_by o.order (registered r.scripts) in
        let names : list_all is_name t.deployment.names ≡ true = subst (λ d. list_all is_name d.names ≡ true) (sym are.deployment_is) has.texts in
        let thrown = (sound_scripts o.order (registered r.scripts) r.deployment t none are (formed_with bytes r is)).names in
        lives_by_names o t legal streams ending (λ s u h history c reply a. true_name t.deployment.names reply names (thrown s u h history c reply a)) l
    by (Err line) is has = tt
