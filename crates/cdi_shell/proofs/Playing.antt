-- A container that is started and served lives.
use Rattle.std.proofs.Common.{ℕ, ◌≡◌, ◌∙◌, Bool, List, ap, subst, refl, Option, Some, None}
use Rattle.std.specs.Prelude.{Result, Ok, Err}
use Rattle.cdi_base.specs.declared.reply.Cause.{Cause}
use Rattle.cdi_machine.specs.Tables.{Tables}
use Rattle.cdi_machine.specs.Runs.{Legal}
use Rattle.cdi_machine.specs.Laws.{IsWithin}
use Rattle.cdi_run_tables.specs.Machine.{machine_tables}
use Rattle.cdi_run_tables.specs.declared.tables.RunTables.{RunTables}
use Rattle.cdi_container.specs.Sessions.{AnswersLine, AnswersSo, Served, ServedBy, SessionParts, greeting_of, reply_in}
use Rattle.cdi_container.specs.Standing.{IsStarted, names_of, tables_of, state_of}
use Rattle.cdi_container.specs.States.{ContainerState}
use Rattle.cdi_lines.specs.declared.fault.ServeFault.{ServeFault}
use Rattle.cdi_base.specs.declared.settings.Settings.{Settings}
use Rattle.cdi_shell.specs.declared.ending.Ending.{Ending}
use Rattle.cdi_shell.specs.Drive.{Streams, Lives}
use Rattle.cdi_shell.specs.Endings.{after_serving, outcome_of}
use Rattle.cdi_shell.proofs.Attended.{attended}
use Rattle.cdi_shell.proofs.Wider.{within_both, line_more}

module _ {Driving : Type 0} (legal : Driving → Legal) (first : Legal) (shows : Bool) (names : List (List ℕ)) (tables : Tables) where
  abbrev So : SessionParts Driving → List ℕ → List ℕ → SessionParts Driving → Type 0
  So s line text t = AnswersSo (legal s.container.runtime.driver) (legal t.container.runtime.driver) s line text t

  abbrev state_in : SessionParts Driving → ContainerState
  state_in s = state_of s.container

  -- the names, the tables and what is shown are those of the start, and nothing has become legal since
  record Keeps (s : SessionParts Driving) : Type 0 where
    is_names : names_of s.container ≡ names
    is_tables : tables_of s.container ≡ tables
    is_shown : s.shows_trace ≡ shows
    within : IsWithin (legal s.container.runtime.driver) first

  -- what the session answers, under what was legal at the start
  abbrev Line : ContainerState → List ℕ → List ℕ → ContainerState → Type 0
  Line = AnswersLine shows names tables first (Unit {0})

  keeps : (s : SessionParts Driving) (line text : List ℕ) (t : SessionParts Driving) → Keeps s → So s line text t → Keeps t
  keeps s line text t k a = record {
    is_names = a.same.parts.names ∙ k.is_names;
    is_tables = a.same.parts.tables ∙ k.is_tables;
    is_shown = a.shows ∙ k.is_shown;
    within = within_both (legal t.container.runtime.driver) (legal s.container.runtime.driver) first a.same.parts.legal k.within;
  }

  maps : (s : SessionParts Driving) (line text : List ℕ) (t : SessionParts Driving) → Keeps s → So s line text t → Line (state_in s) line text (state_in t)
  maps s line text t k a =
      let before = legal s.container.runtime.driver in
      let shown = subst (λ (b : Bool). AnswersLine b (names_of s.container) (tables_of s.container) before (Unit {0}) (state_in s) line text (state_in t)) k.is_shown a.answers in
      let named = subst (λ (ns : List (List ℕ)). AnswersLine shows ns (tables_of s.container) before (Unit {0}) (state_in s) line text (state_in t)) k.is_names shown in
      let there = subst (λ (ts : Tables). AnswersLine shows names ts before (Unit {0}) (state_in s) line text (state_in t)) k.is_tables named in
      line_more names tables before first k.within shows (state_in s) line text (state_in t) there

-- the fault that a run ended with is that of serving
outcome_after : (r : Result (Unit {0}) ServeFault) (halted : Option Cause) → outcome_of (after_serving r halted) ≡ r
outcome_after (Ok tt) None = refl
outcome_after (Ok tt) (Some cause) = refl
outcome_after (Err fault) halted = refl

pub outcome_is : (ending : Ending) (r : Result (Unit {0}) ServeFault) (halted : Option Cause) → ending ≡ after_serving r halted → outcome_of ending ≡ r
outcome_is ending r halted is = ap outcome_of is ∙ outcome_after r halted

module _ {Driving : Type 0} (legal : Driving → Legal) (first : Legal) (t : RunTables) (o : Settings) (c d : SessionParts Driving) (streams : Streams) where
  pub lives : (result : Result (Unit {0}) ServeFault) (halted : Option Cause) (ending : Ending)
      → IsStarted first (legal c.container.runtime.driver) t o.limits.ticks o.limits.depth c.container → c.shows_trace ≡ o.shows_trace
      → ServedBy 16777216 legal c d streams.unread streams.unread_after streams.held streams.held_after result
      → halted ≡ d.container.halted → ending ≡ after_serving result halted
      → Lives o t first streams ending
  lives result halted ending b shown s told is =
      let shows = o.shows_trace in
      let names = t.deployment.names in
      let tables = machine_tables t in
      let kept : Keeps legal first shows names tables c = record { is_names = b.names; is_tables = b.tables; is_shown = shown; within = b.legal } in
      let lines = attended (So legal first shows names tables) (Line legal first shows names tables) (state_in legal first shows names tables) (Keeps legal first shows names tables)
      (keeps legal first shows names tables) (maps legal first shows names tables)
      16777216 (greeting_of c) c d streams.unread streams.unread_after streams.held streams.held_after kept result s in
      let P : List ℕ → Type 0 = λ greeting. Served 16777216 (AnswersLine shows names tables first (Unit {0})) greeting (state_of c.container) (state_of d.container)
      streams.unread streams.unread_after streams.held streams.held_after result in
      let greeting : greeting_of c ≡ reply_in names shows c.container.booted (state_of c.container) =
      ap (λ (ns : List (List ℕ)). reply_in ns c.shows_trace c.container.booted (state_of c.container)) b.names
      ∙ ap (λ (k : Bool). reply_in names k c.container.booted (state_of c.container)) shown in
      record {
        reply = c.container.booted;
        started = state_of c.container;
        ended = state_of d.container;
        result = result;
        boots = b.boots;
        served = subst P greeting lines;
        is_ending = is ∙ ap (after_serving result) told;
      }
