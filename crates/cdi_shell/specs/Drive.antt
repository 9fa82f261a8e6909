-- A run of the program, from the bytes of a deployment and of its input to the bytes of its output.
use Rattle.std.specs.Prelude.{◌≡◌, ◌≢◌, ℕ, List, [], map, nat_eq, true, Option, Result, Ok, Err, slice_get, MatchOption}
use Rattle.std.specs.HashMap.{get}
use Rattle.cdi_base.specs.declared.or_memory.OrMemory.{OrMemory}
use Rattle.cdi_base.specs.declared.or_memory.OrMemory.TheVariants as errors
use Rattle.cdi_base.specs.declared.reply.Reply.{Reply}
use Rattle.cdi_base.specs.Chosen.{chosen}
use Rattle.cdi_base.specs.declared.settings.Order.{Order}
use Rattle.cdi_base.specs.declared.settings.Settings.{Settings}
use Rattle.cdi_bodies.specs.declared.shape.Lookup.{Lookup}
use Rattle.cdi_body_check.specs.Sites.{sites_of}
use Rattle.cdi_deployment.specs.declared.deployment.Deployment.{Deployment}
use Rattle.cdi_machine.specs.Runs.{Legal}
use Rattle.cdi_problems.specs.declared.problem.Problem.{Problem}
use Rattle.cdi_event_tables.specs.Ids.{told_of}
use Rattle.cdi_run_tables.specs.Machine.{machine_tables}
use Rattle.cdi_run_tables.specs.Planned.{IsTabled}
use Rattle.cdi_run_tables.specs.declared.tables.RunTables.{RunTables}
use Rattle.cdi_script.specs.Listed.{shape_of}
use Rattle.cdi_script.specs.Next.{next_of}
use Rattle.cdi_container.specs.Accepted.{is_well_formed}
use Rattle.cdi_container.specs.declared.acceptance.Unaccepted.{Unaccepted}
use Rattle.cdi_container.specs.declared.acceptance.Unaccepted.TheVariants as reasons
use Rattle.cdi_container.specs.Sessions.{AnswersLine, Served, reply_in}
use Rattle.cdi_container.specs.Sound.{IsSound}
use Rattle.cdi_container.specs.States.{ContainerState, Boots}
use Rattle.cdi_shell.specs.declared.ending.Ending.{Ending}
use Rattle.cdi_lines.specs.declared.fault.ServeFault.{ServeFault}
use Rattle.cdi_lines.specs.declared.sink.WriteFailed.{WriteFailed}
use Rattle.cdi_prepare.specs.declared.scripts.NamedScript.{NamedScript}
use Rattle.cdi_prepare.specs.Ready.{Readied, readied_in}
use Rattle.cdi_prepare.specs.Scripts.{registered, place_under, shape_under}
use Rattle.cdi_report.specs.Reports.{AreProblemsWith, problem_lines}
use Rattle.cdi_shell.specs.Endings.{after_serving, after_refusal, starved}
use Rattle.cdi_lines.specs.Ends.{WritesAll}

-- A body does what its script does next, and of several candidates the first is picked, or the last: one act and one pick is
-- legal.
abbrev pub legal_by : Order → List NamedScript → Legal
legal_by order scripts =
    record {
      gives = λ id count fields view act.
          MatchOption (slice_get scripts id) ⊥ (λ s. act ≡ next_of s.script fields view);
      picks = λ candidates count choice. choice ≡ chosen order candidates;
    }

-- ---- the run

-- the known bytes of the source and of the sink, before and after
pub record Streams : Type 0 where
  pub unread : Option (List ℕ)
  pub unread_after : Option (List ℕ)
  pub held : Option (List ℕ)
  pub held_after : Option (List ℕ)

-- these lines are written, or where that failed a front part of them
pub record Refuses (lines : List ℕ) (held held_after : Option (List ℕ)) (ending : Ending)
    : Type 0 where
  pub result : Result (Unit {0}) WriteFailed
  pub written : WritesAll held held_after result lines
  pub is_ending : ending ≡ after_refusal result

-- nothing is read, and these lines are written
pub record Writes (lines : List ℕ) (streams : Streams) (ending : Ending) : Type 0 where
  pub unread : streams.unread_after ≡ streams.unread
  pub refuses : Refuses lines streams.held streams.held_after ending

-- memory ran out before anything was read or written
pub record IsSilent (streams : Streams) (ending : Ending) : Type 0 where
  pub unread : streams.unread_after ≡ streams.unread
  pub held : streams.held_after ≡ streams.held
  pub is_ending : ending ≡ starved

-- The container of these tables, with these settings, is started and served: the lines written are those of a run of the
-- machine for the lines read, in which all that happens is legal.
pub record Lives (o : Settings) (t : RunTables) (legal : Legal) (streams : Streams)
    (ending : Ending) : Type 0 where
  pub reply : Reply
  pub started : ContainerState
  pub ended : ContainerState
  pub result : Result (Unit {0}) ServeFault
  pub boots : Boots (machine_tables t) legal (Unit {0}) o.limits.ticks o.limits.depth reply started
  pub served : Served 16777216
      (AnswersLine o.shows_trace t.deployment.names (machine_tables t) legal (Unit {0}))
      (reply_in t.deployment.names o.shows_trace reply started) started ended
      streams.unread streams.unread_after streams.held streams.held_after result
  pub is_ending : ending ≡ after_serving result ended.halted

-- the lookups of each script, at its body's number
abbrev pub lookups_by : List NamedScript → List (List Lookup)
lookups_by scripts = map (λ s. (shape_of s.script).lookups) scripts

-- these are the tables of a deployment whose bodies are scripts
pub record AreTablesWith (scripts : List NamedScript) (d : Deployment) (t : RunTables)
    : Type 0 where
  pub deployment_is : t.deployment ≡ d
  pub tabled : IsTabled t
  pub ids :
      (name : ℕ) → get nat_eq t.ids.ids name ≡ told_of (place_under scripts) (sites_of d) name
  pub lookups : t.lookups ≡ lookups_by scripts

-- what a container takes for granted holds of all tables of the deployment
abbrev pub IsWellFormedWith : List NamedScript → Deployment → Type 0
IsWellFormedWith scripts d =
    (t : RunTables) → AreTablesWith scripts d t → is_well_formed t ≡ true

-- A deployment whose bodies are these scripts is run: its problems are written or, if it has none, its container lives, and
-- whatever it is asked, its runs are sound.
pub data PlaysScripts (o : Settings) (d : Deployment) (scripts : List NamedScript)
    (streams : Streams) (ending : Ending) : Type 0 where
  starves : IsSilent streams ending → PlaysScripts o d scripts streams ending
  refuses : {problems : List Problem} → AreProblemsWith scripts d problems → problems ≢ []
      → Writes (problem_lines d.names problems) streams ending
      → PlaysScripts o d scripts streams ending
  runs : {t : RunTables} → AreProblemsWith scripts d [] → AreTablesWith scripts d t
      → IsSound t (legal_by o.order scripts)
      → Lives o t (legal_by o.order scripts) streams ending
      → PlaysScripts o d scripts streams ending

-- what was made ready is run
abbrev pub DrivesReadied : Settings → Result Readied (List ℕ) → Streams → Ending → Type 0
DrivesReadied o (Err lines) streams ending = Writes lines streams ending
DrivesReadied o (Ok r) streams ending =
    PlaysScripts o r.deployment (registered r.scripts) streams ending

-- the program is run on the bytes of a deployment
pub data Drives (o : Settings) (bytes : List ℕ) (streams : Streams) (ending : Ending)
    : Type 0 where
  starves : IsSilent streams ending → Drives o bytes streams ending
  drives : DrivesReadied o (readied_in bytes) streams ending
      → Drives o bytes streams ending

-- ---- parts of a run, for private clauses

-- these lines are written, or memory ran out before
pub data RefusesOr (lines : List ℕ) (held held_after : Option (List ℕ)) (ending : Ending)
    : Type 0 where
  starves : held_after ≡ held → ending ≡ starved → RefusesOr lines held held_after ending
  refuses : Refuses lines held held_after ending → RefusesOr lines held held_after ending

-- it isn't accepted for its problems or for want of memory
abbrev pub IsRefusable : OrMemory Unaccepted → Type 0
IsRefusable (errors.Fault reasons.Malformed) = ⊥
IsRefusable unaccepted = Unit {0}

-- the problems of a deployment that isn't accepted are written, or memory ran out
abbrev pub RefusesUnaccepted : OrMemory Unaccepted → Option (List ℕ) → Option (List ℕ) → Ending
    → Type 0
RefusesUnaccepted (errors.Fault (reasons.Problems names problems)) held held_after ending =
    RefusesOr (problem_lines names problems) held held_after ending
RefusesUnaccepted (errors.Fault reasons.Malformed) held held_after ending = ⊥
RefusesUnaccepted errors.Memory held held_after ending = (held_after ≡ held) × (ending ≡ starved)
