-- The program's output is a function of its settings, its deployment and its input.
use Rattle.std.proofs.Common.{ℕ, ◌≤◌, length, take, ◌≡◌, ◌∙◌, ◌++◌, ◌∷◌, [], List, refl, sym, ap, ap₂, subst, Option, Some, None, Ok, Err, append-nil, append_assoc, length-append, slice_get, arith}
use lib.Seq.{take-append_seam}
use Rattle.std.specs.Prelude.{Result, MatchOption}
use Rattle.std.specs.Io.KnownBytes.{Appends, Consumes, IsAtEnd}
use Rattle.cdi_base.specs.declared.act.Act.{Act}
use Rattle.cdi_base.specs.declared.reply.Cause.{Cause}
use Rattle.cdi_base.specs.declared.reply.Reply.{Reply}
use Rattle.cdi_bodies.specs.declared.view.View.{View}
use Rattle.cdi_bodies.specs.declared.shape.Shape.{Shape}
use Rattle.cdi_check.specs.Problems.{AreProblemsOf}
use Rattle.cdi_deployment.specs.declared.deployment.Deployment.{Deployment}
use Rattle.cdi_machine.specs.Tables as machine
use Rattle.cdi_problems.specs.declared.problem.Problem.{Problem}
use Rattle.cdi_run_tables.specs.Machine.{machine_tables}
use Rattle.cdi_run_tables.specs.declared.tables.RunTables.{RunTables}
use Rattle.cdi_machine.specs.Commands.{Command}
use Rattle.cdi_machine.specs.Laws.{IsOne}
use Rattle.cdi_machine.specs.Runs.{Legal}
use Rattle.cdi_container.specs.Sessions.{AnswersLine, Served, reply_in}
use Rattle.cdi_container.specs.States.{ContainerState, Boots, before_start}
use Rattle.cdi_script.specs.Next.{next_of}
use Rattle.cdi_base.specs.declared.settings.Order.{Order}
use Rattle.cdi_base.specs.declared.settings.Settings.{Settings}
use Rattle.cdi_shell.specs.declared.ending.Ending.{Ending}
use Rattle.cdi_shell.specs.declared.ending.Ending.TheVariants as endings
use Rattle.cdi_lines.specs.declared.fault.ServeFault.{ServeFault}
use Rattle.cdi_lines.specs.declared.fault.ServeFault.TheVariants as faults
use Rattle.cdi_lines.specs.declared.sink.WriteFailed.{WriteFailed}
use Rattle.cdi_prepare.specs.declared.scripts.NamedScript.{NamedScript}
use Rattle.cdi_prepare.specs.Ready.{Readied, readied_in}
use Rattle.cdi_prepare.specs.Scripts.{registered}
use Rattle.cdi_report.specs.Reports.{AreProblemsWith, problem_lines}
use Rattle.cdi_shell.specs.Drive.{Streams, Writes, Refuses, Lives, PlaysScripts, DrivesReadied, Drives, legal_by}
use Rattle.cdi_lines.specs.Ends.{WritesAll}
use Rattle.cdi_shell.specs.Endings.{after_serving, after_refusal}
use Rattle.cdi_shell.specs.Laws.{IsSettled, SameOutput, OneOutput}
use Rattle.cdi_lines.specs.Lines.{complete_lines, all_lines}
use Rattle.cdi_lines.specs.Served.{Replies, Serves}
use Rattle.cdi_accepted.proofs.Verdicts.{one_verdict}
use Rattle.cdi_shell.proofs.Determined.{IsFed, answers_one, replies_one, replies_halted}
use Rattle.cdi_shell.proofs.Tabled.{same_machine}

-- scripts leave open neither an act nor a pick
pub one_by : (order : Order) (scripts : List NamedScript) → IsOne (legal_by order scripts)
one_by order scripts = record {
  act = λ id count fields view a b p q. at (slice_get scripts id) fields view a b p q;
  pick = λ candidates count i j p q. p ∙ sym q;
}
  where
    at : (o : Option NamedScript) (fields : List (ℕ × _)) (view : View) (a b : Act) → MatchOption o ⊥ (λ s. a ≡ next_of s.script fields view) → MatchOption o ⊥ (λ s. b ≡ next_of s.script fields view) → a ≡ b
    at None fields view a b p q = absurd p
    at (Some s) fields view a b p q = p ∙ sym q

-- ---- what was appended

appended_one : (held : List ℕ) (o after after' : Option (List ℕ)) (bytes bytes' : List ℕ) → o ≡ Some held → bytes ≡ bytes' → Appends o after bytes → Appends o after' bytes' → after ≡ after'
appended_one held o after after' bytes bytes' e same a a' = by after after' (subst (λ (x : Option (List ℕ)). Appends x after bytes) e a) (subst (λ (x : Option (List ℕ)). Appends x after' bytes') e a')
  where
    by : (after after' : Option (List ℕ)) → Appends (Some held) after bytes → Appends (Some held) after' bytes' → after ≡ after'
    by None after' a a' = absurd a
    by (Some xs) None a a' = absurd a'
    by (Some xs) (Some ys) a a' = ap Some (a ∙ ap (λ (x : List ℕ). held ++ x) same ∙ sym a')

-- ---- a refusal

written_all : (lines : List ℕ) (streams : Streams) (e : Ending) (w : Refuses lines streams.held streams.held_after e) → IsSettled e → (e ≡ endings.Refused) × Appends streams.held streams.held_after lines
written_all lines streams e w settled = by w.result w.written w.is_ending
  where
    by : (r : Result (Unit {0}) WriteFailed) → WritesAll streams.held streams.held_after r lines → e ≡ after_refusal r → (e ≡ endings.Refused) × Appends streams.held streams.held_after lines
    by (Ok x) written is = (is, written)
    by (Err x) written is = absurd (subst IsSettled is settled)

writes_one : (lines held : List ℕ) (s s' : Streams) (e e' : Ending) → IsSettled e → IsSettled e' → s.held ≡ Some held → s'.held ≡ Some held → Writes lines s e → Writes lines s' e' → SameOutput s s' e e'
writes_one lines held s s' e e' settled settled' h h' w w' =
    let a = written_all lines s e w.refuses settled in
    let a' = written_all lines s' e' w'.refuses settled' in
    record {
      held_after = appended_one held s.held s.held_after s'.held_after lines lines h refl a.1 (subst (λ (x : Option (List ℕ)). Appends x s'.held_after lines) (h' ∙ sym h) a'.1);
      ending = a.0 ∙ sym a'.0;
    }

-- ---- a container that is served

consumed_of : (input : List ℕ) (unread after : Option (List ℕ)) (read : List ℕ) → unread ≡ Some input → Consumes unread after read → (rest : List ℕ) × (input ≡ read ++ rest) × (IsAtEnd after → rest ≡ [])
consumed_of input unread after read e c = by after (subst (λ (x : Option (List ℕ)). Consumes x after read) e c)
  where
    by : (after : Option (List ℕ)) → Consumes (Some input) after read → (rest : List ℕ) × (input ≡ read ++ rest) × (IsAtEnd after → rest ≡ [])
    by None c = absurd c
    by (Some ys) c = (ys, c, λ end. end)

-- how far serving an input goes, with this result: to its end, or as far as may be read
data Reaches (input : List ℕ) : Result (Unit {0}) ServeFault → List (List ℕ) → Type 0 where
  to_end : length input ≤ 16777216 → Reaches input (Ok tt) (all_lines input)
  too_long : (read rest : List ℕ) (byte : ℕ) → input ≡ read ++ byte ∷ rest → length read ≡ 16777216 → Reaches input (Err faults.TooLong) (complete_lines read)

record SameReach (r r' : Result (Unit {0}) ServeFault) (lines lines' : List (List ℕ)) : Type 0 where
  pub result : r ≡ r'
  pub lines_are : lines ≡ lines'

longer : (input read rest : List ℕ) (byte : ℕ) → input ≡ read ++ byte ∷ rest → length read ≡ 16777216 → length input ≤ 16777216 → ⊥
longer input read rest byte is long short = let sum = ap length is ∙ length-append read (byte ∷ rest) in omega arith

front_of : (input read rest : List ℕ) (byte : ℕ) → input ≡ read ++ byte ∷ rest → length read ≡ 16777216 → take 16777216 input ≡ read
front_of input read rest byte is long = subst (λ (n : ℕ). take n input ≡ read) long (ap (λ (xs : List ℕ). take (length read) xs) is ∙ take-append_seam read (byte ∷ rest))

reach_one : (input : List ℕ) (r r' : Result (Unit {0}) ServeFault) (lines lines' : List (List ℕ)) → Reaches input r lines → Reaches input r' lines' → SameReach r r' lines lines'
reach_one input _ _ _ _ (Reaches.to_end short) (Reaches.to_end short') = record { result = refl; lines_are = refl }
reach_one input _ _ _ _ (Reaches.to_end short) (Reaches.too_long read rest byte is long) = absurd (longer input read rest byte is long short)
reach_one input _ _ _ _ (Reaches.too_long read rest byte is long) (Reaches.to_end short) = absurd (longer input read rest byte is long short)
reach_one input _ _ _ _ (Reaches.too_long read rest byte is long) (Reaches.too_long read' rest' byte' is' long') =
    record { result = refl; lines_are = ap complete_lines (sym (front_of input read rest byte is long) ∙ front_of input read' rest' byte' is' long') }

-- what a container that lived as long as its input let it did
record Whole (o : Settings) (names : List (List ℕ)) (tables : machine.Tables) (legal : Legal) (input : List ℕ) (streams : Streams) (ending : Ending) : Type 0 where
  pub reply : Reply
  pub started : ContainerState
  pub ended : ContainerState
  pub result : Result (Unit {0}) ServeFault
  pub lines : List (List ℕ)
  pub out : List ℕ
  pub reaches : Reaches input result lines
  pub boots : Boots tables legal (Unit {0}) o.limits.ticks o.limits.depth reply started
  pub replies : Replies (AnswersLine o.shows_trace names tables legal (Unit {0})) lines started out ended
  pub written : Appends streams.held streams.held_after (reply_in names o.shows_trace reply started ++ out)
  pub is_ending : ending ≡ after_serving result ended.halted
  pub fed : IsFed ended

whole_of : (o : Settings) (t : RunTables) (legal : Legal) (input : List ℕ) (streams : Streams) (e : Ending) → IsSettled e → streams.unread ≡ Some input
    → (l : Lives o t legal streams e) → Whole o t.deployment.names (machine_tables t) legal input streams e
whole_of o t legal input streams e settled u l = by l.result l.served l.is_ending
  where
    to_end : (h : Serves 16777216 (AnswersLine o.shows_trace t.deployment.names (machine_tables t) legal (Unit {0})) (reply_in t.deployment.names o.shows_trace l.reply l.started) l.started l.ended (Ok tt) streams.unread streams.unread_after streams.held streams.held_after) → e ≡ after_serving {T = Unit {0}} (Ok tt) l.ended.halted → Whole o t.deployment.names (machine_tables t) legal input streams e
    to_end h is =
        let (rest, split, none) = consumed_of input streams.unread streams.unread_after h.read u h.consumed.0 in
        let all : input ≡ h.read = split ∙ ap (λ (x : List ℕ). h.read ++ x) (none h.consumed.1) ∙ append-nil h.read in
        let few = h.within in
        record {
          reply = l.reply;
          started = l.started;
          ended = l.ended;
          result = Ok tt;
          lines = all_lines input;
          out = h.stands.0;
          reaches = Reaches.to_end (subst (λ (b : List ℕ). length b ≤ 16777216) (sym all) few);
          boots = l.boots;
          replies = subst (λ (b : List ℕ). Replies (AnswersLine o.shows_trace t.deployment.names (machine_tables t) legal (Unit {0})) (all_lines b) l.started h.stands.0 l.ended) (sym all) h.stands.1;
          written = subst (λ (b : List ℕ). Appends streams.held streams.held_after b) h.stands.2 h.written;
          is_ending = is;
          fed = λ q. subst IsSettled (is ∙ ap (λ (o : Option Cause). after_serving {T = Unit {0}} (Ok tt) o) q) settled;
        }

    too_long : (h : Serves 16777216 (AnswersLine o.shows_trace t.deployment.names (machine_tables t) legal (Unit {0})) (reply_in t.deployment.names o.shows_trace l.reply l.started) l.started l.ended (Err faults.TooLong) streams.unread streams.unread_after streams.held streams.held_after) → e ≡ after_serving {T = Unit {0}} (Err faults.TooLong) l.ended.halted → Whole o t.deployment.names (machine_tables t) legal input streams e
    too_long h is =
        let (byte, consumed) = h.consumed in
        let (rest, split, none) = consumed_of input streams.unread streams.unread_after (h.read ++ byte ∷ []) u consumed in
        record {
          reply = l.reply;
          started = l.started;
          ended = l.ended;
          result = Err faults.TooLong;
          lines = complete_lines h.read;
          out = h.stands.0;
          reaches = Reaches.too_long h.read rest byte (split ∙ append_assoc h.read (byte ∷ []) rest) h.stands.3;
          boots = l.boots;
          replies = h.stands.1;
          written = subst (λ (b : List ℕ). Appends streams.held streams.held_after b) h.stands.2 h.written;
          is_ending = is;
          fed = λ q. subst IsSettled (is ∙ ap (λ (o : Option Cause). after_serving {T = Unit {0}} (Err faults.TooLong) o) q) settled;
        }

    served : (r : Result (Unit {0}) ServeFault) → Serves 16777216 (AnswersLine o.shows_trace t.deployment.names (machine_tables t) legal (Unit {0})) (reply_in t.deployment.names o.shows_trace l.reply l.started) l.started l.ended r streams.unread streams.unread_after streams.held streams.held_after → e ≡ after_serving r l.ended.halted → Whole o t.deployment.names (machine_tables t) legal input streams e
    served (Ok tt) h is = to_end h is
    served (Err faults.TooLong) h is = too_long h is
    served (Err faults.Read) h is = absurd (subst IsSettled is settled)
    served (Err faults.Write) h is = absurd (subst IsSettled is settled)
    served (Err faults.Memory) h is = absurd (subst IsSettled is settled)

    by : (r : Result (Unit {0}) ServeFault) → Served 16777216 (AnswersLine o.shows_trace t.deployment.names (machine_tables t) legal (Unit {0})) (reply_in t.deployment.names o.shows_trace l.reply l.started) l.started l.ended streams.unread streams.unread_after streams.held streams.held_after r → e ≡ after_serving r l.ended.halted → Whole o t.deployment.names (machine_tables t) legal input streams e
    by _ (Served.silent same unread held) is = absurd (subst IsSettled is settled)
    by r (Served.serves h) is = served r h is

whole_one : (o : Settings) (names : List (List ℕ)) (tables : machine.Tables) (legal : Legal) → IsOne legal → (input held : List ℕ) (s s' : Streams) (e e' : Ending) → s.held ≡ Some held → s'.held ≡ Some held
    → Whole o names tables legal input s e → Whole o names tables legal input s' e' → SameOutput s s' e e'
whole_one o names tables legal one input held s s' e e' h h' w w' =
    let reach = reach_one input w.result w'.result w.lines w'.lines w.reaches w'.reaches in
    let boot = answers_one o.shows_trace names tables legal one Command.Boot (before_start o.limits.ticks o.limits.depth) w.reply w'.reply w.started w'.started w.boots w'.boots
    (λ q. w.fed (replies_halted o.shows_trace names tables legal one w.lines w.started w.out w.ended w.replies q)) (λ q. w'.fed (replies_halted o.shows_trace names tables legal one w'.lines w'.started w'.out w'.ended w'.replies q)) in
    let there = subst (λ (m : ContainerState). Replies (AnswersLine o.shows_trace names tables legal (Unit {0})) w.lines m w'.out w'.ended) (sym boot.state)
    (subst (λ (ls : List (List ℕ)). Replies (AnswersLine o.shows_trace names tables legal (Unit {0})) ls w'.started w'.out w'.ended) (sym reach.lines_are) w'.replies) in
    let same = replies_one o.shows_trace names tables legal one w.lines w.started w.out w'.out w.ended w'.ended w.replies there w.fed w'.fed in
    let shows = o.shows_trace in
    let bytes : reply_in names shows w.reply w.started ++ w.out ≡ reply_in names shows w'.reply w'.started ++ w'.out =
    ap₂ (λ (r : Reply) (m : ContainerState). reply_in names shows r m ++ w.out) boot.reply boot.state ∙ ap (λ (x : List ℕ). reply_in names shows w'.reply w'.started ++ x) same.text in
    record {
      held_after = appended_one held s.held s.held_after s'.held_after _ _ h bytes w.written (subst (λ (x : Option (List ℕ)). Appends x s'.held_after (reply_in names o.shows_trace w'.reply w'.started ++ w'.out)) (h' ∙ sym h) w'.written);
      ending = w.is_ending ∙ ap (λ (r : Result (Unit {0}) ServeFault). after_serving r w.ended.halted) reach.result ∙ ap (λ (t : ContainerState). after_serving w'.result t.halted) same.state ∙ sym w'.is_ending;
    }

module _ (o : Settings) (input held : List ℕ) (s s' : Streams) (e e' : Ending) (settled : IsSettled e) (settled' : IsSettled e')
    (u : s.unread ≡ Some input) (u' : s'.unread ≡ Some input) (h : s.held ≡ Some held) (h' : s'.held ≡ Some held) where
  lives_one : (t t' : RunTables) (legal : Legal) → IsOne legal → t.deployment.names ≡ t'.deployment.names → machine_tables t ≡ machine_tables t'
      → Lives o t legal s e → Lives o t' legal s' e' → SameOutput s s' e e'
  lives_one t t' legal one names tables l l' =
      let w = whole_of o t legal input s e settled u l in
      let w' = whole_of o t' legal input s' e' settled' u' l' in
      let named = subst (λ (ns : List (List ℕ)). Whole o ns (machine_tables t') legal input s' e') (sym names) w' in
      let there = subst (λ (m : machine.Tables). Whole o t.deployment.names m legal input s' e') (sym tables) named in
      whole_one o t.deployment.names (machine_tables t) legal one input held s s' e e' h h' w there

  problems_one : (ss : List NamedScript) (d : Deployment) (these those : List Problem) → AreProblemsWith ss d these → AreProblemsWith ss d those → these ≡ those
  problems_one ss d these those a b =
      let same : b.shape_of ≡ a.shape_of = λ i name. (b.shapes name ∙ sym (a.shapes name)) i in
      one_verdict d a.shape_of these those a.are (subst (λ (f : ℕ → Option Shape). AreProblemsOf d f those) same b.are)

  refused_one : (ss : List NamedScript) (d : Deployment) (these those : List Problem) → AreProblemsWith ss d these → AreProblemsWith ss d those
      → Writes (problem_lines d.names these) s e → Writes (problem_lines d.names those) s' e' → SameOutput s s' e e'
  refused_one ss d these those a b w w' =
      let same = problems_one ss d those these b a in
      writes_one (problem_lines d.names these) held s s' e e' settled settled' h h' w (subst (λ ps. Writes (problem_lines d.names ps) s' e') same w')

  plays_one : (ss : List NamedScript) (d : Deployment) → PlaysScripts o d ss s e → PlaysScripts o d ss s' e' → SameOutput s s' e e'
  plays_one ss d (PlaysScripts.starves q) p' = absurd (subst IsSettled q.is_ending settled)
  plays_one ss d p (PlaysScripts.starves q) = absurd (subst IsSettled q.is_ending settled')
  plays_one ss d (PlaysScripts.refuses {problems = these} a some w) (PlaysScripts.refuses {problems = those} b some' w') = refused_one ss d these those a b w w'
  plays_one ss d (PlaysScripts.refuses {problems = these} a some w) (PlaysScripts.runs b t q l) = absurd (some (problems_one ss d these [] a b))
  plays_one ss d (PlaysScripts.runs a t q l) (PlaysScripts.refuses {problems = those} b some w') = absurd (some (problems_one ss d those [] b a))
  plays_one ss d (PlaysScripts.runs {t = x} a t q l) (PlaysScripts.runs {t = y} b t' q' l') =
      lives_one x y (legal_by o.order ss) (one_by o.order ss) (ap (λ (k : Deployment). k.names) (t.deployment_is ∙ sym t'.deployment_is)) (same_machine ss d x y t t') l l'

  readied_one : (r : Result Readied (List ℕ)) → DrivesReadied o r s e → DrivesReadied o r s' e' → SameOutput s s' e e'
  readied_one (Err lines) w w' = writes_one lines held s s' e e' settled settled' h h' w w'
  readied_one (Ok r) p p' = plays_one (registered r.scripts) r.deployment p p'

  drives_one : (bytes : List ℕ) → Drives o bytes s e → Drives o bytes s' e' → SameOutput s s' e e'
  drives_one bytes (Drives.starves q) d' = absurd (subst IsSettled q.is_ending settled)
  drives_one bytes d (Drives.starves q) = absurd (subst IsSettled q.is_ending settled')
  drives_one bytes (Drives.drives d) (Drives.drives d') = readied_one (readied_in bytes) d d'

pub one_output : OneOutput
one_output o bytes input held s s' e e' settled settled' u u' h h' d d' = drives_one o input held s s' e e' settled settled' u u' h h' bytes d d'
