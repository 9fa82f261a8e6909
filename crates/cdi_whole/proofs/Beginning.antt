-- Each destruction begins its callbacks at its mark: the law, for all that commands lead to.
use Rattle.std.proofs.Common.{ℕ, ◌≡◌, List, [], ◌∷◌, ◌++◌, None, false}
use Rattle.cdi_machine.specs.Tables.{Tables}
use Rattle.cdi_machine.specs.World.{World, at_begin}
use Rattle.cdi_machine.specs.Commands.{Command, task}
use Rattle.cdi_machine.specs.Programs.{Completion, Given}
use Rattle.cdi_machine.specs.Runs.{Legal, Outcome, Ends, Cut, Runs}
use Rattle.cdi_machine.specs.Container.{State, before_commands, refusal, is_cut, GivesReply, Leads}
use Rattle.cdi_machine.proofs.Refused.{refused}
use Rattle.cdi_machine.proofs.Walk
use Rattle.cdi_machine.proofs.Walk.{plain_of}
use Rattle.cdi_ledger.specs.Ledger.{Item, items_of}
use Rattle.cdi_ledger.specs.Stories.{Story}
use Rattle.cdi_ledger.proofs.Ledgered as ledgered
use Rattle.cdi_ledger.proofs.Settled.{tidy_story, sane_story, begin_tidy, not_halted}
use Rattle.cdi_ledger.proofs.Births.{born_command, known_begin, known_story, one_in_a_context, one_if_short}
use Rattle.cdi_whole.specs.Fits.{Fits}
use Rattle.cdi_whole.specs.Missing.{NothingMissing}
use Rattle.cdi_whole.proofs.Presence.{misses_nothing}
use Rattle.cdi_whole.specs.Beginnings.{BeginsAtMark, BeginsAtMarkIfShort, DestructionsBeginOnce, DestructionsBeginOnceIfShort}
use Rattle.cdi_ledger.proofs.Marks.{marks_once, marks_if_short}
use Rattle.cdi_ledger.proofs.Callbacks.{farewells_in_destruction, farewells_in_short}
use Rattle.cdi_whole.proofs.AtMark.{only_at_mark, only_if_short}
use Rattle.cdi_whole.proofs.BornOnce.{born_once, story_in_order, short_in_order}
use Rattle.cdi_whole.proofs.Counted.{starts_exactly}
use Rattle.cdi_whole.proofs.Without.{Told, tells}
use Rattle.cdi_whole.proofs.Calm.{bare, E, Calm, G, Asks, Leaves, unmarked_of, calm, all_tell}

-- ---- a story's commands

record Led (tables : Tables) (legal : Legal) (s : State) : Type 0 where
  ticks : ℕ
  depth : ℕ
  commands : List Command
  leads : Leads tables legal (before_commands ticks depth) commands s

one_more : {tables : Tables} {legal : Legal} {s t u : State} {cs : List Command} (c : Command) (r : _) → Leads tables legal s cs t → GivesReply tables legal t c r u → Leads tables legal s (cs ++ c ∷ []) u
one_more c r Leads.stays a = Leads.goes_on a Leads.stays
one_more c r (Leads.goes_on b more) a = Leads.goes_on b (one_more c r more a)

led : {tables : Tables} {legal : Legal} {s : State} {h : List Item} → Story tables legal s h → Led tables legal s
led (Story.begins ticks depth) = record { ticks = ticks; depth = depth; commands = []; leads = Leads.stays }
led (Story.refuses c r l q) = let x = led l in record { ticks = x.ticks; depth = x.depth; commands = x.commands ++ c ∷ []; leads = one_more c _ x.leads (GivesReply.refuses r q) }
led (Story.goes c l q r) = let x = led l in record { ticks = x.ticks; depth = x.depth; commands = x.commands ++ c ∷ []; leads = one_more c _ x.leads (GivesReply.carries_out q r) }

module _ (tables : Tables) (legal : Legal) (fits : Fits tables legal) where
  record Begun (s : State) (h : List Item) : Type 0 where
    so_far : E tables legal h
    calm : s.halted ≡ false → Calm tables legal h

  nothing_missing : (Starved : Type 0) {s : State} {h : List Item} → Story tables legal s h → (c : Command) → refusal tables s c ≡ None → (o : Outcome) (v : World) (r : Runs tables legal Starved (task c) (at_begin s.world) o v) → NothingMissing r
  nothing_missing Starved {s = s} l c q o v r = let x = led l in misses_nothing tables legal Starved fits x.ticks x.depth x.commands s x.leads c q o v r

  abbrev Left : Completion Given → World → List Item → Type 0
  Left c v k = Calm tables legal k

  run_tells : (Starved : Type 0) {s : State} {h : List Item} → Story tables legal s h → Begun s h → (c : Command) → refusal tables s c ≡ None → (o : Outcome) (v : World) (r : Runs tables legal Starved (task c) (at_begin s.world) o v)
      → E tables legal (items_of h r) × (is_cut o ≡ false → Calm tables legal (items_of h r))
  run_tells Starved {s = s} {h = h} l b c q o v r = by o _ (tells tables legal (E tables legal) (G tables legal) (Asks tables legal) (Leaves tables legal) Starved (all_tell tables legal) h _ r (nothing_missing Starved l c q o v r)
      (calm tables legal (task c) w h _ (unmarked_of (task c) (plain_of bare bare (task c) (Walk.l_task bare c)))
      (born_command tables c w h (begin_tidy s.world (tidy_story tables legal l (not_halted s.halted _ _ q))) (λ n. ledgered.at_rest n s.world h (sane_story tables legal n l)) (known_begin tables s.world h (known_story tables legal l)))
      (b.calm (not_halted s.halted _ _ q)) b.so_far))
    where
      w : World
      w = at_begin s.world

      by : (o : Outcome) (Q : Completion Given → World → List Item → Type 0) → Told tables legal (E tables legal) (G tables legal) (Asks tables legal) (Leaves tables legal) (λ c v k. Q c v k × Calm tables legal k) o v (items_of h r) → E tables legal (items_of h r) × (is_cut o ≡ false → Calm tables legal (items_of h r))
      by (Ends d) Q x = (x.0, λ e. x.1.1.1)
      by (Cut cause) Q x = (x, λ e. absurd (cc))

  begun : {s : State} {h : List Item} → Story tables legal s h → Begun s h
  begun (Story.begins ticks depth) = record { so_far = tt; calm = λ e x. tt }
  begun (Story.refuses {s = s} {h = h} c r l q) = let b = begun l in refused (λ t. Begun t h) s (record { so_far = b.so_far; calm = b.calm }) (record { so_far = b.so_far; calm = b.calm })
  begun (Story.goes {s = s} {h = h} {o = o} {v = v} c l q r) = let x = run_tells ⊥ l (begun l) c q o v r in record { so_far = x.0; calm = x.1 }

pub begins_at_mark : (tables : Tables) (legal : Legal) → BeginsAtMark tables legal
begins_at_mark tables legal fits s h l = let b = begun tables legal fits l in b.so_far

pub begins_if_short : (tables : Tables) (legal : Legal) → BeginsAtMarkIfShort tables legal
begins_if_short tables legal fits s h c o v l q r = (run_tells tables legal fits (Unit {0}) l (begun tables legal fits l) c q o v r).0

pub begin_once : (tables : Tables) (legal : Legal) → DestructionsBeginOnce tables legal
begin_once tables legal fits apart once s h l =
    let order = story_in_order tables legal s h l in
    let begins = begins_at_mark tables legal fits s h l in
    let only = only_at_mark tables legal fits apart once s h l in
    record {
      marked = marks_once tables legal s h l;
      begins = begins;
      only = only;
      once = λ n k c. starts_exactly tables h n k c order (born_once tables h order.new_numbers (one_in_a_context tables legal s h l).2) begins only;
      within = farewells_in_destruction tables legal apart s h l;
    }

pub begin_once_if_short : (tables : Tables) (legal : Legal) → DestructionsBeginOnceIfShort tables legal
begin_once_if_short tables legal fits apart once s h c o v l q r =
    let order = short_in_order tables legal s h c o v l r in
    let begins = begins_if_short tables legal fits s h c o v l q r in
    let only = only_if_short tables legal fits apart once s h c o v l q r in
    record {
      marked = marks_if_short tables legal s h c o v l q r;
      begins = begins;
      only = only;
      once = λ n k d. starts_exactly tables (items_of h r) n k d order (born_once tables (items_of h r) order.new_numbers (one_if_short tables legal s h c o v l q r).2) begins only;
      within = farewells_in_short tables legal apart s h c o v l q r;
    }
