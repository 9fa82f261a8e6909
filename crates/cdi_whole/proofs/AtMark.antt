-- The first body of a destruction starts right behind its mark alone, whatever proceeds: for all that commands lead to.
use Rattle.std.proofs.Common.{ℕ, ◌≡◌, List, [], ◌∷◌, inl, inr, false, None, refl}
use Rattle.cdi_base.specs.declared.entry.Entry.TheVariants as entries
use Rattle.cdi_machine.specs.Tables.{Tables, Managed}
use Rattle.cdi_machine.specs.World.{World, at_begin}
use Rattle.cdi_machine.specs.Commands.{Command, task}
use Rattle.cdi_machine.specs.Programs.{Completion, Given}
use Rattle.cdi_machine.specs.Runs.{Legal, Outcome, Ends, Cut, Runs}
use Rattle.cdi_machine.specs.Container.{State, refusal, is_cut}
use Rattle.cdi_machine.proofs.Refused.{refused}
use Rattle.cdi_ledger.proofs.Homes.{targets, codes}
use Rattle.cdi_ledger.specs.Ledger.{Item, Wrote, items_of}
use Rattle.cdi_ledger.specs.Stories.{Story}
use Rattle.cdi_ledger.specs.Ends.{Each, IsOfClass}
use Rattle.cdi_ledger.specs.Callbacks.{PlacesOfBodiesAreApart, FirstsStandOnce, IsProceed, IsMark, IsFirstOf, IsBegun, IsBegunOnly}
use Rattle.cdi_ledger.proofs.Ledgered as ledgered
use Rattle.cdi_ledger.proofs.Settled.{tidy_story, sane_story, begin_tidy, not_halted}
use Rattle.cdi_ledger.proofs.Births.{born_command, known_begin, known_story}
use Rattle.cdi_ledger.proofs.Callbacks.{nobody}
use Rattle.cdi_ledger.proofs.Firsts.{begins_only_at_mark, begins_only_if_short}
use Rattle.cdi_whole.specs.Fits.{Fits}
use Rattle.cdi_whole.proofs.Terms.{Pre, Post}
use Rattle.cdi_whole.proofs.Quiet.{moves}
use Rattle.cdi_whole.proofs.Safe.{misses_none}
use Rattle.cdi_whole.proofs.Tasks.{task_safe}
use Rattle.cdi_whole.proofs.Commands.{Completes, command_safe}
use Rattle.cdi_whole.specs.Beginnings.{StartsAtMarkOnly}
use Rattle.cdi_whole.proofs.Without.{Told, tells}
use Rattle.cdi_whole.proofs.Idle as idle
use Rattle.cdi_whole.proofs.Proceeding.{IsNotAgain, E, G, Asks, Leaves, walks, none_again}
use Rattle.cdi_whole.proofs.Resting.{admitted, rests}

module _ (tables : Tables) (legal : Legal) (fits : Fits tables legal) (apart : PlacesOfBodiesAreApart tables) where
  record Alone (s : State) (h : List Item) : Type 0 where
    so_far : E tables legal fits apart h
    free : s.halted ≡ false → IsProceed h → ⊥

  run_alone : (Starved : Type 0) {s : State} {h : List Item} → Story tables legal s h → Alone s h → (c : Command) → refusal tables s c ≡ None → (o : Outcome) (v : World) (r : Runs tables legal Starved (task c) (at_begin s.world) o v)
      → E tables legal fits apart (items_of h r) × (is_cut o ≡ false → IsProceed (items_of h r) → ⊥)
  run_alone Starved {s = s} {h = h} l b c q o v r =
      let m = moves tables legal in
      let tidy = begin_tidy s.world (tidy_story tables legal l (not_halted s.halted _ _ q)) in
      let safe = command_safe tables legal fits m c w (rests tables legal fits m l (not_halted s.halted _ _ q)) (admitted tables legal s c q) in
      by o _ (λ c v k y. y.1.1.1) (tells tables legal (E tables legal fits apart) (G tables legal fits apart) (Asks tables legal fits apart) (Leaves tables legal fits apart) Starved (none_again tables legal fits apart) h _ r
      (misses_none tables legal (Pre tables legal) (Post tables legal) Starved (task_safe tables legal fits m) (Completes tables legal fits m) r safe).0
      (walks tables legal fits apart (λ b. ⊥) (targets w.invocations) (codes w.invocations) h (λ b x. absurd x) (λ k. IsProceed k → ⊥) (λ k n. n) 0 0 (task c) w h _ (Completes tables legal fits m) (idle.l_task legal (λ b. ⊥) 0 c)
      (born_command tables c w h tidy (λ n. ledgered.at_rest n s.world h (sane_story tables legal n l)) (known_begin tables s.world h (known_story tables legal l)))
      safe (nobody tables apart h w.invocations tidy.targets) b.so_far (b.free (not_halted s.halted _ _ q)) (refl, refl) (λ x i. i)))
    where
      w : World
      w = at_begin s.world

      by : (o : Outcome) (Q : Completion Given → World → List Item → Type 0) → ((c : Completion Given) (v : World) (k : List Item) → Q c v k → IsProceed k → ⊥)
          → Told tables legal (E tables legal fits apart) (G tables legal fits apart) (Asks tables legal fits apart) (Leaves tables legal fits apart) Q o v (items_of h r) → E tables legal fits apart (items_of h r) × (is_cut o ≡ false → IsProceed (items_of h r) → ⊥)
      by (Ends d) Q f x = (x.0, λ e. f d v (items_of h r) x.1.1)
      by (Cut cause) Q f x = (x, λ e. absurd (cc))

  alone : {s : State} {h : List Item} → Story tables legal s h → Alone s h
  alone (Story.begins ticks depth) = record { so_far = tt; free = λ e i. i }
  alone (Story.refuses {s = s} {h = h} c r l q) = let b = alone l in refused (λ t. Alone t h) s (record { so_far = b.so_far; free = b.free }) (record { so_far = b.so_far; free = b.free })
  alone (Story.goes {s = s} {h = h} {o = o} {v = v} c l q r) = let x = run_alone ⊥ l (alone l) c q o v r in record { so_far = x.0; free = x.1 }

  -- right behind a `did proceed` it doesn't start, and so right behind the mark alone
  at_mark : (x : Item) (h : List Item) → IsBegunOnly tables x h → IsNotAgain tables legal fits apart x h → StartsAtMarkOnly tables x h
  at_mark (Wrote (entries.Run m place)) h b e = λ n c is f. by n c is c.pre_destroy.chain refl f (b n c is f)
    where
      by : (n : ℕ) (c : Managed) → IsOfClass tables h n c → (chain : List ℕ) → c.pre_destroy.chain ≡ chain → IsFirstOf tables h n chain c.pre_destroy.callbacks m place → IsBegun n chain h → IsMark n h
      by n c is (i ∷ chain) q f k = k
      by n c is [] q f (inl k) = k
      by n c is [] q f (inr p) = absurd (e p n c is q f)
  at_mark _ h b e = tt

  each_at_mark : (h : List Item) → Each (IsBegunOnly tables) h → E tables legal fits apart h → Each (StartsAtMarkOnly tables) h
  each_at_mark [] b e = tt
  each_at_mark (x ∷ h) b e = (at_mark x h b.0 e.0, each_at_mark h b.1 e.1)

  pub only_at_mark : FirstsStandOnce tables → (s : State) (h : List Item) → Story tables legal s h → Each (StartsAtMarkOnly tables) h
  only_at_mark once s h l = let b = alone l in each_at_mark h (begins_only_at_mark tables legal apart once s h l) b.so_far

  pub only_if_short : FirstsStandOnce tables → (s : State) (h : List Item) (c : Command) (o : Outcome) (v : World) → Story tables legal s h → refusal tables s c ≡ None → (r : Runs tables legal (Unit {0}) (task c) (at_begin s.world) o v) → Each (StartsAtMarkOnly tables) (items_of h r)
  only_if_short once s h c o v l q r = each_at_mark (items_of h r) (begins_only_if_short tables legal apart once s h c o v l q r) (run_alone (Unit {0}) l (alone l) c q o v r).0
