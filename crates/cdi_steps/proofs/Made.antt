-- Steps of common forms: what is known of an end, and of a step that leaves the invocations alone.
use Rattle.std.proofs.Common.{ℕ, ◌≡◌, ◌<◌, ◌≤◌, ◌∙◌, arith}
use Rattle.cdi_machine.specs.Tables.{Tables}
use Rattle.cdi_machine.specs.World.{World}
use Rattle.cdi_machine.specs.Programs.{Given, Prog}
use Rattle.cdi_machine.specs.Runs.{Legal}
use Rattle.cdi_steps.specs.Meanings.{node}
use Rattle.cdi_steps.specs.Leads.{next_stop, Comes}
use Rattle.cdi_steps.specs.Ranks.{weight}
use Rattle.cdi_steps.specs.Known.{KnownNext}
use Rattle.cdi_steps.specs.Steps.{IsStep, Steps, IsQuiet, Settles, nothing_legal}
use Rattle.cdi_steps.specs.declared.task.Outcome.{Outcome}
use Rattle.cdi_steps.specs.declared.task.Next.{Next}
use Rattle.cdi_steps.specs.declared.task.Next.TheVariants as nexts
use Rattle.cdi_steps.proofs.Changes.{same_invoked}
use Rattle.cdi_steps.proofs.Ways.{wider_comes, nothing_within}

module _ {t : Tables} {p : Prog Given} {rank : ℕ} {w v : World} where
  -- it is over
  pub ends : {o : Outcome} → Comes t nothing_legal p w (node (nexts.Finished o)) v → 0 < rank → v.invocations ≡ w.invocations → Steps t p rank w (nexts.Finished o) v
  ends c h e = record { leads = c; lowers = h; known = λ k. tt; invoked = same_invoked e; quiet = tt }

  -- it goes on
  pub leaves_alone : {next : Next} → Comes t nothing_legal p w (node next) v → weight next < rank → v.invocations ≡ w.invocations → KnownNext t v next → IsQuiet next → Steps t p rank w next v
  leaves_alone c h e k q = record { leads = c; lowers = h; known = λ i. k; invoked = same_invoked e; quiet = q }

module _ {t : Tables} {p q : Prog Given} {low high : ℕ} {w v : World} {next : Next} where
  -- what settles as something is a step to it
  pub settled : next_stop t q w ≡ next_stop t p w → Settles t p low w next v → low ≤ high → Steps t q high w next v
  settled e s h = record { leads = Comes.same (e ∙ s.settles); lowers = omega (arith, h, s.lowers); known = s.known; invoked = s.invoked; quiet = s.quiet }

module _ {t : Tables} {p q : Prog Given} {rank : ℕ} {w v : World} {next : Next} where
  -- and what stops where that does settles alike
  pub settles_as : next_stop t q w ≡ next_stop t p w → Settles t p rank w next v → Settles t q rank w next v
  settles_as e s = record { settles = e ∙ s.settles; lowers = s.lowers; known = s.known; invoked = s.invoked; quiet = s.quiet }

module _ {t : Tables} {p : Prog Given} {rank : ℕ} {w v : World} {next : Next} where
  -- and so at a greater rank
  pub settles_less : {high : ℕ} → rank ≤ high → Settles t p rank w next v → Settles t p high w next v
  settles_less h s = record { settles = s.settles; lowers = omega (arith, h, s.lowers); known = s.known; invoked = s.invoked; quiet = s.quiet }

module _ {t : Tables} {p : Prog Given} {rank : ℕ} {w v : World} where
  -- it settles as its end
  pub settles_end : {o : Outcome} → next_stop t p w ≡ (node (nexts.Finished o), v) → 0 < rank → v.invocations ≡ w.invocations → Settles t p rank w (nexts.Finished o) v
  settles_end e h q = record { settles = e; lowers = h; known = λ k. tt; invoked = same_invoked q; quiet = tt }

-- a step that asks no driver is one whatever is legal
pub driven : {t : Tables} {p : Prog Given} {rank : ℕ} {w v : World} {next : Next} (legal : Legal) → Steps t p rank w next v → IsStep t legal p rank w next v
driven legal s = record { leads = wider_comes (nothing_within legal) s.leads; lowers = s.lowers; known = s.known; invoked = s.invoked }
