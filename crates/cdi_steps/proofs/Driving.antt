-- What a driver has been through, and how it fails, from one asking to the next.
use Rattle.std.proofs.Common.{ℕ, ◌≡◌, sym, subst}
use Rattle.std.specs.Prelude.{Ok, Err, IfErr}
use Rattle.std.specs.Prelude.{Result as Either}
use Rattle.std.specs.Result.{IsErr, IsErrAnd}
use Rattle.cdi_base.specs.declared.entry.Entry.{Entry}
use Rattle.cdi_machine.specs.declared.driver.Failure.{Failure}
use Rattle.cdi_machine.specs.declared.driver.Failure.TheVariants.{Memory, Exhausted}
use Rattle.cdi_machine.specs.Tables.{Tables}
use Rattle.cdi_machine.specs.Runs.{Legal}
use Rattle.cdi_machine.specs.Laws.{IsWithin}
use Rattle.cdi_machine.specs.Failures.{IsFailureOf}
use Rattle.cdi_machine.specs.Hearing.{Hearing, Ending, IsAsked, IsTold, answers_of, with_asking, with_told}
use Rattle.cdi_steps.specs.Driving.{IsAskedFor, HasFailed, Narrows, Drives, heard_for}
use Rattle.cdi_steps.specs.declared.task.Continuation.{Continuation}
use Rattle.cdi_steps.specs.declared.task.Next.{Next}
use Rattle.cdi_steps.specs.declared.task.Next.TheVariants as nexts

-- the driver fails for this reason
pub fails_for : {MayEnd : Type 0} {before then : Hearing → Type 0} {ended : Ending → Hearing → Type 0} (reason : Ending) (f : Failure)
    → IsFailureOf MayEnd before then (ended reason) f → HasFailed MayEnd before then ended f
fails_for reason Memory h = HasFailed.starves h
fails_for reason Exhausted h = HasFailed.ends reason h

-- what a `?` makes of a failure
pub passed_on : {A : Type 0} (P : Failure → Type 0) {f : Failure} (q : Either A Failure) → P f → IsErr q × IsErrAnd q (λ e. e ≡ f) → IfErr q P
passed_on P (Ok a) l h = tt
passed_on P (Err f) l h = subst P (sym h.1) l

-- want of memory, of a driver that was asked for nothing
pub starves_alone : {MayEnd : Type 0} {before : Hearing → Type 0} {ended : Ending → Hearing → Type 0} → HasFailed MayEnd before before ended Memory
starves_alone = HasFailed.starves (record { heard = λ h x. (h, x) })

-- and of one that was asked once
pub starves_asked : {MayEnd : Type 0} {before then : Hearing → Type 0} {ended : Ending → Hearing → Type 0} → IsAsked before then → HasFailed MayEnd before then ended Memory
starves_asked a = HasFailed.starves (record { heard = λ h x. (with_asking h, a.heard h x) })

-- and of one that was told an entry
pub starves_told : {MayEnd : Type 0} {before then : Hearing → Type 0} {ended : Ending → Hearing → Type 0} {e : Entry} → IsTold e before then → HasFailed MayEnd before then ended Memory
starves_told {e = e} a = HasFailed.starves (record { heard = λ h x. (with_told e h, a.heard h x) })

-- it was asked for the act or pick that is due
pub asked_for_due : {before then : Hearing → Type 0} (e : Entry) (p : Continuation) → answers_of e ≡ 1 → IsAsked before then → IsAskedFor (nexts.Writes e p) before then
asked_for_due {then = then} e p one a = record { heard = λ h x. rw one (a.heard h x) }

-- it was asked for nothing, and nothing is due
pub asked_for_none : {before : Hearing → Type 0} {next : Next} → heard_for next ≡ (λ h. h) → IsAskedFor next before before
asked_for_none {before} e = record { heard = λ h x. subst (λ f. before (f h)) (sym e) x }

pub narrows_self : {legal : Legal} {MayEnd : Type 0} {knows : ℕ → Type 0} → Narrows legal legal MayEnd MayEnd knows knows
narrows_self = record { legal = record { act = λ b n f v a h. h; pick = λ n m i h. h }; may_end = λ h. h; knows = λ b h. h }

pub narrows_trans : {a b c : Legal} {A B C : Type 0} {k l m : ℕ → Type 0} → Narrows a b A B k l → Narrows b c B C l m → Narrows a c A C k m
narrows_trans f g =
    record {
      legal =
          record {
            act = λ b e x v a h. f.legal.act b e x v a (g.legal.act b e x v a h);
            pick = λ c e i h. f.legal.pick c e i (g.legal.pick c e i h);
          };
      may_end = λ h. f.may_end (g.may_end h);
      knows = λ b h. g.knows b (f.knows b h);
    }

pub narrows_by : {a b : Legal} {A B : Type 0} {k l : ℕ → Type 0} → IsWithin b a → (B → A) → ((body : ℕ) → k body → l body) → Narrows a b A B k l
narrows_by i f h = record { legal = i; may_end = f; knows = h }

-- it still has the bodies that it had
pub still_drives : {t : Tables} {a b : Legal} {A B : Type 0} {k l : ℕ → Type 0} → Narrows a b A B k l → Drives t k → Drives t l
still_drives n d body m = n.knows body (d body m)

pub ruleset driving = (narrows_self, narrows_by)
