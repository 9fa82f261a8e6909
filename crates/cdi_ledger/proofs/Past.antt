-- The fate of one whose destruction has begun stays so.
use Rattle.std.proofs.Common.{ℕ, ◌≡◌, List, ◌∷◌, Bool, true, false, refl, sym, subst}
use Rattle.std.specs.Prelude.{nat_eq}
use Rattle.cdi_base.specs.declared.entry.Entry.TheVariants as entries
use Rattle.cdi_ledger.specs.Ledger.{Item, Wrote, Between, Born, Fate, Unborn, Made, Readied, Ended, Left, Lost, Wrong, fate, step_of, if_is, by_new, by_ready, by_drop, by_run, by_end, by_between, by_gone}
use Rattle.cdi_ledger.proofs.Phases.{eq_same}

abbrev pub Past : Fate → Type 0
Past Left = Unit {0}
Past Lost = Unit {0}
Past Wrong = Unit {0}
Past _ = ⊥

past_if : (b : Bool) (f g : Fate) → Past f → Past g → Past (if_is b g f)
past_if true f g p q = q
past_if false f g p q = p

past_new : (f : Fate) → Past f → Past (by_new f)
past_new Left p = tt
past_new Lost p = tt
past_new Wrong p = tt
past_new Unborn p = absurd p
past_new Made p = absurd p
past_new Readied p = absurd p
past_new Ended p = absurd p

past_ready : (f : Fate) → Past f → Past (by_ready f)
past_ready Left p = tt
past_ready Lost p = tt
past_ready Wrong p = tt
past_ready Unborn p = absurd p
past_ready Made p = absurd p
past_ready Readied p = absurd p
past_ready Ended p = absurd p

past_drop : (f : Fate) → Past f → Past (by_drop f)
past_drop Left p = tt
past_drop Lost p = tt
past_drop Wrong p = tt
past_drop Unborn p = absurd p
past_drop Made p = absurd p
past_drop Readied p = absurd p
past_drop Ended p = absurd p

past_run : (f : Fate) → Past f → Past (by_run f)
past_run Left p = tt
past_run Lost p = tt
past_run Wrong p = tt
past_run Unborn p = absurd p
past_run Made p = absurd p
past_run Readied p = absurd p
past_run Ended p = absurd p

pub past_end : (f : Fate) → Past f → by_end f ≡ Wrong
past_end Left p = refl
past_end Lost p = refl
past_end Wrong p = refl
past_end Unborn p = absurd p
past_end Made p = absurd p
past_end Readied p = absurd p
past_end Ended p = absurd p

past_between : (f : Fate) → Past f → Past (by_between f)
past_between Left p = tt
past_between Lost p = tt
past_between Wrong p = tt
past_between Unborn p = absurd p
past_between Made p = absurd p
past_between Readied p = absurd p
past_between Ended p = absurd p

past_gone : (f : Fate) → Past f → Past (by_gone f)
past_gone Left p = tt
past_gone Lost p = tt
past_gone Wrong p = tt
past_gone Unborn p = absurd p
past_gone Made p = absurd p
past_gone Readied p = absurd p
past_gone Ended p = absurd p

pub past_step : (n : ℕ) (x : Item) (f : Fate) → Past f → Past (step_of n x f)
past_step n (Wrote (entries.New m place)) f p = past_if (nat_eq m n) f _ p (past_new f p)
past_step n (Wrote (entries.Ready m)) f p = past_if (nat_eq m n) f _ p (past_ready f p)
past_step n (Wrote (entries.Drop m)) f p = past_if (nat_eq m n) f _ p (past_drop f p)
past_step n (Wrote (entries.Run m place)) f p = past_if (nat_eq m n) f _ p (past_run f p)
past_step n (Wrote (entries.Did a)) f p = p
past_step n (Wrote (entries.Pick c i)) f p = p
past_step n (Wrote (entries.Event class qualifiers)) f p = p
past_step n (Wrote (entries.End m)) f p = past_if (nat_eq m n) f _ p (subst Past (sym (past_end f p)) tt)
past_step n (Wrote (entries.Gone m)) f p = past_if (nat_eq m n) f _ p (past_gone f p)
past_step n (Between m) f p = past_if (nat_eq m n) f _ p (past_between f p)
past_step n (Born m component owner) f p = p

-- at its mark
pub past_begun : (n : ℕ) (h : List Item) → Past (fate n (Between n ∷ Wrote (entries.End n) ∷ h))
past_begun n h = by (nat_eq n n) (fate n h) (eq_same n)
  where
    over : (f : Fate) → Past (by_between (by_end f))
    over Unborn = tt
    over Made = tt
    over Readied = tt
    over Ended = tt
    over Left = tt
    over Lost = tt
    over Wrong = tt

    by : (b : Bool) (f : Fate) → b ≡ true → Past (if_is b (by_between (if_is b (by_end f) f)) (if_is b (by_end f) f))
    by true f e = over f
    by false f e = absurd (cc)
