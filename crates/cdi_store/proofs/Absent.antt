-- A number that no live instance has, or a place in a map where nothing stands, changes nothing.
use Rattle.std.proofs.Common.{◌≡◌, ◌∙◌, ◌↔◌, ◌==◌, ℕ, Bool, true, false, cond, not, [], ◌∷◌, Option, Some, None, option_map, is_some, IsSome}
use Rattle.std.proofs.Common.{refl, sym, ap, true≢false}
use Rattle.cdi_base.specs.Maps.{Map, at, adjusted, without}
use Rattle.cdi_store.specs.declared.instance.Phase.TheVariants.{Ready, Leaving}
use Rattle.cdi_store.specs.declared.key.Key.{Key}
use Rattle.cdi_store.specs.Live.{Instances, Kept, key_at}
use Rattle.cdi_store.specs.Live.{with_ready, with_leaving, without_instance}

-- ---- maps

pub nothing : {A B : Type 0} (f : A → B) (o : Option A) → option_map f o ≡ None → o ≡ None
nothing f None h = refl
nothing f (Some x) h = absurd cc

-- nothing changes in an empty slot
pub untouched : {X : Type 0} (m : Map X) (slot : ℕ) (f : X → X) → at m slot ≡ None → adjusted slot f m ≡ m
untouched [] slot f h = refl
untouched (p ∷ more) slot f h = by (slot == p.0) h (untouched more slot f)
  where
    by : (b : Bool) → cond b (Some p.1) (at more slot) ≡ None → (at more slot ≡ None → adjusted slot f more ≡ more) → cond b ((p.0, f p.1) ∷ more) (p ∷ adjusted slot f more) ≡ p ∷ more
    by true i rest = absurd cc
    by false i rest = ap (λ r. p ∷ r) (rest i)

pub without-absent : {X : Type 0} (m : Map X) (slot : ℕ) → at m slot ≡ None → without slot m ≡ m
without-absent [] slot h = refl
without-absent (p ∷ more) slot h = by (slot == p.0) h (without-absent more slot)
  where
    by : (b : Bool) → cond b (Some p.1) (at more slot) ≡ None → (at more slot ≡ None → without slot more ≡ more) → cond (not b) (p ∷ without slot more) (without slot more) ≡ p ∷ more
    by true i rest = absurd cc
    by false i rest = ap (λ r. p ∷ r) (rest i)

-- ---- instances

pub absent : {X Y : Type 0} (key : Option X) (o : Option Y) → (IsSome key ↔ IsSome o) → key ≡ None
    → o ≡ None
absent key None both none = refl
absent key (Some x) both none =
    let there : IsSome key = both.1 refl in
    absurd (true≢false (sym there ∙ ap is_some none))

pub ready_absent : (live : Instances) (n : ℕ) → at live n ≡ None → with_ready n live ≡ live
ready_absent live n e = rw e (untouched live n (λ o. record o { phase = Ready }) e)

pub leaving_absent : (live : Instances) (n : ℕ) → at live n ≡ None → with_leaving n live ≡ live
leaving_absent live n e = rw e (untouched live n (λ o. record o { phase = Leaving }) e)

-- nor has it a slot
pub free_absent : (key : Option Key) (kept : Kept) (n : ℕ) → key ≡ key_at kept n → key ≡ None
    → at kept.instances n ≡ None → kept ≡ without_instance n kept
free_absent key kept n is none e =
    let slot : at kept.slots n ≡ None = nothing _ (at kept.slots n) (sym is ∙ none) in
    rw (without-absent kept.instances n e, without-absent kept.slots n slot) refl
