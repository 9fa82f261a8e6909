-- Adding the built-in names one by one gives their table.
use Rattle.std.proofs.Common.{◌≡◌, ℕ, ◌+◌, ◌≤◌, ◌<◌, List, [], ◌∷◌, ◌++◌, length, drop, Some, slice_get, refl, ap, ◌∙◌, sym, arith, Bool, true, false, cond, length-append, get_or, add-one, drop-cons}
use Rattle.cdi_base.specs.declared.built_in.BuiltIn.{BuiltIn}
use Rattle.cdi_base.specs.declared.built_in.BuiltIn.TheVariants as names
use Rattle.cdi_base.specs.BuiltIn.{text_of, number_of, all_built_in, built_in_names}
use Rattle.cdi_base.specs.Name.{with_name, is_known}

pub stands : (b : BuiltIn) → slice_get built_in_names (number_of b) ≡ Some (text_of b)
unfolding built_in_names
stands names.Object = refl
stands names.Startup = refl
stands names.Shutdown = refl
stands names.Any = refl
stands names.Default = refl
stands names.Named = refl
stands names.Initialized = refl
stands names.BeforeDestroyed = refl
stands names.Destroyed = refl
stands names.Value = refl
stands names.ContextNotActiveException = refl
stands names.CreationException = refl
stands names.IllegalProductException = refl
stands names.IllegalStateException = refl
stands names.IllegalArgumentException = refl
stands names.NullPointerException = refl
stands names.ObserverException = refl
stands names.UnsatisfiedResolutionException = refl
stands names.AmbiguousResolutionException = refl

-- a table with the texts of some built-in names added to it
abbrev pub all_added : List (List ℕ) → List BuiltIn → List (List ℕ)
all_added names [] = names
all_added names (b ∷ bs) = all_added (with_name names (text_of b)) bs

pub all_added-all : all_added [] all_built_in ≡ built_in_names
unfolding built_in_names
all_added-all = refl

pub length-with_name : (names : List (List ℕ)) (text : List ℕ) → length (with_name names text) ≤ length names + 1
length-with_name names text = by (is_known names text)
  where
    by : (b : Bool) → length (cond b names (names ++ text ∷ [])) ≤ length names + 1
    by true = omega arith
    by false = omega (arith, length-append names (text ∷ []))

pub goes_on_at : (bs : List BuiltIn) (i : ℕ) (d : BuiltIn) (names after total : List (List ℕ)) (text : List ℕ) → i < length bs → text ≡ text_of (get_or bs i d) → after ≡ with_name names text
    → all_added names (drop i bs) ≡ total → all_added after (drop (i + 1) bs) ≡ total
goes_on_at bs i d names after total text within is added so_far =
    let here : drop i bs ≡ get_or bs i d ∷ drop (i + 1) bs = rw (add-one, drop-cons bs i d) refl in
    rw (added, is) (sym (ap (all_added names) here) ∙ so_far)
