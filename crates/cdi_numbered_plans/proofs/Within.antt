-- A bean that something resolves to has a number.
use Rattle.std.proofs.Common.{ℕ, ◌≡◌, ◌∙◌, ◌+◌, ◌<◌, ◌≤◌, ◌^◌, ◌&&◌, Bool, true, false, cond, nat_eq, nat_lt, List, Some, None, length, refl, sym, ap, arith}
use Rattle.std.specs.Prelude.{Contains}
use Rattle.std.specs.List.{enumerate_from, position_or_len}
use Rattle.std.proofs.lemmas.Bool.{ltb-true}
use Rattle.std.proofs.lemmas.Option.{same_Some}
use Rattle.std.proofs.lemmas.List.FromFn.{length-enumerate_from, get_or-enumerate_from}
use Rattle.cdi_beans.specs.declared.bean.Bean.{Bean}
use Rattle.cdi_beans.specs.Kinds.{is_managed}
use Rattle.cdi_event_tables.specs.Observers.{managed_bean}
use Rattle.cdi_numbered_plans.specs.Numbered.{HasNumber}
use Rattle.cdi_quals.specs.declared.qualifier.Qualifier.{Qualifier}
use Rattle.cdi_resolve.proofs.Eligible.{kept, one_is_eligible}
use Rattle.cdi_resolve.specs.Filters.{Candidates, enabled_of, is_enabled}
use Rattle.cdi_resolve.specs.Resolution.{resolution}
use Rattle.cdi_resolve.specs.declared.resolution.Resolution.{Resolution}
use Rattle.cdi_resolve.specs.declared.resolution.Resolution.TheVariants as resolutions

-- what stands among numbered items has a number below their count
numbered_within : {X : Type 0} (xs : List X) (b : ℕ) (x : X) → Contains (enumerate_from 0 xs) (b, x) → b < length xs
numbered_within {X} xs b x (k, lt, is) =
    let within : k < length xs = omega (arith, lt, length-enumerate_from 0 xs) in
    let number : 0 + k ≡ b = ap (λ (p : ℕ × X). p.0) (sym (get_or-enumerate_from 0 xs k (b, x) within) ∙ is) in
    omega (arith, within, number)

one_within : (type : ℕ) (qualifiers : List Qualifier) (c : Candidates) (b : ℕ) → resolution type qualifiers (enabled_of c) ≡ resolutions.One b → b < length c.beans
one_within type qualifiers c b e =
    let eligible = one_is_eligible type qualifiers (enabled_of c) b e in
    let found = kept (λ (p : ℕ × Bean). is_enabled c.flags p.0) (enumerate_from 0 c.beans) (b, eligible.bean) eligible.stands in
    numbered_within c.beans b eligible.bean found.stands

pub has_number : (type : ℕ) (qualifiers : List Qualifier) (c : Candidates) → length c.beans ≤ 2 ^ 32 → (r : Resolution) → r ≡ resolution type qualifiers (enabled_of c) → HasNumber r
has_number type qualifiers c few (resolutions.One b) e =
    let within = one_within type qualifiers c b (sym e) in omega (arith, within, few)
has_number type qualifiers c few resolutions.Nothing e = tt
has_number type qualifiers c few resolutions.Many e = tt

-- so has a managed bean
placed : (t : Bool) (n m : ℕ) → nat_lt n m ≡ t → (b : ℕ) → cond t (Some n) None ≡ Some b → b < m
placed true n m is b e = let same : n ≡ b = same_Some n b e in let less : n < m = ltb-true n m is in omega (arith, less, same)
placed false n m is b e = absurd cc

pub managed_within : (beans : List Bean) (class b : ℕ) → managed_bean beans class ≡ Some b → b < length beans
managed_within beans class b e =
    let test : Bean → Bool = λ k. is_managed k.kind && nat_eq k.class class in
    placed (nat_lt (position_or_len test beans) (length beans)) (position_or_len test beans) (length beans) refl b e
