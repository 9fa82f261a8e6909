-- If just one bean is left, it is the enabled one with its index; if nothing resolves, none is left.
use Rattle.std.proofs.Common.{◌≡◌, ◌∙◌, ℕ, zero, ◌+◌, ◌<◌, Bool, true, false, cond, List, [], ◌∷◌, length, get_or, map, Option, Some, None, refl, sym, ap, arith}
use Rattle.std.proofs.lemmas.List.FromFn.{length-enumerate_from, get_or-enumerate_from}
use Rattle.std.proofs.lemmas.Option.{slice_get-get_or}
use Rattle.std.specs.List.{enumerate_from, list_any}
use Rattle.std.specs.Prelude.{ℤ, Contains, slice_get}
use Rattle.cdi_base.specs.Maps.{at}
use Rattle.cdi_beans.specs.declared.bean.Bean.{Bean}
use Rattle.cdi_candidates.proofs.Sole.{sole_left}
use Rattle.cdi_candidates.specs.Candidates.{among_eligible, by_priority, candidates, left, place_if, place_of}
use Rattle.cdi_quals.specs.declared.qualifier.Qualifier.{Qualifier}
use Rattle.cdi_resolve.proofs.Eligible.{kept}
use Rattle.cdi_resolve.proofs.Enabled.{enabled_at}
use Rattle.cdi_resolve.specs.Filters.{Candidates, enabled_of, fits, is_enabled}
use Rattle.cdi_resolve.specs.Resolution.{alternatives, all_have_priority, eligible, greatest_priority, highest, resolution, sole, with_greatest}
use Rattle.cdi_resolve.specs.declared.resolution.Resolution.TheVariants.{Nothing, One}

-- ---- what is left stands among the beans

module _ (p : ℕ × Bean) where
  greatest_within : (g : Option ℤ) (beans : List (ℕ × Bean)) → Contains (with_greatest g beans) p → Contains beans p
  greatest_within None beans there = absurd (omega (arith, there.1))
  greatest_within (Some g) beans there = (kept _ beans p there).stands

  priority_within : (beans : List (ℕ × Bean)) → Contains (by_priority beans) p → Contains beans p
  priority_within beans there = by (all_have_priority beans) there
    where
      by : (all : Bool) → Contains (cond all (highest beans) beans) p → Contains beans p
      by true there = greatest_within (greatest_priority beans) beans there
      by false there = there

  among_within : (beans : List (ℕ × Bean)) → Contains (among_eligible beans) p → Contains beans p
  among_within beans there = by (list_any (λ b. b.1.alternative) beans) there
    where
      by : (any : Bool) → Contains (cond any (by_priority (alternatives beans)) beans) p → Contains beans p
      by true there = (kept (λ b. b.1.alternative) beans p (priority_within (alternatives beans) there)).stands
      by false there = there

  left_within : (type : ℕ) (qualifiers : List Qualifier) (beans : List (ℕ × Bean)) → Contains (left type qualifiers beans) p → Contains beans p
  left_within type qualifiers beans there =
      (kept (λ b. fits type qualifiers b.1) beans p (among_within (eligible type qualifiers beans) there)).stands

-- ---- an enabled bean is found at its index

found_at : (c : Candidates) (p : ℕ × Bean) → Contains (enabled_of c) p → at (enabled_of c) p.0 ≡ Some p.1
found_at c p there =
    let listed = kept (λ q. is_enabled c.flags q.0) (enumerate_from 0 c.beans) p there in
    let place = listed.stands.0 in
    let within : place < length c.beans = rw length-enumerate_from at listed.stands.1 in
    let is : (0 + place, get_or c.beans place p.1) ≡ p = sym (get_or-enumerate_from 0 c.beans place p within) ∙ listed.stands.2 in
    let same : 0 + place ≡ p.0 = ap (λ q. q.0) is in
    let bean : get_or c.beans place p.1 ≡ p.1 = ap (λ q. q.1) is in
    let index : p.0 ≡ place = omega (arith, same) in
    enabled_at c.flags p.0 listed.passes 0 p.0 c.beans (omega arith)
    ∙ ap (slice_get c.beans) index ∙ slice_get-get_or c.beans place p.1 within ∙ ap (λ b. Some b) bean

-- ---- by what resolves

module _ (type : ℕ) (qualifiers : List Qualifier) (c : Candidates) where
  abbrev those : List (ℕ × Bean)
  those = left type qualifiers (enabled_of c)

  resolves : resolution type qualifiers (enabled_of c) ≡ sole those
  resolves = sole_left (eligible type qualifiers (enabled_of c))

  pub one_is_left : (i : ℕ) → resolution type qualifiers (enabled_of c) ≡ One i → place_if (at (enabled_of c) i) ≡ candidates type qualifiers (enabled_of c)
  one_is_left i e = by those refl (sym resolves ∙ e)
    where
      by : (l : List (ℕ × Bean)) → those ≡ l → sole l ≡ One i → place_if (at (enabled_of c) i) ≡ map (λ b. place_of b.1) those
      by [] h s = absurd cc
      by (p ∷ []) h s =
          let same : p.0 ≡ i = cc in
          let there : Contains those p = rw h (zero, omega arith, refl) in
          let found : at (enabled_of c) p.0 ≡ Some p.1 = found_at c p (left_within p type qualifiers (enabled_of c) there) in
          ap (λ k. place_if (at (enabled_of c) k)) (sym same) ∙ ap place_if found ∙ ap (map (λ b. place_of b.1)) (sym h)
      by (a ∷ b ∷ l) h s = absurd cc

  pub none_is_left : resolution type qualifiers (enabled_of c) ≡ Nothing → [] ≡ candidates type qualifiers (enabled_of c)
  none_is_left e = by those refl (sym resolves ∙ e)
    where
      by : (l : List (ℕ × Bean)) → those ≡ l → sole l ≡ Nothing → [] ≡ map (λ b. place_of b.1) those
      by [] h s = ap (map (λ b. place_of b.1)) (sym h)
      by (p ∷ []) h s = absurd cc
      by (a ∷ b ∷ l) h s = absurd cc
