-- Flags of the first qualifier of each type.
use Rattle.std.proofs.Common.{◌≡◌, ◌∙◌, ℕ, suc, ◌+◌, ◌<◌, ◌≤◌, Bool, true, false, cond, nat_eq, List, [], ◌∷◌, ◌++◌, drop, length, get_or, filter, Option, Some, None, refl, sym, ap, add-one, drop-cons}
use Rattle.std.proofs.lemmas.List.{drop_all}
use Rattle.std.proofs.lemmas.List.Folds.{find-append}
use Rattle.std.specs.List.{enumerate_from, find}
use Rattle.std.specs.Option.{is_some, option_map, option_or}
use Rattle.cdi_beans.specs.declared.bean.Bean.{Bean}
use Rattle.cdi_quals.specs.declared.qualifier.Qualifier.{Qualifier}
use Rattle.cdi_resolve.specs.BindingFlags.{own_flags, flags_if, first_flags, qualifiers_of}
use Rattle.cdi_resolve.specs.Filters.{is_enabled}

-- ---- one table more

-- a type's first qualifier brings its flags
pub brings : (here : Bool) (before after : Option (List Bool)) (flags : List Bool) → after ≡ cond here (Some flags) before → (here ≡ true → is_some before ≡ false) → after ≡ option_or before (cond here (Some flags) None)
brings true None after flags e none = e
brings true (Some x) after flags e none = absurd (let no = none refl in cc)
brings false None after flags e none = e
brings false (Some x) after flags e none = e

-- a later one brings none
pub stays : (here : Bool) (before : Option (List Bool)) (flags : List Bool) → (here ≡ true → is_some before ≡ true) → before ≡ option_or before (cond here (Some flags) None)
stays true None flags some = absurd (let no = some refl in cc)
stays true (Some x) flags some = refl
stays false None flags some = refl
stays false (Some x) flags some = refl

-- ---- lists of qualifiers

or_assoc : {X : Type 0} (a b d : Option X) → option_or (option_or a b) d ≡ option_or a (option_or b d)
or_assoc None b d = refl
or_assoc (Some x) b d = refl

or_none : {X : Type 0} (a : Option X) → option_or a None ≡ a
or_none None = refl
or_none (Some x) = refl

map_or : {X Y : Type 0} (f : X → Y) (a b : Option X) → option_map f (option_or a b) ≡ option_or (option_map f a) (option_map f b)
map_or f None b = refl
map_or f (Some x) b = refl

module _ (name : ℕ) where
  pub first_more : (xs ys : List Qualifier) → first_flags name (xs ++ ys) ≡ option_or (first_flags name xs) (first_flags name ys)
  first_more xs ys = ap (option_map own_flags) (find-append (λ q. nat_eq q.name name) xs ys) ∙ map_or own_flags (find (λ q. nat_eq q.name name) xs) (find (λ q. nat_eq q.name name) ys)

  one_first : (q : Qualifier) → first_flags name (q ∷ []) ≡ flags_if name q
  one_first q = by (nat_eq q.name name)
    where
      by : (b : Bool) → option_map own_flags (cond b (Some q) None) ≡ cond b (Some (own_flags q)) None
      by true = refl
      by false = refl

  -- a part more of what is ahead
  pub goes_on : (old new : Option (List Bool)) (xs ys : List Qualifier) (all : Option (List Bool)) → new ≡ option_or old (first_flags name xs) → option_or old (first_flags name (xs ++ ys)) ≡ all → option_or new (first_flags name ys) ≡ all
  goes_on old new xs ys all e so_far =
      ap (λ o. option_or o (first_flags name ys)) e ∙ or_assoc old (first_flags name xs) (first_flags name ys)
      ∙ sym (ap (option_or old) (first_more xs ys)) ∙ so_far

  pub goes_on_one : (old new : Option (List Bool)) (q : Qualifier) (ys : List Qualifier) (all : Option (List Bool)) → new ≡ option_or old (flags_if name q) → option_or old (first_flags name (q ∷ ys)) ≡ all → option_or new (first_flags name ys) ≡ all
  goes_on_one old new q ys all e so_far = goes_on old new (q ∷ []) ys all (e ∙ ap (option_or old) (sym (one_first q))) so_far

  pub at_end : (old all : Option (List Bool)) (xs : List Qualifier) → xs ≡ [] → option_or old (first_flags name xs) ≡ all → old ≡ all
  at_end old all xs e so_far = sym (or_none old) ∙ ap (λ ys. option_or old (first_flags name ys)) (sym e) ∙ so_far

pub next : {X : Type 0} (xs : List X) (i : ℕ) (x : X) → i < length xs → x ≡ get_or xs i x → drop i xs ≡ x ∷ drop (i + 1) xs
next xs i x lt is = rw add-one (drop-cons xs i x lt ∙ ap (λ y. y ∷ drop (suc i) xs) (sym is))

-- ---- beans

module _ (beans : List Bean) (flags : List Bool) where
  -- the qualifiers of the enabled beans that are ahead
  abbrev pub ahead : ℕ → List Qualifier
  ahead k = qualifiers_of (filter (λ p. is_enabled flags p.0) (enumerate_from k (drop k beans)))

  module _ (i : ℕ) (b : Bean) (lt : i < length beans) (is : b ≡ get_or beans i b) where
    next_ahead : ahead i ≡ qualifiers_of (filter (λ p. is_enabled flags p.0) ((i, b) ∷ enumerate_from (i + 1) (drop (i + 1) beans)))
    next_ahead = ap (λ bs. qualifiers_of (filter (λ p. is_enabled flags p.0) (enumerate_from i bs))) (next beans i b lt is)

    abbrev rest : List (ℕ × Bean)
    rest = filter (λ p. is_enabled flags p.0) (enumerate_from (i + 1) (drop (i + 1) beans))

    pub enabled_ahead : is_enabled flags i ≡ true → ahead i ≡ b.qualifiers ++ ahead (i + 1)
    enabled_ahead on = next_ahead ∙ ap (λ t. qualifiers_of (cond t ((i, b) ∷ rest) rest)) on

    pub disabled_ahead : is_enabled flags i ≡ false → ahead i ≡ ahead (i + 1)
    disabled_ahead off = next_ahead ∙ ap (λ t. qualifiers_of (cond t ((i, b) ∷ rest) rest)) off

  pub none_ahead : (i : ℕ) → length beans ≤ i → ahead i ≡ []
  none_ahead i past = ap (λ bs. qualifiers_of (filter (λ p. is_enabled flags p.0) (enumerate_from i bs))) (drop_all i beans past)
