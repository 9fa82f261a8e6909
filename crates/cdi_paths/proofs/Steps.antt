-- The steps of a walk in depth.
use Rattle.std.proofs.Common.{◌≡◌, ◌∙◌, ℕ, ◌+◌, ◌<◌, ◌≤◌, ◌-◌, Bool, true, false, List, [], ◌∷◌, ◌++◌, length, get_or, map, length-append, refl, sym, ap, subst, ◌⊎◌, inl, inr, arith}
use Rattle.std.proofs.lemmas.Bool.{cases_eq, cases_lt, true≢false}
use Rattle.std.proofs.lemmas.List.{get_or_append_left, get_or_push, get_or-append_right, get_or-append-add, get_or-map, length-map, length_push}
use Rattle.std.proofs.lemmas.List.Elements.{Contains-append_left, Contains-push, Contains-push_cases, Contains-get_or}
use Rattle.std.specs.List.{Contains}
use Rattle.cdi_paths.specs.declared.finish_order.Step.{Step}
use Rattle.cdi_paths.specs.declared.finish_order.Step.TheVariants.{Enter, Leave}
use Rattle.cdi_paths.specs.FinishOrder.{IsAt}
use Rattle.cdi_paths.specs.Steps.{HasEntries}

pub entry_more : (n : ℕ) (steps : List Step) → HasEntries n steps → HasEntries (n + 1) (steps ++ Enter n ∷ [])
entry_more n steps e = record {
  all = λ a lt. elim (cases_eq a n) [
    | inl is ↦ (let P : ℕ → Type 0 = λ b. Contains (steps ++ Enter n ∷ []) (Enter b) in subst P (sym is) (Contains-push steps (Enter n)))
    | inr ne ↦ Contains-append_left steps (Enter n ∷ []) (Enter a) (e.all a (omega arith))
  ];
  only = λ s c. elim (Contains-push_cases steps (Enter n) s c) [ inl was ↦ (let o = e.only s was in (o.0, omega (arith, o.1), o.2)) | inr is ↦ (n, omega arith, sym is) ];
}

-- what stands at a place of a longer list
pub at_left : {X : Type 0} (xs ys : List X) (i : ℕ) (x : X) → IsAt xs i x → IsAt (xs ++ ys) i x
at_left xs ys i x h = (omega (arith, h.0, length-append xs ys), get_or_append_left xs ys x i h.0 ∙ h.1)

pub at_push_cases : {X : Type 0} (xs : List X) (y : X) (i : ℕ) (x : X) → IsAt (xs ++ y ∷ []) i x → IsAt xs i x ⊎ ((i ≡ length xs) × (y ≡ x))
at_push_cases xs y i x h = elim (cases_eq i (length xs)) [
  | inl is ↦ inr (is, sym (get_or_push xs y x i (sym is)) ∙ h.1)
  | inr ne ↦ (let lt : i < length xs = omega (arith, h.0, length_push xs y) in inl (lt, sym (get_or_append_left xs (y ∷ []) x i lt) ∙ h.1))
]

pub at_append_cases : {X : Type 0} (xs ys : List X) (i : ℕ) (x : X) → IsAt (xs ++ ys) i x → IsAt xs i x ⊎ ((length xs ≤ i) × Contains ys x)
at_append_cases xs ys i x h = elim (cases_lt i (length xs)) [
  | inl lt ↦ inl (lt, sym (get_or_append_left xs ys x i lt) ∙ h.1)
  | inr le ↦ inr (le, (i - length xs, omega (arith, h.0, length-append xs ys), sym (get_or-append_right xs ys (length xs) i x refl le) ∙ h.1))
]

pub at_right : {X : Type 0} (xs ys : List X) (x : X) → Contains ys x → (j : ℕ) × (length xs ≤ j) × IsAt (xs ++ ys) j x
at_right xs ys x c = (length xs + c.0, omega arith, (omega (arith, c.1, length-append xs ys), get_or-append-add xs ys c.0 x ∙ c.2))

-- the two kinds of steps
abbrev pub node_of : Step → ℕ
node_of (Enter a) = a
node_of (Leave a) = a

is_enter : Step → Bool
is_enter (Enter a) = true
is_enter (Leave a) = false

pub not_both : (a b : ℕ) → Enter a ≡ Leave b → ⊥
unfolding is_enter
not_both a b e = true≢false (ap is_enter e)

pub entry_from : (ts : List ℕ) (s : Step) → Contains (map Enter ts) s → (t : ℕ) × Contains ts t × (Enter t ≡ s)
entry_from ts s c =
    let lt : c.0 < length ts = omega (arith, c.1, length-map ts Enter) in
    (get_or ts c.0 0, Contains-get_or ts c.0 0 lt, sym (get_or-map Enter ts c.0 0 s lt) ∙ c.2)

pub entry_of : (ts : List ℕ) (t : ℕ) → Contains ts t → Contains (map Enter ts) (Enter t)
entry_of ts t c = (c.0, omega (arith, c.1, length-map ts Enter), get_or-map Enter ts c.0 t (Enter t) c.1 ∙ ap Enter c.2)

-- what stands at a place once a node is gone into
pub entered_cases : (rest : List Step) (v : ℕ) (ts : List ℕ) (i : ℕ) (s : Step) → IsAt ((rest ++ Leave v ∷ []) ++ map Enter ts) i s
    → IsAt rest i s ⊎ (((i ≡ length rest) × (Leave v ≡ s)) ⊎ ((length rest < i) × ((t : ℕ) × Contains ts t × (Enter t ≡ s))))
entered_cases rest v ts i s h = elim (at_append_cases (rest ++ Leave v ∷ []) (map Enter ts) i s h) [
  | inl front ↦ elim (at_push_cases rest (Leave v) i s front) [ inl below ↦ inl below | inr is ↦ inr (inl is) ]
  | inr entry ↦ inr (inr (omega (arith, entry.0, length_push rest (Leave v)), entry_from ts s entry.1))
]
