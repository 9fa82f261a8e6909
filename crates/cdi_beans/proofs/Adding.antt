-- Lists that are extended item by item.
use Rattle.std.proofs.Common.{◌≡◌, ◌∙◌, ℕ, ◌+◌, ◌<◌, List, [], ◌∷◌, ◌++◌, length, take, get_or, map, filter, Bool, true, false, cond, Option, Some, None, option_to_list, refl, sym, ap, subst, append_assoc, append-nil}
use Rattle.std.proofs.lemmas.Grind.{flat_map-append}
use Rattle.std.proofs.lemmas.List.{take_more, map-append}
use Rattle.std.proofs.lemmas.List.Elements.{filter-append, filter_map-append}
use Rattle.std.specs.List.{AllZip, flat_map, filter_map, cons_option}
use Rattle.cdi_beans.specs.Adds.{Adds}

pub zip_append : {X Y : Type 0} (R : X → Y → Type 0) (xs zs : List X) (ys ws : List Y) → AllZip R xs ys → AllZip R zs ws → AllZip R (xs ++ zs) (ys ++ ws)
zip_append R [] zs [] ws a b = b
zip_append R [] zs (y ∷ ys) ws a b = absurd a
zip_append R (x ∷ xs) zs [] ws a b = absurd a
zip_append R (x ∷ xs) zs (y ∷ ys) ws a b = (a.0, zip_append R xs zs ys ws a.1 b)

module _ {X Y : Type 0} {R : X → Y → Type 0} where
  pub adds_none : (ys : List Y) → Adds R [] ys ys
  adds_none ys = record { added = []; are = sym (append-nil ys); each = tt }

  pub adds_one : (x : X) (y : Y) (old new : List Y) → new ≡ old ++ y ∷ [] → R x y → Adds R (x ∷ []) old new
  adds_one x y old new is p = record { added = y ∷ []; are = is; each = (p, tt) }

  pub adds_more : (xs zs : List X) (a b c : List Y) → Adds R xs a b → Adds R zs b c → Adds R (xs ++ zs) a c
  adds_more xs zs a b c f g =
      record {
        added = f.added ++ g.added;
        are = g.are ∙ ap (λ ys. ys ++ g.added) f.are ∙ append_assoc a f.added g.added;
        each = zip_append R xs zs f.added g.added f.each g.each;
      }

  pub all_added : (xs : List X) (new : List Y) → Adds R xs [] new → AllZip R xs new
  all_added xs new f = let P : List Y → Type 0 = AllZip R xs in subst P (sym f.are) f.each

-- a loop over a list looks at one item more
pub next_of : {X Z : Type 0} (g : List X → List Z) → ((a b : List X) → g (a ++ b) ≡ g a ++ g b) → (xs : List X) (i : ℕ) (x : X) → i < length xs → x ≡ get_or xs i x → g (take i xs) ++ g (x ∷ []) ≡ g (take (i + 1) xs)
next_of g splits xs i x lt is = sym (splits (take i xs) (x ∷ [])) ∙ ap (λ y. g (take i xs ++ y ∷ [])) is ∙ sym (ap g (take_more xs i x lt))

pub adds_next : {X Y Z : Type 0} {R : Z → Y → Type 0} (g : List X → List Z) → ((a b : List X) → g (a ++ b) ≡ g a ++ g b) → (xs : List X) (i : ℕ) (x : X) (old before after : List Y) → i < length xs → x ≡ get_or xs i x
    → Adds R (g (take i xs)) old before → Adds R (g (x ∷ [])) before after → Adds R (g (take (i + 1) xs)) old after
adds_next {Y = Y} {Z = Z} {R = R} g splits xs i x old before after lt is f h =
    let P : List Z → Type 0 = λ zs. Adds R zs old after in
    subst P (next_of g splits xs i x lt is) (adds_more (g (take i xs)) (g (x ∷ [])) old before after f h)

pub map_filter-append : {X Z : Type 0} (f : X → Z) (p : X → Bool) (a b : List X) → map f (filter p (a ++ b)) ≡ map f (filter p a) ++ map f (filter p b)
map_filter-append f p a b = ap (map f) (filter-append p a b) ∙ map-append f (filter p a) (filter p b)

pub flat_map_filter-append : {X Z : Type 0} (f : X → List Z) (p : X → Bool) (a b : List X) → flat_map f (filter p (a ++ b)) ≡ flat_map f (filter p a) ++ flat_map f (filter p b)
flat_map_filter-append f p a b = ap (flat_map f) (filter-append p a b) ∙ flat_map-append f (filter p a) (filter p b)

-- a loop that keeps what passes a test
module _ {X : Type 0} (p : X → Bool) (xs : List X) (i : ℕ) (x : X) (lt : i < length xs) (is : x ≡ get_or xs i x) where
  pub filter_kept : p x ≡ true → filter p (take i xs) ++ x ∷ [] ≡ filter p (take (i + 1) xs)
  filter_kept e = ap (λ b. filter p (take i xs) ++ cond b (x ∷ []) []) (sym e) ∙ next_of (filter p) (filter-append p) xs i x lt is

  pub filter_skipped : p x ≡ false → filter p (take i xs) ≡ filter p (take (i + 1) xs)
  filter_skipped e = sym (append-nil (filter p (take i xs))) ∙ ap (λ b. filter p (take i xs) ++ cond b (x ∷ []) []) (sym e) ∙ next_of (filter p) (filter-append p) xs i x lt is

module _ {X Y Z : Type 0} {R : Z → Y → Type 0} (f : X → List Z) where
  add_of : (xs : List X) (x : X) (old before after : List Y) → Adds R (flat_map f xs) old before → Adds R (f x) before after → Adds R (flat_map f (xs ++ x ∷ [])) old after
  add_of xs x old before after g h =
      let P : List Z → Type 0 = λ zs. Adds R zs old after in
      let same : flat_map f xs ++ f x ≡ flat_map f (xs ++ x ∷ []) = ap (λ zs. flat_map f xs ++ zs) (sym (append-nil (f x))) ∙ sym (flat_map-append f xs (x ∷ [])) in
      subst P same (adds_more (flat_map f xs) (f x) old before after g h)

  pub adds_flat : (xs : List X) (i : ℕ) (x : X) (old before after : List Y) → i < length xs → x ≡ get_or xs i x → Adds R (flat_map f (take i xs)) old before → Adds R (f x) before after → Adds R (flat_map f (take (i + 1) xs)) old after
  adds_flat xs i x old before after lt is g h =
      let P : List X → Type 0 = λ ys. Adds R (flat_map f ys) old after in
      subst P (next_of (λ ys. ys) (λ a b. refl) xs i x lt is) (add_of (take i xs) x old before after g h)

  pub adds_kept : (p : X → Bool) (xs : List X) (i : ℕ) (x : X) (old before after : List Y) → i < length xs → x ≡ get_or xs i x → p x ≡ true → Adds R (flat_map f (filter p (take i xs))) old before → Adds R (f x) before after
      → Adds R (flat_map f (filter p (take (i + 1) xs))) old after
  adds_kept p xs i x old before after lt is e g h =
      let P : List X → Type 0 = λ ys. Adds R (flat_map f ys) old after in
      subst P (filter_kept p xs i x lt is e) (add_of (filter p (take i xs)) x old before after g h)

  pub adds_skipped : (p : X → Bool) (xs : List X) (i : ℕ) (x : X) (old before : List Y) → i < length xs → x ≡ get_or xs i x → p x ≡ false → Adds R (flat_map f (filter p (take i xs))) old before
      → Adds R (flat_map f (filter p (take (i + 1) xs))) old before
  adds_skipped p xs i x old before lt is e g =
      let P : List X → Type 0 = λ ys. Adds R (flat_map f ys) old before in
      subst P (filter_skipped p xs i x lt is e) g

pub zip_more : {X Y : Type 0} (R : X → Y → Type 0) (xs : List X) (ys : List Y) (i : ℕ) (x : X) (y : Y) → i < length xs → x ≡ get_or xs i x → AllZip R (take i xs) ys → R x y → AllZip R (take (i + 1) xs) (ys ++ y ∷ [])
zip_more {X} R xs ys i x y lt is so_far p =
    let P : List X → Type 0 = λ zs. AllZip R zs (ys ++ y ∷ []) in
    subst P (next_of (λ zs. zs) (λ a b. refl) xs i x lt is) (zip_append R (take i xs) (x ∷ []) ys (y ∷ []) so_far (p, tt))

single : {Y : Type 0} (o : Option Y) → option_to_list o ≡ cons_option o []
single None = refl
single (Some y) = refl

-- a loop that maps what gives a value
pub filter_map_more : {X Y : Type 0} (h : X → Option Y) (xs : List X) (i : ℕ) (x : X) (first before after : List Y) → i < length xs → x ≡ get_or xs i x → after ≡ before ++ option_to_list (h x) → before ≡ first ++ filter_map h (take i xs)
    → after ≡ first ++ filter_map h (take (i + 1) xs)
filter_map_more h xs i x first before after lt is grown so_far =
    grown ∙ ap (λ ys. before ++ ys) (single (h x)) ∙ ap (λ ys. ys ++ filter_map h (x ∷ [])) so_far
    ∙ append_assoc first (filter_map h (take i xs)) (filter_map h (x ∷ []))
    ∙ ap (λ ys. first ++ ys) (next_of (filter_map h) (filter_map-append h) xs i x lt is)
