-- What a change in one slot is to what is there.
use Rattle.std.proofs.Common.{◌≡◌, ◌≢◌, ◌==◌, ◌∙◌, ℕ, suc, ◌+◌, refl, ap, sym, subst, List, [], ◌∷◌, ◌++◌, cond, not, true, false, true≢false, Bool, Some, None, Option, option_map, position, nat_eq, is_some, bytes_eq, slice_get, Ok, Err, OnErr, OnOk, arith}
use Rattle.std.specs.Prelude.{Result}
use Rattle.std.specs.Map.{lookup, remove_entry, keys_of, values_of}
use Rattle.std.specs.List.{position_or_len}
use Rattle.std.proofs.lemmas.Map.Views.{exact_unsigned_eq}
use Rattle.std.proofs.lemmas.Slice.Eq.{bytes_eq-Decides}
use Rattle.indexmap.specs.Layout.{set_value_at}
use Rattle.indexmap.specs.IndexMap.{insert_entry}
use Rattle.slab.specs.Slab.{Slab, get, Updates}
use Rattle.cdi_base.specs.Maps.{Map, at, adjusted, without}
use Rattle.cdi_base.proofs.Tables.{place_of}
use Rattle.cdi_store.proofs.Absent.{nothing, untouched, without-absent}
use Rattle.cdi_store.proofs.Entries.{at-lookup}
use Rattle.cdi_contexts.specs.Named.{named}
use Rattle.cdi_contexts.specs.Contexts.{Active}
use Rattle.cdi_contexts.specs.Group.{kept_named, with_table, outline, AreApart, AreTaken}
use Rattle.cdi_contexts.specs.declared.group.Kept.{Kept}

pub same_bytes : (a b : List ℕ) → bytes_eq a b ≡ true → a ≡ b
same_bytes a b h = (bytes_eq-Decides a b).0 h

pub own_bytes : (a : List ℕ) → bytes_eq a a ≡ true
own_bytes a = (bytes_eq-Decides a a).1 refl

pub other_bytes : (a b : List ℕ) → bytes_eq a b ≡ false → bytes_eq b a ≡ false
other_bytes a b h = by (bytes_eq b a) refl
  where
    by : (t : Bool) → bytes_eq b a ≡ t → bytes_eq b a ≡ false
    by false e = e
    by true e = absurd (true≢false (sym (own_bytes a) ∙ ap (λ x. bytes_eq a x) (sym (same_bytes b a e)) ∙ h))

-- what holds anyway holds at an error
pub on_err : {T F : Type 0} (r : Result T F) (P : Type 0) → P → OnErr r P
on_err (Ok x) P p = tt
on_err (Err e) P p = p

pub ok_then : {T F : Type 0} (r : Result T F) (P Q : Type 0) → OnOk r P → (P → Q) → OnOk r Q
ok_then (Ok x) P Q h f = f h
ok_then (Err e) P Q h f = tt

pub own_number : (n : ℕ) → (n == n) ≡ true
own_number n = grind arith

-- what is equal to one number
one_of : (j slot k : ℕ) → (j == k) ≡ true → (slot == k) ≡ true → (j == slot) ≡ true
one_of j slot k h i = grind arith

joined : (j slot k : ℕ) → (j == k) ≡ true → (j == slot) ≡ true → (slot == k) ≡ true
joined j slot k h i = grind arith

other_than : (j slot : ℕ) → (j == slot) ≡ false → j ≢ slot
other_than j slot h = λ e. true≢false (sym (own_number j) ∙ ap (λ n. j == n) e ∙ h)

-- a slot that isn't taken is no one's
pub vacant : {X Y : Type 0} (taken : Slab Y) (m : Map X) (slot : ℕ) → AreTaken taken m → get taken slot ≡ None → at m slot ≡ None
vacant taken m slot h none = by (at m slot) (sym (h slot) ∙ ap is_some none)
  where
    by : {X : Type 0} (o : Option X) → is_some o ≡ false → o ≡ None
    by None e = refl
    by (Some x) e = absurd (true≢false e)

module _ {X : Type 0} where
  -- a write by index
  set_at : (m : Map X) (slot : ℕ) (w : X) → set_value_at m (position_or_len (nat_eq slot) (keys_of m)) w ≡ adjusted slot (λ _. w) m
  set_at [] slot w = refl
  set_at (e ∷ es) slot w = by (set_at es slot w) (nat_eq slot e.0)
    where
      by : set_value_at es (position_or_len (nat_eq slot) (keys_of es)) w ≡ adjusted slot (λ _. w) es → (b : Bool)
          → set_value_at (e ∷ es) (cond (not b) (1 + position_or_len (nat_eq slot) (keys_of es)) 0) w ≡ cond b ((e.0, w) ∷ es) (e ∷ adjusted slot (λ _. w) es)
      by later true = refl
      by later false =
          let one : 1 + position_or_len (nat_eq slot) (keys_of es) ≡ suc (position_or_len (nat_eq slot) (keys_of es)) = omega arith in
          rw one (ap (λ r. e ∷ r) later)

  -- only what is there is changed
  same_change : (m : Map X) (slot : ℕ) (k w : X) (f : X → X) → at m slot ≡ Some k → w ≡ f k → adjusted slot (λ _. w) m ≡ adjusted slot f m
  same_change [] slot k w f h e = refl
  same_change (p ∷ more) slot k w f h e = by (slot == p.0) h (λ i. same_change more slot k w f i e)
    where
      by : (b : Bool) → cond b (Some p.1) (at more slot) ≡ Some k → (at more slot ≡ Some k → adjusted slot (λ _. w) more ≡ adjusted slot f more)
          → cond b ((p.0, w) ∷ more) (p ∷ adjusted slot (λ _. w) more) ≡ cond b ((p.0, f p.1) ∷ more) (p ∷ adjusted slot f more)
      by true i rest = let q : p.1 ≡ k = cc in ap (λ v. (p.0, v) ∷ more) (e ∙ ap f (sym q))
      by false i rest = ap (λ r. p ∷ r) (rest i)

  pub written : (m : Map X) (slot i : ℕ) (k w : X) (f : X → X) → Some i ≡ position (nat_eq slot) (keys_of m) → slice_get (values_of m) i ≡ lookup (nat_eq slot) m → slice_get (values_of m) i ≡ Some k → w ≡ f k
      → set_value_at m i w ≡ adjusted slot f m
  written m slot i k w f place found value is =
      ap (λ j. set_value_at m j w) (place_of (nat_eq slot) (keys_of m) i place) ∙ set_at m slot w
      ∙ same_change m slot k w f (sym (at-lookup m slot) ∙ sym found ∙ value) is

  same : (m : Map X) (slot : ℕ) → adjusted slot (λ x. x) m ≡ m
  same [] slot = refl
  same (p ∷ more) slot = by (slot == p.0) (same more slot)
    where
      by : (b : Bool) → adjusted slot (λ x. x) more ≡ more → cond b ((p.0, p.1) ∷ more) (p ∷ adjusted slot (λ x. x) more) ≡ p ∷ more
      by true rest = refl
      by false rest = ap (λ r. p ∷ r) rest

  -- what is there written again
  pub rewritten : (m : Map X) (slot i : ℕ) (k w : X) → Some i ≡ position (nat_eq slot) (keys_of m) → slice_get (values_of m) i ≡ lookup (nat_eq slot) m → slice_get (values_of m) i ≡ Some k → w ≡ k → set_value_at m i w ≡ m
  rewritten m slot i k w place found value is = written m slot i k w (λ x. x) place found value is ∙ same m slot

  pub absent : (m : Map X) (slot : ℕ) → is_some (lookup (nat_eq slot) m) ≡ false → at m slot ≡ None
  absent m slot h = by (at m slot) refl (ap is_some (sym (at-lookup m slot)) ∙ h)
    where
      by : (o : Option X) → at m slot ≡ o → is_some (at m slot) ≡ false → at m slot ≡ None
      by None e i = e
      by (Some x) e i = absurd (true≢false (sym (ap is_some e) ∙ i))

  -- a new slot at the end
  pub pushed : (m : Map X) (slot : ℕ) (x : X) → at m slot ≡ None → insert_entry nat_eq m slot x ≡ m ++ (slot, x) ∷ []
  pushed [] slot x h = refl
  pushed (p ∷ more) slot x h = by (slot == p.0) h (pushed more slot x)
    where
      by : (b : Bool) → cond b (Some p.1) (at more slot) ≡ None → (at more slot ≡ None → insert_entry nat_eq more slot x ≡ more ++ (slot, x) ∷ [])
          → cond b ((p.0, x) ∷ more) (p ∷ insert_entry nat_eq more slot x) ≡ p ∷ more ++ (slot, x) ∷ []
      by true i rest = absurd cc
      by false i rest = ap (λ r. p ∷ r) (rest i)

  pub at-push : (m : Map X) (slot j : ℕ) (x : X) → at m j ≡ None → (j == slot) ≡ false → at (m ++ (slot, x) ∷ []) j ≡ None
  at-push [] slot j x h e = rw e refl
  at-push (p ∷ more) slot j x h e = by (j == p.0) h (λ i. at-push more slot j x i e)
    where
      by : (b : Bool) → cond b (Some p.1) (at more j) ≡ None → (at more j ≡ None → at (more ++ (slot, x) ∷ []) j ≡ None) → cond b (Some p.1) (at (more ++ (slot, x) ∷ []) j) ≡ None
      by true i rest = absurd cc
      by false i rest = rest i

  -- without what is in an empty slot
  pub at-without : (m : Map X) (slot j : ℕ) → at m j ≡ None → at (without slot m) j ≡ None
  at-without [] slot j h = refl
  at-without (p ∷ more) slot j h = by (slot == p.0) (j == p.0) refl h (at-without more slot j)
    where
      by : (b t : Bool) → (j == p.0) ≡ t → cond t (Some p.1) (at more j) ≡ None → (at more j ≡ None → at (without slot more) j ≡ None) → at (cond (not b) (p ∷ without slot more) (without slot more)) j ≡ None
      by b true e i rest = absurd cc
      by true false e i rest = rest i
      by false false e i rest = rw e (rest i)

  pub at-without-own : (m : Map X) (slot : ℕ) → at (without slot m) slot ≡ None
  at-without-own [] slot = refl
  at-without-own (p ∷ more) slot = by (slot == p.0) refl (at-without-own more slot)
    where
      by : (b : Bool) → (slot == p.0) ≡ b → at (without slot more) slot ≡ None → at (cond (not b) (p ∷ without slot more) (without slot more)) slot ≡ None
      by true e rest = rest
      by false e rest = rw e rest

  -- whether something stands in a slot
  there-push : (m : Map X) (slot j : ℕ) (x : X) → is_some (at (m ++ (slot, x) ∷ []) j) ≡ cond (j == slot) true (is_some (at m j))
  there-push [] slot j x = by (j == slot)
    where
      by : (b : Bool) → is_some (cond b (Some x) None) ≡ cond b true false
      by true = refl
      by false = refl
  there-push (p ∷ more) slot j x = by (j == p.0) (j == slot) (there-push more slot j x)
    where
      by : (b t : Bool) → is_some (at (more ++ (slot, x) ∷ []) j) ≡ cond t true (is_some (at more j))
          → is_some (cond b (Some p.1) (at (more ++ (slot, x) ∷ []) j)) ≡ cond t true (is_some (cond b (Some p.1) (at more j)))
      by true true rest = refl
      by true false rest = refl
      by false t rest = rest

  there-without : (m : Map X) (slot j : ℕ) → is_some (at (without slot m) j) ≡ cond (j == slot) false (is_some (at m j))
  there-without [] slot j = by (j == slot)
    where
      by : (b : Bool) → false ≡ cond b false false
      by true = refl
      by false = refl
  there-without (p ∷ more) slot j = by (slot == p.0) (j == p.0) (j == slot) refl refl refl (there-without more slot j)
    where
      by : (b t s : Bool) → (slot == p.0) ≡ b → (j == p.0) ≡ t → (j == slot) ≡ s → is_some (at (without slot more) j) ≡ cond s false (is_some (at more j))
          → is_some (at (cond (not b) (p ∷ without slot more) (without slot more)) j) ≡ cond s false (is_some (cond t (Some p.1) (at more j)))
      by true true true e i k rest = rest
      by true true false e i k rest = absurd (true≢false (sym (one_of j slot p.0 i e) ∙ k))
      by true false true e i k rest = rest
      by true false false e i k rest = rest
      by false true true e i k rest = absurd (true≢false (sym (joined j slot p.0 i k) ∙ e))
      by false true false e i k rest = rw i refl
      by false false s e i k rest = rw i rest

pub same_name : {D : Type 0} (m : Map (Kept D)) (slot : ℕ) (f : Kept D → Kept D) → ((k : Kept D) → (f k).name ≡ k.name) → outline (adjusted slot f m) ≡ outline m
same_name [] slot f e = refl
same_name (p ∷ more) slot f e = by (slot == p.0) (same_name more slot f e)
  where
    by : (b : Bool) → outline (adjusted slot f more) ≡ outline more → outline (cond b ((p.0, f p.1) ∷ more) (p ∷ adjusted slot f more)) ≡ (p.0, p.1.name) ∷ outline more
    by true rest = ap (λ n. (p.0, n) ∷ outline more) (e p.1)
    by false rest = ap (λ r. (p.0, p.1.name) ∷ r) rest

module _ {D : Type 0} where
  pub at-outline : (m : Map (Kept D)) (slot : ℕ) → at (outline m) slot ≡ option_map (λ k. k.name) (at m slot)
  at-outline [] slot = refl
  at-outline (p ∷ more) slot = by (slot == p.0) (at-outline more slot)
    where
      by : (b : Bool) → at (outline more) slot ≡ option_map (λ k. k.name) (at more slot) → cond b (Some p.1.name) (at (outline more) slot) ≡ option_map (λ k. k.name) (cond b (Some p.1) (at more slot))
      by true rest = refl
      by false rest = rest

  pub named-outline : (m : Map (Kept D)) (name : List ℕ) → named (λ q. q.1) (outline m) name ≡ option_map (λ p. (p.0, p.1.name)) (kept_named m name)
  named-outline [] name = refl
  named-outline (p ∷ more) name = by (bytes_eq p.1.name name) (named-outline more name)
    where
      by : (b : Bool) → named (λ q. q.1) (outline more) name ≡ option_map (λ p. (p.0, p.1.name)) (kept_named more name)
          → cond b (Some (p.0, p.1.name)) (named (λ q. q.1) (outline more) name) ≡ option_map (λ p. (p.0, p.1.name)) (cond b (Some p) (kept_named more name))
      by true rest = refl
      by false rest = rest

  -- a change of one that keeps its name
  pub apart-adjusted : (m : Map (Kept D)) (slot : ℕ) (f : Kept D → Kept D) → ((k : Kept D) → (f k).name ≡ k.name) → AreApart (outline m) → AreApart (outline (adjusted slot f m))
  apart-adjusted m slot f e h = subst AreApart (sym (same_name m slot f e)) h

  -- what is there, by the outline
  there-outline : (m : Map (Kept D)) (slot : ℕ) → is_some (at (outline m) slot) ≡ is_some (at m slot)
  there-outline m slot = ap is_some (at-outline m slot) ∙ by (at m slot)
    where
      by : (o : Option (Kept D)) → is_some (option_map (λ k. k.name) o) ≡ is_some o
      by None = refl
      by (Some k) = refl

  pub taken-adjusted : {Y : Type 0} (taken : Slab Y) (m : Map (Kept D)) (slot : ℕ) (f : Kept D → Kept D) → ((k : Kept D) → (f k).name ≡ k.name) → AreTaken taken m → AreTaken taken (adjusted slot f m)
  taken-adjusted taken m slot f e h = λ j.
      h j ∙ sym (there-outline m j) ∙ sym (ap (λ o. is_some (at o j)) (same_name m slot f e)) ∙ there-outline (adjusted slot f m) j

  -- a change of what one has
  pub apart-with_table : (m : Map (Kept D)) (slot : ℕ) (f : Active → Active) → AreApart (outline m) → AreApart (outline (with_table slot f m))
  apart-with_table m slot f h = apart-adjusted m slot (λ k. record k { table = f k.table }) (λ k. refl) h

  pub taken-with_table : {Y : Type 0} (taken : Slab Y) (m : Map (Kept D)) (slot : ℕ) (f : Active → Active) → AreTaken taken m → AreTaken taken (with_table slot f m)
  taken-with_table taken m slot f h = taken-adjusted taken m slot (λ k. record k { table = f k.table }) (λ k. refl) h

named-push : (o : List (ℕ × List ℕ)) (slot : ℕ) (name n : List ℕ) → named (λ q. q.1) o n ≡ None → bytes_eq name n ≡ false → named (λ q. q.1) (o ++ (slot, name) ∷ []) n ≡ None
named-push [] slot name n h e = rw e refl
named-push (p ∷ more) slot name n h e = by (bytes_eq p.1 n) h (λ i. named-push more slot name n i e)
  where
    by : (b : Bool) → cond b (Some p) (named (λ q. q.1) more n) ≡ None → (named (λ q. q.1) more n ≡ None → named (λ q. q.1) (more ++ (slot, name) ∷ []) n ≡ None)
        → cond b (Some p) (named (λ q. q.1) (more ++ (slot, name) ∷ []) n) ≡ None
    by true i rest = absurd cc
    by false i rest = rest i

-- what is found past a first that isn't it
pub past : {A : Type 0} (b : Bool) (x : A) (o : Option A) → cond b (Some x) o ≡ None → (b ≡ false) × (o ≡ None)
past true x o h = absurd cc
past false x o h = (refl, h)

other_number : (j k : ℕ) → (j == k) ≡ false → (k == j) ≡ false
other_number j k h = grind arith

apart-push : (o : List (ℕ × List ℕ)) (slot : ℕ) (name : List ℕ) → AreApart o → at o slot ≡ None → named (λ q. q.1) o name ≡ None → AreApart (o ++ (slot, name) ∷ [])
apart-push [] slot name h s n = (refl, refl, tt)
apart-push (p ∷ more) slot name h s n =
    let s' = past (slot == p.0) p.1 (at more slot) s in
    let n' = past (bytes_eq p.1 name) p (named (λ q. q.1) more name) n in
    (at-push more slot p.0 name h.0 (other_number slot p.0 s'.0), named-push more slot name p.1 h.1 (other_bytes p.1 name n'.0), apart-push more slot name h.2 s'.1 n'.1)

named-without : (o : List (ℕ × List ℕ)) (slot : ℕ) (n : List ℕ) → named (λ q. q.1) o n ≡ None → named (λ q. q.1) (without slot o) n ≡ None
named-without [] slot n h = refl
named-without (p ∷ more) slot n h = by (slot == p.0) (past (bytes_eq p.1 n) p (named (λ q. q.1) more n) h) (named-without more slot n)
  where
    by : (b : Bool) → (bytes_eq p.1 n ≡ false) × (named (λ q. q.1) more n ≡ None) → (named (λ q. q.1) more n ≡ None → named (λ q. q.1) (without slot more) n ≡ None)
        → named (λ q. q.1) (cond (not b) (p ∷ without slot more) (without slot more)) n ≡ None
    by true i rest = rest i.1
    by false i rest = rw i.0 (rest i.1)

apart-without : (o : List (ℕ × List ℕ)) (slot : ℕ) → AreApart o → AreApart (without slot o)
apart-without [] slot h = tt
apart-without (p ∷ more) slot h = by (slot == p.0) (apart-without more slot h.2)
  where
    by : (b : Bool) → AreApart (without slot more) → AreApart (cond (not b) (p ∷ without slot more) (without slot more))
    by true rest = rest
    by false rest = (at-without more slot p.0 h.0, named-without more slot p.1 h.1, rest)

module _ {D : Type 0} where
  pub outline-push : (m : Map (Kept D)) (slot : ℕ) (k : Kept D) → outline (m ++ (slot, k) ∷ []) ≡ outline m ++ (slot, k.name) ∷ []
  outline-push [] slot k = refl
  outline-push (p ∷ more) slot k = ap (λ r. (p.0, p.1.name) ∷ r) (outline-push more slot k)

  pub outline-without : (m : Map (Kept D)) (slot : ℕ) → outline (without slot m) ≡ without slot (outline m)
  outline-without [] slot = refl
  outline-without (p ∷ more) slot = by (slot == p.0) (outline-without more slot)
    where
      by : (b : Bool) → outline (without slot more) ≡ without slot (outline more)
          → outline (cond (not b) (p ∷ without slot more) (without slot more)) ≡ cond (not b) ((p.0, p.1.name) ∷ without slot (outline more)) (without slot (outline more))
      by true rest = rest
      by false rest = ap (λ r. (p.0, p.1.name) ∷ r) rest

  -- a new one at the end
  pub apart_pushed : (m : Map (Kept D)) (slot : ℕ) (k : Kept D) → AreApart (outline m) → at m slot ≡ None → kept_named m k.name ≡ None → AreApart (outline (m ++ (slot, k) ∷ []))
  apart_pushed m slot k h s n =
      subst AreApart (sym (outline-push m slot k))
      (apart-push (outline m) slot k.name h (at-outline m slot ∙ ap (option_map (λ k. k.name)) s) (named-outline m k.name ∙ ap (option_map (λ p. (p.0, p.1.name))) n))

  pub taken_pushed : {Y : Type 0} (taken after : Slab Y) (m : Map (Kept D)) (slot : ℕ) (k : Kept D) (y : Y) → AreTaken taken m → Updates taken after slot (Some y) → AreTaken after (m ++ (slot, k) ∷ [])
  taken_pushed taken after m slot k y h u = λ j. by (j == slot) j refl
    where
      by : (b : Bool) (j : ℕ) → (j == slot) ≡ b → is_some (get after j) ≡ is_some (at (m ++ (slot, k) ∷ []) j)
      by true j i = ap (λ n. is_some (get after n)) (exact_unsigned_eq j slot i) ∙ ap is_some u.changed ∙ sym (there-push m slot j k ∙ ap (λ b. cond b true (is_some (at m j))) i)
      by false j i = ap is_some (u.others j (other_than j slot i)) ∙ h j ∙ sym (there-push m slot j k ∙ ap (λ b. cond b true (is_some (at m j))) i)

  -- without what is in a slot
  pub apart_removed : (m : Map (Kept D)) (slot : ℕ) → AreApart (outline m) → AreApart (outline (without slot m))
  apart_removed m slot h = subst AreApart (sym (outline-without m slot)) (apart-without (outline m) slot h)

  pub taken_removed : {Y : Type 0} (taken after : Slab Y) (m : Map (Kept D)) (slot : ℕ) → AreTaken taken m → Updates taken after slot None → AreTaken after (without slot m)
  taken_removed taken after m slot h u = λ j. by (j == slot) j refl
    where
      by : (b : Bool) (j : ℕ) → (j == slot) ≡ b → is_some (get after j) ≡ is_some (at (without slot m) j)
      by true j i = ap (λ n. is_some (get after n)) (exact_unsigned_eq j slot i) ∙ ap is_some u.changed ∙ sym (there-without m slot j ∙ ap (λ b. cond b false (is_some (at m j))) i)
      by false j i = ap is_some (u.others j (other_than j slot i)) ∙ h j ∙ sym (there-without m slot j ∙ ap (λ b. cond b false (is_some (at m j))) i)

  pub removed : (m : Map (Kept D)) (slot : ℕ) → AreApart (outline m) → remove_entry (nat_eq slot) m ≡ without slot m
  removed [] slot h = refl
  removed (p ∷ more) slot h = by (slot == p.0) refl (removed more slot h.2)
    where
      by : (b : Bool) → (slot == p.0) ≡ b → remove_entry (nat_eq slot) more ≡ without slot more → cond b more (p ∷ remove_entry (nat_eq slot) more) ≡ cond (not b) (p ∷ without slot more) (without slot more)
      by true e rest = sym (without-absent more slot (nothing (λ k. k.name) _ (sym (at-outline more slot) ∙ ap (at (outline more)) (exact_unsigned_eq slot p.0 e) ∙ h.0)))
      by false e rest = ap (λ r. p ∷ r) rest
