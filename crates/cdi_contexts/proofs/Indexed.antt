-- The slots that names point to, through changes of what is there.
use Rattle.std.proofs.Common.{◌≡◌, ◌==◌, ◌∙◌, ℕ, refl, ap, sym, subst, List, [], ◌∷◌, ◌++◌, cond, not, true, false, Bool, Some, None, Option, option_map, bytes_eq}
use Rattle.std.proofs.lemmas.Map.Views.{exact_unsigned_eq}
use Rattle.cdi_base.specs.Maps.{Map, at, adjusted, without}
use Rattle.cdi_contexts.specs.Named.{named}
use Rattle.cdi_contexts.specs.Contexts.{Active}
use Rattle.cdi_store.specs.NameIndex.{slot_of, Points, PointsAlike}
use Rattle.cdi_contexts.specs.Group.{kept_named, with_table, outline, AreApart, IsIndexOf}
use Rattle.cdi_contexts.specs.declared.group.Kept.{Kept}
use Rattle.cdi_store.specs.declared.name_index.NameIndex.{NameIndex}
use Rattle.cdi_store.proofs.Absent.{nothing, without-absent}
use Rattle.cdi_contexts.proofs.Slots.{same_bytes, other_bytes, own_number, past, at-outline, named-outline, same_name, outline-push, outline-without}

-- the slot of a name
abbrev slot_named : List (ℕ × List ℕ) → List ℕ → Option ℕ
slot_named o name = option_map (λ p. p.0) (named (λ q. q.1) o name)

pushed : (o : List (ℕ × List ℕ)) (slot : ℕ) (name other : List ℕ) → named (λ q. q.1) o name ≡ None → slot_named (o ++ (slot, name) ∷ []) other ≡ cond (bytes_eq name other) (Some slot) (slot_named o other)
pushed [] slot name other h = by (bytes_eq name other)
  where
    by : (b : Bool) → option_map (λ (p : ℕ × List ℕ). p.0) (cond b (Some (slot, name)) None) ≡ cond b (Some slot) None
    by true = refl
    by false = refl
pushed (p ∷ more) slot name other h =
    let n = past (bytes_eq p.1 name) p (named (λ q. q.1) more name) h in
    by (bytes_eq p.1 other) refl n.0 (pushed more slot name other n.1)
  where
    by : (b : Bool) → bytes_eq p.1 other ≡ b → bytes_eq p.1 name ≡ false → slot_named (more ++ (slot, name) ∷ []) other ≡ cond (bytes_eq name other) (Some slot) (slot_named more other)
        → option_map (λ q. q.0) (cond b (Some p) (named (λ q. q.1) (more ++ (slot, name) ∷ []) other)) ≡ cond (bytes_eq name other) (Some slot) (option_map (λ q. q.0) (cond b (Some p) (named (λ q. q.1) more other)))
    by true e n rest =
        let f : bytes_eq name other ≡ false = ap (bytes_eq name) (sym (same_bytes p.1 other e)) ∙ other_bytes p.1 name n in
        rw f refl
    by false e n rest = rest

-- what lies in a slot has not a name that nothing has
differs : (o : List (ℕ × List ℕ)) (slot : ℕ) (name other : List ℕ) → at o slot ≡ Some name → named (λ q. q.1) o other ≡ None → bytes_eq name other ≡ false
differs [] slot name other e h = absurd cc
differs (p ∷ more) slot name other e h =
    let n = past (bytes_eq p.1 other) p (named (λ q. q.1) more other) h in
    by (slot == p.0) e n.0 (λ i. differs more slot name other i n.1)
  where
    by : (b : Bool) → cond b (Some p.1) (at more slot) ≡ Some name → bytes_eq p.1 other ≡ false → (at more slot ≡ Some name → bytes_eq name other ≡ false) → bytes_eq name other ≡ false
    by true i n rest = let s : p.1 ≡ name = cc in ap (λ x. bytes_eq x other) (sym s) ∙ n
    by false i n rest = rest i

left : (o : List (ℕ × List ℕ)) (slot : ℕ) (name other : List ℕ) → AreApart o → at o slot ≡ Some name → slot_named (without slot o) other ≡ cond (bytes_eq name other) None (slot_named o other)
left [] slot name other h e = absurd cc
left (p ∷ more) slot name other h e = by (slot == p.0) refl e (λ i. left more slot name other h.2 i)
  where
    here : (b : Bool) → bytes_eq p.1 other ≡ b → named (λ q. q.1) more p.1 ≡ None → slot_named more other ≡ cond b None (option_map (λ q. q.0) (cond b (Some p) (named (λ q. q.1) more other)))
    here true i n = ap (slot_named more) (sym (same_bytes p.1 other i)) ∙ ap (option_map (λ q. q.0)) n
    here false i n = refl

    there : (b : Bool) → bytes_eq p.1 other ≡ b → at more slot ≡ Some name → named (λ q. q.1) more p.1 ≡ None → slot_named (without slot more) other ≡ cond (bytes_eq name other) None (slot_named more other)
        → option_map (λ q. q.0) (cond b (Some p) (named (λ q. q.1) (without slot more) other)) ≡ cond (bytes_eq name other) None (option_map (λ q. q.0) (cond b (Some p) (named (λ q. q.1) more other)))
    there true i s n rest =
        let f : bytes_eq name other ≡ false = ap (bytes_eq name) (sym (same_bytes p.1 other i)) ∙ differs more slot name p.1 s n in
        rw f refl
    there false i s n rest = rest

    by : (b : Bool) → (slot == p.0) ≡ b → cond b (Some p.1) (at more slot) ≡ Some name → (at more slot ≡ Some name → slot_named (without slot more) other ≡ cond (bytes_eq name other) None (slot_named more other))
        → slot_named (cond (not b) (p ∷ without slot more) (without slot more)) other ≡ cond (bytes_eq name other) None (option_map (λ q. q.0) (cond (bytes_eq p.1 other) (Some p) (named (λ q. q.1) more other)))
    by true s i rest =
        let n : p.1 ≡ name = cc in
        let gone : at more slot ≡ None = ap (at more) (exact_unsigned_eq slot p.0 s) ∙ h.0 in
        let is : slot_named more other ≡ cond (bytes_eq p.1 other) None (option_map (λ q. q.0) (cond (bytes_eq p.1 other) (Some p) (named (λ q. q.1) more other))) = here (bytes_eq p.1 other) refl h.1 in
        ap (λ o. slot_named o other) (without-absent more slot gone)
        ∙ is
        ∙ ap (λ x. cond (bytes_eq x other) None (option_map (λ q. q.0) (cond (bytes_eq p.1 other) (Some p) (named (λ q. q.1) more other)))) n
    by false s i rest = there (bytes_eq p.1 other) refl i h.1 (rest i)

module _ {D : Type 0} where
  -- ---- changes

  pub index-adjusted : (m : Map (Kept D)) (slot : ℕ) (f : Kept D → Kept D) (index : NameIndex) → ((k : Kept D) → (f k).name ≡ k.name) → IsIndexOf (outline m) index → IsIndexOf (outline (adjusted slot f m)) index
  index-adjusted m slot f index e h = subst (λ o. IsIndexOf o index) (sym (same_name m slot f e)) h

  pub index-with_table : (m : Map (Kept D)) (slot : ℕ) (f : Active → Active) (index : NameIndex) → IsIndexOf (outline m) index → IsIndexOf (outline (with_table slot f m)) index
  index-with_table m slot f index h = index-adjusted m slot (λ k. record k { table = f k.table }) index (λ k. refl) h

  pub index-pushed : (m : Map (Kept D)) (slot : ℕ) (k : Kept D) (old new : NameIndex) → IsIndexOf (outline m) old → kept_named m k.name ≡ None → Points k.name (Some slot) old new → IsIndexOf (outline (m ++ (slot, k) ∷ [])) new
  index-pushed m slot k old new h n p =
      let none : named (λ q. q.1) (outline m) k.name ≡ None = named-outline m k.name ∙ ap (option_map (λ p. (p.0, p.1.name))) n in
      subst (λ o. IsIndexOf o new) (sym (outline-push m slot k))
      (λ name. p name ∙ ap (cond (bytes_eq k.name name) (Some slot)) (h name) ∙ sym (pushed (outline m) slot k.name name none))

  pub index-removed : (m : Map (Kept D)) (slot : ℕ) (k : Kept D) (old new : NameIndex) → AreApart (outline m) → at m slot ≡ Some k → IsIndexOf (outline m) old → Points k.name None old new → IsIndexOf (outline (without slot m)) new
  index-removed m slot k old new apart e h p =
      let named_so : at (outline m) slot ≡ Some k.name = at-outline m slot ∙ ap (option_map (λ k. k.name)) e in
      subst (λ o. IsIndexOf o new) (sym (outline-without m slot))
      (λ name. p name ∙ ap (cond (bytes_eq k.name name) None) (h name) ∙ sym (left (outline m) slot k.name name apart named_so))

  pub index-kept : (m : Map (Kept D)) (slot : ℕ) (index : NameIndex) → at m slot ≡ None → IsIndexOf (outline m) index → IsIndexOf (outline (without slot m)) index
  index-kept m slot index e h = subst (λ n. IsIndexOf (outline n) index) (sym (without-absent m slot e)) h

  pub index-alike : (m : Map (Kept D)) (old new : NameIndex) → PointsAlike old new → IsIndexOf (outline m) old → IsIndexOf (outline m) new
  index-alike m old new a h = λ name. a name ∙ h name

  -- ---- what is found

  at-named : (m : Map (Kept D)) (name : List ℕ) (p : ℕ × Kept D) → AreApart (outline m) → kept_named m name ≡ Some p → at m p.0 ≡ Some p.1
  at-named [] name p h e = absurd cc
  at-named (q ∷ more) name p h e = by (bytes_eq q.1.name name) e (λ i. at-named more name p h.2 i)
    where
      past_first : (b : Bool) → (p.0 == q.0) ≡ b → at more p.0 ≡ Some p.1 → cond b (Some q.1) (at more p.0) ≡ Some p.1
      past_first true i rest =
          let none : at more q.0 ≡ None = nothing (λ k. k.name) _ (sym (at-outline more q.0) ∙ h.0) in
          let some : at more q.0 ≡ Some p.1 = ap (at more) (sym (exact_unsigned_eq p.0 q.0 i)) ∙ rest in
          absurd cc
      past_first false i rest = rest

      by : (b : Bool) → cond b (Some q) (kept_named more name) ≡ Some p → (kept_named more name ≡ Some p → at more p.0 ≡ Some p.1) → at (q ∷ more) p.0 ≡ Some p.1
      by true i rest = let s : q ≡ p = cc in subst (λ z. at (q ∷ more) z.0 ≡ Some z.1) s (rw (own_number q.0) refl)
      by false i rest = past_first (p.0 == q.0) refl (rest i)

  slot_seen : (m : Map (Kept D)) (name : List ℕ) → slot_named (outline m) name ≡ option_map (λ p. p.0) (kept_named m name)
  slot_seen m name = ap (option_map (λ (p : ℕ × List ℕ). p.0)) (named-outline m name) ∙ by (kept_named m name)
    where
      by : (o : Option (ℕ × Kept D)) → option_map (λ (p : ℕ × List ℕ). p.0) (option_map (λ (p : ℕ × Kept D). (p.0, p.1.name)) o) ≡ option_map (λ p. p.0) o
      by None = refl
      by (Some p) = refl

  pub index-found : (m : Map (Kept D)) (index : NameIndex) (name : List ℕ) (slot : ℕ) → AreApart (outline m) → IsIndexOf (outline m) index → Some slot ≡ slot_of index name → (k : Kept D) × (at m slot ≡ Some k) × (kept_named m name ≡ Some (slot, k))
  index-found m index name slot apart h e = by (kept_named m name) refl (e ∙ h name ∙ slot_seen m name)
    where
      by : (o : Option (ℕ × Kept D)) → kept_named m name ≡ o → Some slot ≡ option_map (λ p. p.0) o → (k : Kept D) × (at m slot ≡ Some k) × (kept_named m name ≡ Some (slot, k))
      by None i s = absurd cc
      by (Some p) i s = let j : slot ≡ p.0 = cc in (p.1, ap (at m) j ∙ at-named m name p apart i, i ∙ ap (λ n. Some (n, p.1)) (sym j))

  pub index-not_found : (m : Map (Kept D)) (index : NameIndex) (name : List ℕ) → IsIndexOf (outline m) index → None ≡ slot_of index name → kept_named m name ≡ None
  index-not_found m index name h e = nothing (λ p. p.0) _ (sym (e ∙ h name ∙ slot_seen m name))
