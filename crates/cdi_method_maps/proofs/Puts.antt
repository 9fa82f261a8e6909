-- Changes that put methods into a map.
use Rattle.std.proofs.Common.{◌≡◌, ◌∙◌, ℕ, ◌<◌, Bool, cond, List, [], ◌∷◌, ◌++◌, length, get_or, Option, Some, None, nat_eq, find, option_map, option_and_then, slice_get, refl, sym, ap, ◌⊎◌, inl, inr, arith}
use Rattle.std.specs.Option.{option_or}
use Rattle.std.proofs.lemmas.Bool.{cases_eq, eq-eqb, ne_eqb, eqb-true}
use Rattle.std.proofs.lemmas.List.Folds.{find-append}
use Rattle.std.proofs.lemmas.List.Sums.{passes_at_first}
use Rattle.std.proofs.lemmas.Option.{slice_get_within}
use Rattle.cdi_machine.specs.declared.member.Method.{Method}
use Rattle.cdi_shared_maps.specs.Maps.{changed}
use Rattle.cdi_shared_maps.specs.declared.change.Change.{Change}
use Rattle.cdi_method_maps.specs.declared.named_method.NamedMethod.{NamedMethod}
use Rattle.cdi_method_maps.specs.declared.kept_methods.KeptMethods.{KeptMethods}
use Rattle.cdi_method_maps.specs.NamedMethods.{method_named}
use Rattle.cdi_method_maps.specs.KeptMethods.{key_of, method_by, ArePlaces, Grows, IsChangeFor, Puts}
use Rattle.cdi_method_maps.proofs.Growth.{length-Extends, slice_get-Extends, position_or_len-Extends}

-- after changes and then others, the first ones count
pub changed-append : (xs ys : List Change) (before : ℕ → Option ℕ) (key : ℕ) → changed (xs ++ ys) before key ≡ changed xs (changed ys before) key
changed-append [] ys before key = refl
changed-append (x ∷ xs) ys before key = ap (λ (o : Option ℕ). cond (nat_eq x.key key) x.value o) (changed-append xs ys before key)

map_or : {X Y : Type 0} (f : X → Y) (a b : Option X) → option_map f (option_or a b) ≡ option_or (option_map f a) (option_map f b)
map_or f None b = refl
map_or f (Some x) b = refl

or_assoc : {X : Type 0} (a b c : Option X) → option_or a (option_or b c) ≡ option_or (option_or a b) c
or_assoc None b c = refl
or_assoc (Some x) b c = refl

-- the first method of a name, among two lists
method_named-append : (name : ℕ) (xs ys : List NamedMethod) → method_named name (xs ++ ys) ≡ option_or (method_named name xs) (method_named name ys)
method_named-append name xs ys =
    ap (option_map (λ (m : NamedMethod). m.method)) (find-append (λ (m : NamedMethod). nat_eq m.name name) xs ys)
    ∙ map_or (λ (m : NamedMethod). m.method) (find (λ m. nat_eq m.name name) xs) (find (λ m. nat_eq m.name name) ys)

-- a key is that of one name only
pub one_name : (kept : KeptMethods) (name other key : ℕ) → key ≡ key_of kept name → key ≡ key_of kept other → key < length kept.keys.keys
    → name ≡ other
one_name kept name other key is also lt =
    named name is ∙ sym (named other also)
  where
    named : (n : ℕ) → key ≡ key_of kept n → n ≡ get_or kept.keys.keys key 0
    named n e =
        eqb-true n (get_or kept.keys.keys (key_of kept n) 0) (passes_at_first (nat_eq n) kept.keys.keys 0 (omega (arith, e, lt)))
        ∙ ap (λ (k : ℕ). get_or kept.keys.keys k 0) (sym e)

-- a change for a method stays one
pub IsChangeFor-grown : (old new : KeptMethods) (named : NamedMethod) (change : Change) → Grows old new → IsChangeFor old named change → IsChangeFor new named change
IsChangeFor-grown old new named change grows is = record {
  key = is.key ∙ sym (position_or_len-Extends (nat_eq named.name) old.keys.keys new.keys.keys grows.keys (omega (arith, is.key, is.known)));
  known = omega (arith, is.known, length-Extends old.keys.keys new.keys.keys grows.keys);
  value = at change.value is.value;
}
  where
    at : (o : Option ℕ) → option_and_then (slice_get old.methods) o ≡ Some named.method → option_and_then (slice_get new.methods) o ≡ Some named.method
    at None e = absurd cc
    at (Some place) e = slice_get-Extends old.methods new.methods place grows.methods (slice_get_within old.methods place named.method e) ∙ e

module _ (kept : KeptMethods) (named : NamedMethod) (change : Change) (is : IsChangeFor kept named change) (places : ℕ → Option ℕ) where
  -- the method of a name, after the change
  found_one : (name : ℕ) → method_by kept (changed (change ∷ []) places) name ≡ option_or (method_named name (named ∷ [])) (method_by kept places name)
  found_one name = by (cases_eq named.name name)
    where
      by : (named.name ≡ name) ⊎ (named.name ≡ name → ⊥)
          → option_and_then (slice_get kept.methods) (cond (nat_eq change.key (key_of kept name)) change.value (places (key_of kept name)))
          ≡ option_or (option_map (λ (m : NamedMethod). m.method) (cond (nat_eq named.name name) (Some named) None)) (method_by kept places name)
      by (inl same) =
          ap (λ (b : Bool). option_and_then (slice_get kept.methods) (cond b change.value (places (key_of kept name)))) (eq-eqb change.key (key_of kept name) (is.key ∙ ap (key_of kept) same))
          ∙ is.value
          ∙ sym (ap (λ (b : Bool). option_or (option_map (λ (m : NamedMethod). m.method) (cond b (Some named) None)) (method_by kept places name)) (eq-eqb named.name name same))
      by (inr other) =
          ap (λ (b : Bool). option_and_then (slice_get kept.methods) (cond b change.value (places (key_of kept name)))) (ne_eqb change.key (key_of kept name) (λ e. other (one_name kept named.name name change.key is.key e is.known)))
          ∙ sym (ap (λ (b : Bool). option_or (option_map (λ (m : NamedMethod). m.method) (cond b (Some named) None)) (method_by kept places name)) (ne_eqb named.name name other))

  -- places stay places, after the change
  placed_one : ArePlaces kept places → ArePlaces kept (changed (change ∷ []) places)
  placed_one are = λ key place e. by key place (cases_eq change.key key) e
    where
      by : (key place : ℕ) → (change.key ≡ key) ⊎ (change.key ≡ key → ⊥) → cond (nat_eq change.key key) change.value (places key) ≡ Some place
          → (key < length kept.keys.keys) × (place < length kept.methods)
      by key place (inl same) e =
          let value : change.value ≡ Some place = sym (ap (λ (b : Bool). cond b change.value (places key)) (eq-eqb change.key key same)) ∙ e in
          (omega (arith, is.known, same), slice_get_within kept.methods place named.method (sym (ap (option_and_then (slice_get kept.methods)) value) ∙ is.value))
      by key place (inr other) e =
          are key place (sym (ap (λ (b : Bool). cond b change.value (places key)) (ne_eqb change.key key other)) ∙ e)

-- one change more puts one method more, behind the others
pub Puts-push : (kept : KeptMethods) (methods : List NamedMethod) (changes : List Change) (named : NamedMethod) (change : Change)
    → Puts kept methods changes → IsChangeFor kept named change → Puts kept (methods ++ named ∷ []) (changes ++ change ∷ [])
Puts-push kept methods changes named change puts is = record {
  found = λ places name.
      ap (option_and_then (slice_get kept.methods)) (changed-append changes (change ∷ []) places (key_of kept name))
      ∙ puts.found (changed (change ∷ []) places) name
      ∙ ap (option_or (method_named name methods)) (found_one kept named change is places name)
      ∙ or_assoc (method_named name methods) (method_named name (named ∷ [])) (method_by kept places name)
      ∙ ap (λ (o : Option Method). option_or o (method_by kept places name)) (sym (method_named-append name methods (named ∷ [])));
  placed = λ places are. λ key place e.
      puts.placed (changed (change ∷ []) places) (placed_one kept named change is places are) key place (sym (changed-append changes (change ∷ []) places key) ∙ e);
}
