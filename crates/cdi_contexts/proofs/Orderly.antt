-- What is apart has slots and names of its own.
use Rattle.std.proofs.Common.{◌≡◌, ◌∙◌, ℕ, refl, ap, sym, List, [], ◌∷◌, map, Bool, false, None, Option, option_map, nat_eq}
use Rattle.std.specs.List.{AllByRecursion, IsDistinct}
use Rattle.std.proofs.lemmas.List.{length-map}
use Rattle.cdi_base.specs.Maps.{Map, at}
use Rattle.cdi_contexts.specs.declared.group.Kept.{Kept}
use Rattle.cdi_contexts.specs.Contexts.{Active}
use Rattle.cdi_contexts.specs.Group.{kept_named, outline, request_of, session_of, standing, AreApart}
use Rattle.cdi_contexts.specs.Named.{named, HaveOwnNames}
use Rattle.cdi_contexts.specs.Standing.{IsOrderly}
use Rattle.cdi_contexts.proofs.ByName.{named_seen}
use Rattle.cdi_store.proofs.Absent.{nothing}
use Rattle.cdi_contexts.proofs.Slots.{named-outline, past}

module _ {D : Type 0} where
  others : (m : Map (Kept D)) (k : ℕ) → at (outline m) k ≡ None → AllByRecursion (λ j. nat_eq k j ≡ false) (map (λ p. p.0) m)
  others [] k h = tt
  others (p ∷ more) k h = let i = past (nat_eq k p.0) p.1.name (at (outline more) k) h in (i.0, others more k i.1)

  own_slots : (m : Map (Kept D)) → AreApart (outline m) → IsDistinct nat_eq (map (λ p. p.0) m)
  unfolding IsDistinct
  own_slots [] h = tt
  own_slots (p ∷ more) h = (others more p.0 h.0, own_slots more h.2)

  own_names : {Y : Type 0} (view : Kept D → Y) (name_of : Y → List ℕ) → ((k : Kept D) → name_of (view k) ≡ k.name) → (m : Map (Kept D)) → AreApart (outline m) → HaveOwnNames name_of (map (λ p. view p.1) m)
  own_names view name_of names [] h = tt
  own_names view name_of names (p ∷ more) h =
      let none : kept_named more p.1.name ≡ None = nothing (λ q. (q.0, q.1.name)) _ (sym (named-outline more p.1.name) ∙ h.1) in (
        ap (named name_of (map (λ p. view p.1) more)) (names p.1) ∙ named_seen view name_of names more p.1.name ∙ ap (option_map (λ p. view p.1)) none,
        own_names view name_of names more h.2,
      )

pub orderly : (a : Option Active) (m : Map (Kept (Option (List ℕ)))) (n : Map (Kept Bool)) → AreApart (outline m) → AreApart (outline n) → IsOrderly (standing a m n)
orderly a m n h i = record {
  request_slots = own_slots m h;
  session_slots = own_slots n i;
  request_names = own_names request_of (λ r. r.name) (λ k. refl) m h;
  session_names = own_names session_of (λ s. s.name) (λ k. refl) n i;
  requests = length-map m (λ p. p.0) ∙ sym (length-map m (λ p. request_of p.1));
  sessions = length-map n (λ p. p.0) ∙ sym (length-map n (λ p. session_of p.1));
}

-- the names in their order
pub names_seen : {D Y : Type 0} (view : Kept D → Y) (name_of : Y → List ℕ) → ((k : Kept D) → name_of (view k) ≡ k.name) → (m : Map (Kept D)) → map (λ p. p.1.name) m ≡ map name_of (map (λ p. view p.1) m)
names_seen view name_of names [] = refl
names_seen view name_of names (p ∷ more) = λ i. sym (names p.1) i ∷ names_seen view name_of names more i
