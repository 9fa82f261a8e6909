-- What is known of the observers that are left: they hear an event, and their parameters are resolved.
use Rattle.std.proofs.Common.{ℕ, zero, suc, ◌≡◌, ◌∙◌, List, [], ◌∷◌, refl, sym, ap, subst, Some}
use Rattle.std.specs.Prelude.{map, option_map, remove, slice_get}
use Rattle.std.specs.List.{All, AllByRecursion}
use Rattle.std.proofs.lemmas.Option.{get_or_from_slice_get, slice_get-map, slice_get_within, same_Some}
use Rattle.cdi_base.specs.declared.uses.Use.{Use}
use Rattle.cdi_machine.specs.Resolved.{IsResolvedObserver}
use Rattle.cdi_machine.specs.Told.{observer_told}
use Rattle.cdi_machine.specs.declared.member.Observer.{Observer}
use Rattle.cdi_machine.specs.Words.{Name}
use Rattle.cdi_machine.specs.Tables.{Tables}
use Rattle.cdi_steps.specs.Known.{AreKnownObservers, IsKnownObserver, KnownDelivery}
use Rattle.cdi_steps.specs.declared.task.Delivery.{Delivery}

-- ---- lists

-- what holds at each place
each_at : {X : Type 0} (P : X → Type 0) (xs : List X) → ((k : ℕ) (x : X) → slice_get xs k ≡ Some x → P x) → AllByRecursion P xs
each_at P [] h = tt
each_at P (x ∷ xs) h = (h 0 x refl, each_at P xs (λ k y e. h (suc k) y e))

-- and of each item, at a place
all_at : {X : Type 0} (P : X → Type 0) (xs : List X) (k : ℕ) (x : X) → All P xs → slice_get xs k ≡ Some x → P x
all_at P xs k x h e = subst P (get_or_from_slice_get xs k x x e) (h k x (slice_get_within xs k x e))

pub known_at : {X : Type 0} (P : X → Type 0) (xs : List X) (k : ℕ) (x : X) → AllByRecursion P xs → slice_get xs k ≡ Some x → P x
known_at P [] k x h e = absurd (cc)
known_at P (y ∷ ys) zero x h e = subst P (same_Some y x e) h.0
known_at P (y ∷ ys) (suc k) x h e = known_at P ys k x h.1 e

-- without one they are known still
pub known_without : {X : Type 0} (P : X → Type 0) (xs : List X) (k : ℕ) → AllByRecursion P xs → AllByRecursion P (remove xs k)
known_without P [] zero h = tt
known_without P [] (suc k) h = tt
known_without P (x ∷ xs) zero h = h.1
known_without P (x ∷ xs) (suc k) h = (h.0, known_without P xs k h.1)

pub map_remove : {X Y : Type 0} (f : X → Y) (xs : List X) (k : ℕ) → map f (remove xs k) ≡ remove (map f xs) k
map_remove f [] zero = refl
map_remove f [] (suc k) = refl
map_remove f (x ∷ xs) zero = refl
map_remove f (x ∷ xs) (suc k) = ap (λ ys. f x ∷ ys) (map_remove f xs k)

-- ---- observers

module _ (t : Tables) where
  -- a group of those that hear an event
  group_known : (class : Name) (qualifiers : List Use) (k : ℕ) (group : List Observer)
      → slice_get (t.observers class qualifiers) k ≡ Some (map observer_told group) → All (IsResolvedObserver t.resolve) group
      → AreKnownObservers t group
  group_known class qualifiers k group e resolved =
      each_at (IsKnownObserver t) group λ i o at.
      record {
        hears =
            record {
              class = class;
              qualifiers = qualifiers;
              at = k;
              group = map observer_told group;
              place = i;
              grouped = e;
              stands = slice_get-map observer_told group i ∙ ap (option_map observer_told) at;
            };
        resolved = all_at (IsResolvedObserver t.resolve) group i o resolved at;
      }

  -- all that hear it
  pub groups_known : (class : Name) (qualifiers : List Use) (groups : List (List Observer))
      → map (map observer_told) groups ≡ t.observers class qualifiers → All (All (IsResolvedObserver t.resolve)) groups
      → AllByRecursion (AreKnownObservers t) groups
  groups_known class qualifiers groups heard resolved =
      each_at (AreKnownObservers t) groups λ k group at.
      group_known class qualifiers k group
      (ap (λ gs. slice_get gs k) (sym heard) ∙ slice_get-map (map observer_told) groups k ∙ ap (option_map (map observer_told)) at)
      (all_at (All (IsResolvedObserver t.resolve)) groups k group resolved at)

  -- a delivery to one of a group
  pub delivery_known : (observers : List Observer) (k : ℕ) (d : Delivery) → AreKnownObservers t observers
      → slice_get observers k ≡ Some d.observer → d.others.observers ≡ remove observers k → KnownDelivery t d
  delivery_known observers k d h at without =
      record {
        observer = known_at (IsKnownObserver t) observers k d.observer h at;
        others = subst (AreKnownObservers t) (sym without) (known_without (IsKnownObserver t) observers k h);
      }
