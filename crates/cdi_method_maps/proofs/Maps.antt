-- Maps that stay, and one that comes.
use Rattle.std.proofs.Common.{◌≡◌, ◌∙◌, ℕ, ◌+◌, ◌<◌, ◌≤◌, cond, List, [], ◌++◌, Option, Some, None, Result, Ok, Err, option_and_then, slice_get, get_or, sym, ap, ◌⊎◌, inl, inr, arith}
use Rattle.std.specs.Option.{option_or}
use Rattle.std.specs.Result.{IfOk, OnOk, OnErr}
use Rattle.std.specs.declared.alloc.AllocError.{AllocError}
use Rattle.std.proofs.lemmas.List.{get_or_past}
use Rattle.std.proofs.lemmas.Bool.{cases_lt, cases_order}
use Rattle.cdi_machine.specs.declared.member.Method.{Method}
use Rattle.cdi_shared_maps.specs.declared.change.Change.{Change}
use Rattle.cdi_shared_maps.specs.Maps.{Maps, count, value_in, value_from, changed}
use Rattle.cdi_method_maps.specs.declared.named_method.NamedMethod.{NamedMethod}
use Rattle.cdi_method_maps.specs.declared.kept_methods.KeptMethods.{KeptMethods}
use Rattle.cdi_method_maps.specs.declared.method_maps.MethodMaps.{MethodMaps}
use Rattle.cdi_method_maps.specs.NamedMethods.{method_named, is_among}
use Rattle.cdi_method_maps.specs.KeptMethods.{key_of, method_by, ArePlaces, Grows, Puts, hidden_changes}
use Rattle.cdi_method_maps.specs.MethodMaps.{KeepsMaps}
use Rattle.cdi_method_maps.proofs.Growth.{ArePlaces-grown, method_by-grown}
use Rattle.cdi_method_maps.proofs.HiddenChanges.{method_by-hidden, ArePlaces-hidden}
use Rattle.cdi_method_maps.proofs.Puts.{changed-append}

-- the places of an origin
pub ArePlaces-from : (kept : KeptMethods) (maps : Maps) (origin : Option ℕ) → ((map : ℕ) → ArePlaces kept (value_in maps map)) → ArePlaces kept (value_from maps origin)
ArePlaces-from kept maps None are = λ key place e. absurd cc
ArePlaces-from kept maps (Some map) are = are map

-- a map that is not there has nothing
value_in-past : (maps : Maps) (map key : ℕ) → count maps ≤ map → value_in maps map key ≡ None
value_in-past maps map key ge = ap (λ (m : List (Option ℕ)). get_or m key None) (get_or_past maps map [] ge)

module _ (old new : KeptMethods) (before after : Maps) (grows : Grows old new) (are : (map : ℕ) → ArePlaces old (value_in before map))
    (same : (map key : ℕ) → map < count before → value_in after map key ≡ value_in before map key) where
  there : (map : ℕ) → map < count before → ArePlaces new (value_in after map)
  there map lt = λ key place e. ArePlaces-grown old new (value_in before map) grows (are map) key place (sym (same map key lt) ∙ e)

  past : (map : ℕ) → count after ≤ map → ArePlaces new (value_in after map)
  past map ge = λ key place e. absurd (none (sym (value_in-past after map key ge) ∙ e))
    where
      none : {place : ℕ} → None ≡ Some place → ⊥
      none e = cc

  -- places after no map came
  pub ArePlaces-kept : count after ≡ count before → (map : ℕ) → ArePlaces new (value_in after map)
  ArePlaces-kept e map = by (cases_lt map (count before))
    where
      by : (map < count before) ⊎ (count before ≤ map) → ArePlaces new (value_in after map)
      by (inl lt) = there map lt
      by (inr ge) = past map (omega (arith, ge, e))

  -- places after one came
  pub ArePlaces-added : count after ≡ 1 + count before → ArePlaces new (value_in after (count before)) → (map : ℕ) → ArePlaces new (value_in after map)
  ArePlaces-added e added map = by (cases_order map (count before))
    where
      by : (map ≡ count before) ⊎ ((map < count before) ⊎ (count before < map)) → ArePlaces new (value_in after map)
      by (inl is) = λ key place at. added key place (ap (λ (m : ℕ). value_in after m key) (sym is) ∙ at)
      by (inr (inl lt)) = there map lt
      by (inr (inr gt)) = past map (omega (arith, gt, e))

  -- places after a map was to come, by its places
  pub ArePlaces-add : (r : Result ℕ AllocError) (made : ℕ → Option ℕ) → ArePlaces new made → IfOk r (λ map. map ≡ count before) → OnOk r (count after ≡ 1 + count before)
      → IfOk r (λ map. (key : ℕ) → value_in after map key ≡ made key) → OnErr r (count after ≡ count before) → (map : ℕ) → ArePlaces new (value_in after map)
  ArePlaces-add (Ok n) made placed number more values none =
      ArePlaces-added more (λ key place e. placed key place (sym (values key) ∙ ap (λ (m : ℕ). value_in after m key) number ∙ e))
  ArePlaces-add (Err e) made placed number more values none = ArePlaces-kept none

-- no map is lost when one was to come
pub count-add : (r : Result ℕ AllocError) (before after : Maps) → OnOk r (count after ≡ 1 + count before) → OnErr r (count after ≡ count before) → count before ≤ count after
count-add (Ok n) before after more none = omega (arith, more)
count-add (Err e) before after more none = omega (arith, none)

-- the methods of the map that comes, by its places
pub methods-add : (r : Result ℕ AllocError) (kept : KeptMethods) (after : Maps) (made : ℕ → Option ℕ) (wanted : ℕ → Option Method)
    → IfOk r (λ map. (key : ℕ) → value_in after map key ≡ made key) → ((name : ℕ) → method_by kept made name ≡ wanted name)
    → IfOk r (λ map. (name : ℕ) → method_by kept (value_in after map) name ≡ wanted name)
methods-add (Ok n) kept after made wanted values same = λ name. ap (option_and_then (slice_get kept.methods)) (values (key_of kept name)) ∙ same name
methods-add (Err e) kept after made wanted values same = tt

module _ (kept : KeptMethods) (methods : List NamedMethod) (hidden : List ℕ) (own changes : List Change) (places : ℕ → Option ℕ)
    (puts : Puts kept methods own) (is : changes ≡ own ++ hidden_changes kept hidden) (are : ArePlaces kept places) where
  parted : (key : ℕ) → changed changes places key ≡ changed own (changed (hidden_changes kept hidden) places) key
  parted key = ap (λ (cs : List Change). changed cs places key) is ∙ changed-append own (hidden_changes kept hidden) places key

  -- places stay places after methods were hidden and then put
  pub ArePlaces-made : ArePlaces kept (changed changes places)
  ArePlaces-made = λ key place e. puts.placed (changed (hidden_changes kept hidden) places) (ArePlaces-hidden kept places are hidden) key place (sym (parted key) ∙ e)

  -- the method of a name then
  pub method_by-made : (name : ℕ) → method_by kept (changed changes places) name ≡ option_or (method_named name methods) (cond (is_among name hidden) None (method_by kept places name))
  method_by-made name =
      ap (option_and_then (slice_get kept.methods)) (parted (key_of kept name))
      ∙ puts.found (changed (hidden_changes kept hidden) places) name
      ∙ ap (option_or (method_named name methods)) (method_by-hidden kept places are hidden name)

-- the maps that were there stay, when names, methods and maps come
pub KeepsMaps-grown : (old new : MethodMaps) → Grows old.kept new.kept → count old.maps ≤ count new.maps
    → ((map key : ℕ) → map < count old.maps → value_in new.maps map key ≡ value_in old.maps map key) → KeepsMaps old new
KeepsMaps-grown old new grows more same = record {
  maps = λ map lt. omega (arith, lt, more);
  methods = λ map name lt.
      ap (option_and_then (slice_get new.kept.methods)) (same map (key_of new.kept name) lt)
      ∙ method_by-grown old.kept new.kept (value_in old.maps map) name grows (old.places map);
}
