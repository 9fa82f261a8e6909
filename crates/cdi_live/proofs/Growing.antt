-- A list that grows by what belongs to one item of another list more.
use Rattle.std.proofs.Common.{◌≡◌, ◌∙◌, ℕ, ◌+◌, ◌<◌, Bool, filter, List, [], ◌∷◌, ◌++◌, length, take, get_or, map, Option, ap, sym, append_assoc}
use Rattle.std.proofs.lemmas.Grind.{flat_map-append}
use Rattle.std.proofs.lemmas.List.{map-append}
use Rattle.std.proofs.lemmas.List.Elements.{filter-append, filter_map-append}
use Rattle.std.specs.List.{filter_map, flat_map}
use Rattle.cdi_beans.proofs.Adding.{next_of}

module _ {X Y : Type 0} (g : List X → List Y) (splits : (a b : List X) → g (a ++ b) ≡ g a ++ g b) (xs : List X) (i : ℕ) (x : X) (lt : i < length xs) (is : x ≡ get_or xs i x) (start old new : List Y) where
  pub grows : old ≡ start ++ g (take i xs) → new ≡ old ++ g (x ∷ []) → new ≡ start ++ g (take (i + 1) xs)
  grows was now =
      now ∙ ap (λ ys. ys ++ g (x ∷ [])) was ∙ append_assoc start (g (take i xs)) (g (x ∷ [])) ∙ ap (λ ys. start ++ ys) (next_of g splits xs i x lt is)

module _ {X Y Z : Type 0} (f : Y → Option Z) where
  pub mapped : (h : X → Y) (a b : List X) → filter_map f (map h (a ++ b)) ≡ filter_map f (map h a) ++ filter_map f (map h b)
  mapped h a b = ap (filter_map f) (map-append h a b) ∙ filter_map-append f (map h a) (map h b)

  pub flat_mapped : (h : X → List Y) (a b : List X) → filter_map f (flat_map h (a ++ b)) ≡ filter_map f (flat_map h a) ++ filter_map f (flat_map h b)
  flat_mapped h a b = ap (filter_map f) (flat_map-append h a b) ∙ filter_map-append f (flat_map h a) (flat_map h b)

  pub filter_flat_mapped : (h : X → List Y) (p : X → Bool) (a b : List X) → filter_map f (flat_map h (filter p (a ++ b))) ≡ filter_map f (flat_map h (filter p a)) ++ filter_map f (flat_map h (filter p b))
  filter_flat_mapped h p a b = ap (λ xs. filter_map f (flat_map h xs)) (filter-append p a b) ∙ flat_mapped h (filter p a) (filter p b)

-- what belongs to one list, and then what belongs to another
pub joined : {Y Z : Type 0} (f : Y → Option Z) (a b : List Y) (old mid new : List Z) → mid ≡ old ++ filter_map f a → new ≡ mid ++ filter_map f b → new ≡ old ++ filter_map f (a ++ b)
joined f a b old mid new was now =
    now ∙ ap (λ zs. zs ++ filter_map f b) was ∙ append_assoc old (filter_map f a) (filter_map f b) ∙ ap (λ zs. old ++ zs) (sym (filter_map-append f a b))
