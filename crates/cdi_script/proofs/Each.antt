-- A loop over items reads as `each` does.
use Rattle.std.proofs.Common.{◌≡◌, ℕ, List, [], ◌∷◌, ◌++◌, Ok, Err, refl, sym, ap, ◌∙◌, append_assoc, append-nil}
use Rattle.serde_json.specs.Data.{Data, Items, no_items, item}
use Rattle.cdi_base.specs.declared.or_memory.OrMemory.{OrMemory}
use Rattle.cdi_base.specs.declared.or_memory.OrMemory.TheVariants as errors
use Rattle.cdi_base.specs.Reading.{◌>>=◌, Fails}
use Rattle.cdi_script.specs.declared.fault.ScriptFault.{ScriptFault}
use Rattle.cdi_script.specs.Reading.{Reads, each}

module _ {X : Type 0} where
  abbrev pub with_front : List X → Reads (List X) → Reads (List X)
  with_front front (Ok p) = Ok (front ++ p.0, p.1)
  with_front front (Err e) = Err e

  regroup : (front : List X) (x : X) (r : Reads (List X)) → with_front front (r >>= λ o. Ok (x ∷ o.0, o.1)) ≡ with_front (front ++ x ∷ []) r
  regroup front x (Ok p) = ap (λ (xs : List X). Ok (xs, p.1)) (sym (append_assoc front (x ∷ []) p.0))
  regroup front x (Err e) = refl

  module _ (form : List (List ℕ) → Data → Reads X) where
    pub starts : (names : List (List ℕ)) (ds : Items) → with_front [] (each form names ds) ≡ each form names ds
    starts names ds = by (each form names ds)
      where
        by : (r : Reads (List X)) → with_front [] r ≡ r
        by (Ok p) = refl
        by (Err e) = refl

    pub goes_on : (front : List X) (names after : List (List ℕ)) (d : Data) (x : X) (ds : Items) (total : Reads (List X)) → form names d ≡ Ok (x, after)
        → with_front front (each form names (item d ds)) ≡ total → with_front (front ++ x ∷ []) (each form after ds) ≡ total
    goes_on front names after d x ds total read so_far =
        let one : with_front front (each form names (item d ds)) ≡ with_front (front ++ x ∷ []) (each form after ds) =
        ap (λ (r : Reads X). with_front front (r >>= λ f. each form f.1 ds >>= λ o. Ok (f.0 ∷ o.0, o.1))) read ∙ regroup front x (each form after ds) in
        sym one ∙ so_far

    pub ends : (e : OrMemory ScriptFault) (front : List X) (names : List (List ℕ)) (d : Data) (ds : Items) (total : Reads (List X)) → Fails e (form names d)
        → with_front front (each form names (item d ds)) ≡ total → Fails e total
    ends errors.Memory front names d ds total h so_far = tt
    ends (errors.Fault f) front names d ds total h so_far =
        sym so_far ∙ ap (λ (r : Reads X). with_front front (r >>= λ p. each form p.1 ds >>= λ o. Ok (p.0 ∷ o.0, o.1))) h

    pub is_done : (front : List X) (names : List (List ℕ)) (total : Reads (List X)) → with_front front (each form names no_items) ≡ total → total ≡ Ok (front, names)
    is_done front names total so_far = sym so_far ∙ ap (λ (xs : List X). Ok (xs, names)) (append-nil front)
