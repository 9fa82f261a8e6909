-- What is looked for among members of one kind alone.
use Rattle.std.proofs.Common.{◌≡◌, ◌∙◌, ◌++◌, Bool, true, false, cond, List, [], ◌∷◌, filter, length, count_by, Option, None, refl, sym, ap}
use Rattle.std.proofs.lemmas.List.Sums.{length-filter}
use Rattle.std.specs.List.{cons_option, filter_map, flat_map}
use Rattle.cdi_deployment.specs.declared.deployment.Class.{Class}
use Rattle.cdi_deployment.specs.declared.deployment.Member.{Member}
use Rattle.cdi_types.specs.Kinds.{has_kind, of_kind}
use Rattle.cdi_types.specs.declared.kind.MemberKind.{MemberKind}

module _ (kind : MemberKind) where
  -- what only members of the kind give
  pub filter_map-of_kind : {Y : Type 0} (h : Class × Member → Option Y) → ((p : Class × Member) → has_kind kind p.1 ≡ false → h p ≡ None)
      → (ps : List (Class × Member)) → filter_map h (of_kind kind ps) ≡ filter_map h ps
  filter_map-of_kind h others [] = refl
  filter_map-of_kind h others (p ∷ ps) = by (filter_map-of_kind h others ps) (has_kind kind p.1) refl
    where
      by : filter_map h (of_kind kind ps) ≡ filter_map h ps → (k : Bool) → has_kind kind p.1 ≡ k
          → filter_map h (cond k (p ∷ of_kind kind ps) (of_kind kind ps)) ≡ cons_option (h p) (filter_map h ps)
      by rest true e = ap (cons_option (h p)) rest
      by rest false e = rest ∙ sym (ap (λ o. cons_option o (filter_map h ps)) (others p e))

  pub flat_map-of_kind : {Y : Type 0} (h : Class × Member → List Y) → ((p : Class × Member) → has_kind kind p.1 ≡ false → h p ≡ [])
      → (ps : List (Class × Member)) → flat_map h (of_kind kind ps) ≡ flat_map h ps
  flat_map-of_kind h others [] = refl
  flat_map-of_kind h others (p ∷ ps) = by (flat_map-of_kind h others ps) (has_kind kind p.1) refl
    where
      by : flat_map h (of_kind kind ps) ≡ flat_map h ps → (k : Bool) → has_kind kind p.1 ≡ k
          → flat_map h (cond k (p ∷ of_kind kind ps) (of_kind kind ps)) ≡ h p ++ flat_map h ps
      by rest true e = ap (λ ys. h p ++ ys) rest
      by rest false e = rest ∙ sym (ap (λ ys. ys ++ flat_map h ps) (others p e))

  same_test : (test : Class × Member → Bool) → ((p : Class × Member) → has_kind kind p.1 ≡ test p) → (ps : List (Class × Member)) → of_kind kind ps ≡ filter test ps
  same_test test same [] = refl
  same_test test same (p ∷ ps) =
      ap (λ b. cond b (p ∷ of_kind kind ps) (of_kind kind ps)) (same p) ∙ ap (λ qs. cond (test p) (p ∷ qs) qs) (same_test test same ps)

  -- their number
  pub count-of_kind : (test : Class × Member → Bool) → ((p : Class × Member) → has_kind kind p.1 ≡ test p) → (ps : List (Class × Member)) → length (of_kind kind ps) ≡ count_by test ps
  count-of_kind test same ps = ap length (same_test test same ps) ∙ length-filter test ps
