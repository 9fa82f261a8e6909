-- Duplicate names, and one element more that is looked at.
use Rattle.std.proofs.Common.{◌≡◌, ◌∙◌, ℕ, ◌+◌, ◌<◌, ◌||◌, Bool, true, false, List, [], ◌∷◌, ◌++◌, length, take, get_or, refl, sym, ap, subst, true≢false, append_assoc, inl, inr, arith}
use Rattle.std.proofs.lemmas.List.{take_more, map_push, flat_map_more, append-nil}
use Rattle.std.proofs.lemmas.List.Elements.{Contains-append_right}
use Rattle.std.proofs.lemmas.Map.Made.{is_member-Decides}
use Rattle.std.specs.List.{Contains, list_any}
use Rattle.cdi_name_check.specs.Claims.{has, HasClaims, AddsClaims}
use Rattle.cdi_name_check.specs.DuplicateName.{claims_of, claims_after, built_in_claims, HasDuplicateName, ListDuplicates}
use Rattle.cdi_name_check.specs.declared.claims.Claims.{Claims}
use Rattle.cdi_name_check.proofs.ClaimSets.{Decides-same_claim, has_more}
use Rattle.cdi_base.specs.declared.place.Place.{Place}
use Rattle.cdi_problems.specs.Elements.{Element, element_of, place_of, shown}
use Rattle.cdi_problems.specs.declared.element.Element.{Element as Lent}
use Rattle.cdi_problems.specs.Findings.{Placed, placed_after, placed}
use Rattle.cdi_types.specs.ListsThose.{ListsThose}
use Rattle.cdi_types.proofs.Listings.{keep_last, skip_last}
use Rattle.cdi_types.proofs.Listed.{not_in_none, first_or_later}

-- a loop over the elements reads the next one
pub next_shown : (es : List Lent) (i : ℕ) (e : Lent) → i < length es → e ≡ get_or es i e → shown (take i es) ++ element_of e ∷ [] ≡ shown (take (i + 1) es)
next_shown es i e lt is = sym (map_push element_of (take i es) e) ∙ ap (λ z. shown (take i es ++ z ∷ [])) is ∙ ap shown (sym (take_more es i e lt))

placed_after-push : (before es : List Element) (e : Element) → placed_after before (es ++ e ∷ []) ≡ placed_after before es ++ (record { before = before ++ es; element = e }) ∷ []
placed_after-push before [] e = ap (λ b. (record { before = b; element = e }) ∷ []) (sym (append-nil before))
placed_after-push before (x ∷ xs) e =
    ap (λ ps. (record { before = before; element = x }) ∷ ps) (
    placed_after-push (before ++ x ∷ []) xs e
    ∙ ap (λ b. placed_after (before ++ x ∷ []) xs ++ (record { before = b; element = e }) ∷ []) (append_assoc before (x ∷ []) xs)
    )

pub any_found : {X : Type 0} (p : X → Bool) (xs : List X) → list_any p xs ≡ true → (x : X) × Contains xs x × (p x ≡ true)
any_found p [] e = absurd (true≢false (sym e))
any_found p (y ∷ ys) e = by (any_found p ys) (p y) refl e
  where
    by : (list_any p ys ≡ true → (x : _) × Contains ys x × (p x ≡ true)) → (b : Bool) → p y ≡ b → (b || list_any p ys) ≡ true → (x : _) × Contains (y ∷ ys) x × (p x ≡ true)
    by rest true is h = (y, (0, omega arith, refl), is)
    by rest false is h = let r = rest h in (r.0, Contains-append_right (y ∷ []) ys r.0 r.1, r.2)

pub found_any : {X : Type 0} (p : X → Bool) (xs : List X) (x : X) → Contains xs x → p x ≡ true → list_any p xs ≡ true
found_any p [] x at is = absurd (not_in_none [] x refl at)
found_any p (y ∷ ys) x at is =
    elim (first_or_later y ys x at) [
      | inl same ↦ ap (λ t. t || list_any p ys) (ap p same ∙ is)
      | inr later ↦ by (p y) (found_any p ys x later is)
    ]
  where
    by : (b : Bool) → list_any p ys ≡ true → (b || list_any p ys) ≡ true
    by true h = refl
    by false h = h

module _ (before : List Element) (e : Element) (claims : Claims) (claimed : HasClaims (claims_after before) claims) where
  here : Placed
  here = record { before = before; element = e }

  pub is_duplicate : list_any (has claims) (claims_of e) ≡ true → HasDuplicateName (record { before = before; element = e })
  is_duplicate again =
      let found = any_found (has claims) (claims_of e) again in
      record {
        claim = found.0;
        claimed = found.1;
        earlier = (is_member-Decides Decides-same_claim (claims_after before) found.0).0 (sym (claimed.same found.0) ∙ found.2);
      }

  pub is_none : list_any (has claims) (claims_of e) ≡ false → HasDuplicateName (record { before = before; element = e }) → ⊥
  is_none new d =
      true≢false (sym (found_any (has claims) (claims_of e) d.claim d.claimed (claimed.same d.claim ∙ (is_member-Decides Decides-same_claim (claims_after before) d.claim).1 d.earlier)) ∙ new)

  pub claimed_more : (after : Claims) → AddsClaims (claims_of e) claims after → HasClaims (claims_after (before ++ e ∷ [])) after
  claimed_more after added = has_more (claims_after before) (claims_of e) _ claims after (flat_map_more claims_of built_in_claims before e) claimed added

module _ (es : List Element) (e : Element) (found : List Place) (listed : ListDuplicates es found) where
  last : placed (es ++ e ∷ []) ≡ placed es ++ (record { before = es; element = e }) ∷ []
  last = placed_after-push [] es e

  pub keep_duplicate : HasDuplicateName (record { before = es; element = e }) → ListDuplicates (es ++ e ∷ []) (found ++ place_of e ∷ [])
  keep_duplicate d = record {
    those = listed.those ++ (record { before = es; element = e }) ∷ [];
    listed = let P : List Placed → Type 0 = λ xs. ListsThose HasDuplicateName xs (listed.those ++ (record { before = es; element = e }) ∷ []) in subst P (sym last) (keep_last _ listed.listed d);
    are = ap (λ ps. ps ++ place_of e ∷ []) listed.are ∙ sym (map_push (λ p. place_of p.element) listed.those _);
  }

  pub skip_duplicate : (HasDuplicateName (record { before = es; element = e }) → ⊥) → ListDuplicates (es ++ e ∷ []) found
  skip_duplicate none = record {
    those = listed.those;
    listed = let P : List Placed → Type 0 = λ xs. ListsThose HasDuplicateName xs listed.those in subst P (sym last) (skip_last _ listed.listed none);
    are = listed.are;
  }
