-- Sets of claims, and one claim more.
use Rattle.std.proofs.Common.{◌≡◌, ◌∙◌, ℕ, ◌+◌, ◌<◌, length, take, get_or, Option, Some, None, option_to_list, ◌||◌, ◌&&◌, Bool, true, false, cond, nat_eq, List, [], ◌∷◌, ◌++◌, Decides, refl, sym, ap, subst, true≢false}
use Rattle.std.proofs.lemmas.Bool.{eqb-true}
use Rattle.std.proofs.lemmas.Bool.Decides.{same_from_decides, Decides-eqb}
use Rattle.std.proofs.lemmas.List.{take_more}
use Rattle.std.proofs.lemmas.List.Elements.{filter_map-append}
use Rattle.std.proofs.lemmas.List.Folds.{list_any-append}
use Rattle.std.specs.List.{list_any, filter_map, cons_option}
use Rattle.cdi_name_check.specs.Claims.{same_claim, has, HasClaims, AddsClaims}
use Rattle.cdi_name_check.specs.declared.claim.Claim.{Claim}
use Rattle.cdi_name_check.specs.declared.claim.Claim.TheVariants as claims
use Rattle.cdi_name_check.specs.declared.claims.Claims.{Claims}

same_number : (a : ℕ) → nat_eq a a ≡ true
same_number a = (Decides-eqb a a).1 refl

pub both : (a b : Bool) → (a && b) ≡ true → (a ≡ true) × (b ≡ true)
both true b e = (refl, e)
both false b e = absurd (true≢false (sym e))

-- equal claims are the same
same_claim-true : (a b : Claim) → same_claim a b ≡ true → a ≡ b
same_claim-true (claims.Type a) (claims.Type b) e = ap claims.Type (eqb-true a b e)
same_claim-true (claims.Qualifier a) (claims.Qualifier b) e = ap claims.Qualifier (eqb-true a b e)
same_claim-true (claims.Binding a) (claims.Binding b) e = ap claims.Binding (eqb-true a b e)
same_claim-true (claims.Exception a) (claims.Exception b) e = ap claims.Exception (eqb-true a b e)
same_claim-true (claims.Script a) (claims.Script b) e = ap claims.Script (eqb-true a b e)
same_claim-true (claims.SelectedName a) (claims.SelectedName b) e = ap claims.SelectedName (eqb-true a b e)
same_claim-true (claims.OrderedName a) (claims.OrderedName b) e = ap claims.OrderedName (eqb-true a b e)
same_claim-true (claims.ClassPart i a) (claims.ClassPart j b) e =
    let h = both (nat_eq i j) (nat_eq a b) e in
    ap (λ k. claims.ClassPart k a) (eqb-true i j h.0) ∙ ap (claims.ClassPart j) (eqb-true a b h.1)
same_claim-true (claims.InterceptorPart i a) (claims.InterceptorPart j b) e =
    let h = both (nat_eq i j) (nat_eq a b) e in
    ap (λ k. claims.InterceptorPart k a) (eqb-true i j h.0) ∙ ap (claims.InterceptorPart j) (eqb-true a b h.1)
same_claim-true (claims.PostConstruct i) (claims.PostConstruct j) e = ap claims.PostConstruct (eqb-true i j e)
same_claim-true (claims.PreDestroy i) (claims.PreDestroy j) e = ap claims.PreDestroy (eqb-true i j e)
same_claim-true _ _ e = absurd (true≢false (sym e))

-- a claim is equal to itself
same_claim-itself : (a : Claim) → same_claim a a ≡ true
same_claim-itself (claims.Type a) = same_number a
same_claim-itself (claims.Qualifier a) = same_number a
same_claim-itself (claims.Binding a) = same_number a
same_claim-itself (claims.Exception a) = same_number a
same_claim-itself (claims.Script a) = same_number a
same_claim-itself (claims.SelectedName a) = same_number a
same_claim-itself (claims.OrderedName a) = same_number a
same_claim-itself (claims.ClassPart i a) = ap (λ t. t && nat_eq a a) (same_number i) ∙ same_number a
same_claim-itself (claims.InterceptorPart i a) = ap (λ t. t && nat_eq a a) (same_number i) ∙ same_number a
same_claim-itself (claims.PostConstruct i) = same_number i
same_claim-itself (claims.PreDestroy i) = same_number i

pub Decides-same_claim : (a b : Claim) → Decides (same_claim a b) (a ≡ b)
Decides-same_claim a b = (same_claim-true a b, λ e. let P : Claim → Type 0 = λ c. same_claim a c ≡ true in subst P e (same_claim-itself a))

turned : (a b : Claim) → same_claim a b ≡ same_claim b a
turned a b =
    let h = Decides-same_claim b a in
    same_from_decides _ _ (Decides-same_claim a b) (λ e. sym (h.0 e), λ e. h.1 (sym e))

or_last : (a b : Bool) → cond a true b ≡ (b || (a || false))
or_last true true = refl
or_last true false = refl
or_last false true = refl
or_last false false = refl

-- the test of a set that has one claim more
pub one_more : (claim other : Claim) (there : Bool) → cond (same_claim claim other) true there ≡ (there || list_any (same_claim other) (claim ∷ []))
one_more claim other there =
    or_last (same_claim claim other) there ∙ ap (λ t. there || (t || false)) (turned claim other)

or_assoc : (a b c : Bool) → ((a || b) || c) ≡ (a || (b || c))
or_assoc true b c = refl
or_assoc false b c = refl

-- the claims of two lists, added one after the other
pub adds_both : (xs ys zs : List Claim) (old middle new : Claims) → xs ++ ys ≡ zs → AddsClaims xs old middle → AddsClaims ys middle new → AddsClaims zs old new
adds_both xs ys zs old middle new is first second = record {
  same = λ q.
      second.same q ∙ ap (λ t. t || list_any (same_claim q) ys) (first.same q)
      ∙ or_assoc (has old q) (list_any (same_claim q) xs) (list_any (same_claim q) ys)
      ∙ ap (λ t. has old q || t) (sym (list_any-append (same_claim q) xs ys) ∙ ap (list_any (same_claim q)) is);
}

-- a set that has the claims of a list, and is added to
pub has_more : (xs ys zs : List Claim) (old new : Claims) → xs ++ ys ≡ zs → HasClaims xs old → AddsClaims ys old new → HasClaims zs new
has_more xs ys zs old new is first second = record {
  same = λ q.
      second.same q ∙ ap (λ t. t || list_any (same_claim q) ys) (first.same q)
      ∙ sym (list_any-append (same_claim q) xs ys) ∙ ap (list_any (same_claim q)) is;
}

pub has_none : (claims : Claims) → claims.set.keys ≡ [] → HasClaims [] claims
has_none claims e = record { same = λ q. ap (list_any (same_claim q)) e }

one_claim : (o : Option Claim) → cons_option o [] ≡ option_to_list o
one_claim None = refl
one_claim (Some claim) = refl

-- a loop over the built-in names reads the next one
pub next_claim : {X : Type 0} (f : X → Option Claim) (xs : List X) (i : ℕ) (d : X) → i < length xs → filter_map f (take i xs) ++ option_to_list (f (get_or xs i d)) ≡ filter_map f (take (i + 1) xs)
next_claim f xs i d lt =
    ap (λ ys. filter_map f (take i xs) ++ ys) (sym (one_claim (f (get_or xs i d))))
    ∙ sym (filter_map-append f (take i xs) (get_or xs i d ∷ []))
    ∙ ap (filter_map f) (sym (take_more xs i d lt))
