-- Sets of names, and one item more that is looked at.
use Rattle.std.proofs.Common.{◌≡◌, ◌∙◌, ℕ, ◌+◌, ◌<◌, ◌==◌, ◌||◌, ◌&&◌, Bool, true, false, cond, nat_eq, List, [], ◌∷◌, ◌++◌, length, take, get_or, refl, sym, ap}
use Rattle.std.proofs.lemmas.List.{take_more}
use Rattle.std.proofs.lemmas.List.Folds.{list_any-append}
use Rattle.std.specs.HashSet.{HashSet, contains}
use Rattle.std.specs.List.{list_any}
use Rattle.cdi_deployment.specs.declared.deployment.AnnotationType.{AnnotationType}
use Rattle.cdi_name_check.specs.NameSets.{HasNames, HasPairs, same_pair}
use Rattle.cdi_name_check.specs.UnknownName.{has_member}
use Rattle.cdi_deployment.specs.Lists.{stands_in}

or_last : (a b : Bool) → (b || (a || false)) ≡ cond a true b
or_last true true = refl
or_last true false = refl
or_last false true = refl
or_last false false = refl

or_none : (b : Bool) → (b || (false || false)) ≡ b
or_none true = refl
or_none false = refl

or_nothing : (b : Bool) → (b || false) ≡ b
or_nothing true = refl
or_nothing false = refl

pub and_all : (a b : Bool) → b ≡ true → (a && b) ≡ a
and_all true b e = e
and_all false b e = refl

pub and_none : (a b : Bool) → b ≡ false → (a && b) ≡ false
and_none true b e = e
and_none false b e = refl

-- a test for some item, with the next item
any_next : {X : Type 0} (p : X → Bool) (xs : List X) (i : ℕ) (x : X) → i < length xs → x ≡ get_or xs i x → list_any p (take (i + 1) xs) ≡ (list_any p (take i xs) || (p x || false))
any_next p xs i x lt is = ap (list_any p) (take_more xs i x lt ∙ ap (λ y. take i xs ++ y ∷ []) (sym is)) ∙ list_any-append p (take i xs) (x ∷ [])

module _ {X S : Type 0} (test : X → ℕ → Bool) (xs : List X) (i : ℕ) (x : X) (lt : i < length xs) (is : x ≡ get_or xs i x) (set : HashSet ℕ S) (so_far : HasNames (λ q. list_any (λ y. test y q) (take i xs)) set) where
  -- the set that has the next item's name, too
  pub one_taken : (name : ℕ) (larger : HashSet ℕ S) → ((q : ℕ) → test x q ≡ nat_eq name q) → ((q : ℕ) → contains nat_eq larger q ≡ cond (nat_eq name q) true (contains nat_eq set q)) → HasNames (λ q. list_any (λ y. test y q) (take (i + 1) xs)) larger
  one_taken name larger named added = record {
    same = λ q.
        added q ∙ ap (λ b. cond (nat_eq name q) true b) (so_far.same q)
        ∙ sym (any_next (λ y. test y q) xs i x lt is ∙ ap (λ a. list_any (λ y. test y q) (take i xs) || (a || false)) (named q) ∙ or_last (nat_eq name q) _);
  }

  -- the set, if the next item is none
  pub none_taken : ((q : ℕ) → test x q ≡ false) → HasNames (λ q. list_any (λ y. test y q) (take (i + 1) xs)) set
  none_taken unnamed = record {
    same = λ q. so_far.same q ∙ sym (any_next (λ y. test y q) xs i x lt is ∙ ap (λ a. list_any (λ y. test y q) (take i xs) || (a || false)) (unnamed q) ∙ or_none _);
  }

pairs : (own it there found : Bool) → cond (own && it) true (there || (own && found)) ≡ (there || (own && (found || (it || false))))
pairs true true true true = refl
pairs true true true false = refl
pairs true true false true = refl
pairs true true false false = refl
pairs true false true found = refl
pairs true false false true = refl
pairs true false false false = refl
pairs false it true found = refl
pairs false it false found = refl

-- one member more
pub one_member : {S : Type 0} (owner : ℕ) (names : List ℕ) (i member : ℕ) → i < length names → member ≡ get_or names i member → (before set larger : HashSet (ℕ × ℕ) S)
    → ((q name : ℕ) → contains same_pair set (q, name) ≡ (contains same_pair before (q, name) || ((owner == q) && stands_in (take i names) name)))
    → ((q : ℕ × ℕ) → contains same_pair larger q ≡ cond (same_pair (owner, member) q) true (contains same_pair set q))
    → (q name : ℕ) → contains same_pair larger (q, name) ≡ (contains same_pair before (q, name) || ((owner == q) && stands_in (take (i + 1) names) name))
one_member owner names i member lt is before set larger so_far added q name =
    added (q, name) ∙ ap (λ b. cond (same_pair (owner, member) (q, name)) true b) (so_far q name)
    ∙ pairs (nat_eq owner q) (nat_eq member name) (contains same_pair before (q, name)) (stands_in (take i names) name)
    ∙ ap (λ b. contains same_pair before (q, name) || ((owner == q) && b)) (sym (any_next (λ n. n == name) names i member lt is))

-- the members of one declaration more
pub one_owner : {S : Type 0} (types : List AnnotationType) (i : ℕ) (d : AnnotationType) → i < length types → d ≡ get_or types i d → (set larger : HashSet (ℕ × ℕ) S) → HasPairs (has_member (take i types)) set
    → ((owner name : ℕ) → contains same_pair larger (owner, name) ≡ (contains same_pair set (owner, name) || ((d.name == owner) && stands_in d.members name)))
    → HasPairs (has_member (take (i + 1) types)) larger
one_owner types i d lt is set larger so_far added = record {
  same = λ owner name.
      added owner name ∙ ap (λ b. b || ((d.name == owner) && stands_in d.members name)) (so_far.same owner name)
      ∙ ap (λ b. has_member (take i types) owner name || b) (sym (or_nothing _))
      ∙ sym (any_next (λ t. (t.name == owner) && stands_in t.members name) types i d lt is);
}
