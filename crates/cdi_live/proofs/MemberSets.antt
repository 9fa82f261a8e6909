-- Sets of members, and one more that is looked at.
use Rattle.std.proofs.Common.{◌≡◌, ◌∙◌, ℕ, ◌+◌, ◌<◌, ◌||◌, ◌&&◌, ◌==◌, Bool, true, false, cond, List, [], ◌∷◌, ◌++◌, length, take, get_or, refl, sym, ap}
use Rattle.std.proofs.lemmas.List.{take_more}
use Rattle.std.proofs.lemmas.List.Folds.{list_any-append}
use Rattle.std.specs.HashSet.{HashSet, contains}
use Rattle.std.specs.List.{list_any}
use Rattle.cdi_beans.specs.declared.bean.Bean.{Bean}
use Rattle.cdi_beans.specs.declared.bean.BeanMember.{BeanMember}
use Rattle.cdi_live.specs.Live.{has_member, is_live_member}
use Rattle.cdi_live.specs.MemberSets.{is_it}
use Rattle.cdi_name_check.specs.NameSets.{HasPairs, same_pair}

abbrev pub is_among : List BeanMember → ℕ → ℕ → Bool
is_among members class name = list_any (λ m. (m.class == class) && (m.name == name)) members

-- a test for some item, with the next item
pub any_next : {X : Type 0} (p : X → Bool) (xs : List X) (i : ℕ) (x : X) → i < length xs → x ≡ get_or xs i x → list_any p (take (i + 1) xs) ≡ (list_any p (take i xs) || (p x || false))
any_next p xs i x lt is = ap (list_any p) (take_more xs i x lt ∙ ap (λ y. take i xs ++ y ∷ []) (sym is)) ∙ list_any-append p (take i xs) (x ∷ [])

or_last : (here before found : Bool) → ((before || found) || here) ≡ (before || (found || (here || false)))
or_last true true found = refl
or_last true false true = refl
or_last true false false = refl
or_last false true found = refl
or_last false false true = refl
or_last false false false = refl

or_nothing : (a b : Bool) → (a || b) ≡ (a || (b || false))
or_nothing true b = refl
or_nothing false true = refl
or_nothing false false = refl

-- one member more
pub one_member : {S : Type 0} (members : List BeanMember) (i : ℕ) (m : BeanMember) → i < length members → m ≡ get_or members i m → (before set larger : HashSet (ℕ × ℕ) S)
    → ((class name : ℕ) → contains same_pair set (class, name) ≡ (contains same_pair before (class, name) || is_among (take i members) class name))
    → ((class name : ℕ) → contains same_pair larger (class, name) ≡ (contains same_pair set (class, name) || is_it class name m))
    → (class name : ℕ) → contains same_pair larger (class, name) ≡ (contains same_pair before (class, name) || is_among (take (i + 1) members) class name)
one_member members i m lt is before set larger so_far added class name =
    added class name ∙ ap (λ b. b || is_it class name m) (so_far class name)
    ∙ or_last (is_it class name m) (contains same_pair before (class, name)) (is_among (take i members) class name)
    ∙ ap (λ b. contains same_pair before (class, name) || b) (sym (any_next (λ m. (m.class == class) && (m.name == name)) members i m lt is))

-- the members of one bean more
pub one_bean : {S : Type 0} (beans : List (ℕ × Bean)) (i : ℕ) (b : ℕ × Bean) → i < length beans → b ≡ get_or beans i b → (set larger : HashSet (ℕ × ℕ) S) → HasPairs (is_live_member (take i beans)) set
    → ((class name : ℕ) → contains same_pair larger (class, name) ≡ (contains same_pair set (class, name) || has_member class name b))
    → HasPairs (is_live_member (take (i + 1) beans)) larger
one_bean beans i b lt is set larger so_far added = record {
  same = λ class name.
      added class name ∙ ap (λ found. found || has_member class name b) (so_far.same class name)
      ∙ or_nothing (is_live_member (take i beans) class name) (has_member class name b)
      ∙ sym (any_next (has_member class name) beans i b lt is);
}
