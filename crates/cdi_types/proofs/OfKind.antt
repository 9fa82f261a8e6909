-- The members of a kind that come down a line.
use Rattle.std.proofs.Common.{Bor, drop, get_or, length, ◌≡◌, ◌∙◌, ℕ, ◌+◌, ◌<◌, ◌||◌, Bool, true, false, not, cond, nat_eq, List, [], ◌∷◌, ◌++◌, filter, position, Some, None, suc, refl, sym, ap, arith}
use Rattle.std.proofs.Math.Seq.{drop-nil}
use Rattle.std.proofs.lemmas.List.Elements.{filter-append}
use Rattle.std.specs.Bool.{nat_lt}
use Rattle.std.specs.List.{list_any, position_or_len}
use Rattle.std.specs.Option.{is_some}
use Rattle.cdi_deployment.specs.declared.deployment.Class.{Class}
use Rattle.cdi_deployment.specs.declared.deployment.Member.{Member}
use Rattle.cdi_types.specs.LastClass.{is_had}
use Rattle.cdi_types.specs.Kinds.{has_kind, of_kind, declares_kind}
use Rattle.cdi_types.specs.Members.{declares, comes_down, parts_of, members_of}
use Rattle.cdi_types.specs.declared.kind.MemberKind.{MemberKind}
use Rattle.cdi_types.proofs.LastClass.{line, had, same_filter, end, first_of_line}
use Rattle.cdi_types.proofs.Places.{is_some-position}

module _ (kind : MemberKind) where
  -- those of a kind among the members of a class that pass a test
  parts_of_kind : (class : Class) (p : Member → Bool) (ms : List Member) → of_kind kind (parts_of class (filter p ms)) ≡ parts_of class (filter p (filter (has_kind kind) ms))
  parts_of_kind class p [] = refl
  parts_of_kind class p (m ∷ ms) = by (parts_of_kind class p ms) (p m) (has_kind kind m) refl refl
    where
      by : of_kind kind (parts_of class (filter p ms)) ≡ parts_of class (filter p (filter (has_kind kind) ms))
          → (a k : Bool) → p m ≡ a → has_kind kind m ≡ k
          → of_kind kind (parts_of class (cond a (m ∷ filter p ms) (filter p ms))) ≡ parts_of class (filter p (cond k (m ∷ filter (has_kind kind) ms) (filter (has_kind kind) ms)))
      by rest true true ea ek =
          ap (λ b. cond b ((class, m) ∷ of_kind kind (parts_of class (filter p ms))) (of_kind kind (parts_of class (filter p ms)))) ek
          ∙ ap (λ ps. (class, m) ∷ ps) rest
          ∙ sym (ap (λ b. parts_of class (cond b (m ∷ filter p (filter (has_kind kind) ms)) (filter p (filter (has_kind kind) ms)))) ea)
      by rest true false ea ek =
          ap (λ b. cond b ((class, m) ∷ of_kind kind (parts_of class (filter p ms))) (of_kind kind (parts_of class (filter p ms)))) ek ∙ rest
      by rest false true ea ek = rest ∙ sym (ap (λ b. parts_of class (cond b (m ∷ filter p (filter (has_kind kind) ms)) (filter p (filter (has_kind kind) ms)))) ea)
      by rest false false ea ek = rest

  none : (ms : List Member) → list_any (has_kind kind) ms ≡ false → filter (has_kind kind) ms ≡ []
  none [] e = refl
  none (m ∷ ms) e = by (λ h. none ms h) (has_kind kind m) e
    where
      by : (list_any (has_kind kind) ms ≡ false → filter (has_kind kind) ms ≡ []) → (k : Bool) → (k || list_any (has_kind kind) ms) ≡ false
          → cond k (m ∷ filter (has_kind kind) ms) (filter (has_kind kind) ms) ≡ []
      by more true e = absurd cc
      by more false e = more e

  -- what a class and the classes below it have of a kind
  pub split : (class : Class) (below : List Class) → of_kind kind (members_of (class ∷ below)) ≡ parts_of class (filter (comes_down below) (filter (has_kind kind) class.members)) ++ of_kind kind (members_of below)
  split class below =
      filter-append (λ part. has_kind kind part.1) (parts_of class (filter (comes_down below) class.members)) (members_of below)
      ∙ ap (λ ps. ps ++ of_kind kind (members_of below)) (parts_of_kind class (comes_down below) class.members)

  -- a class that declares none adds none
  skip : (class : Class) (below : List Class) → declares_kind kind class ≡ false → of_kind kind (members_of (class ∷ below)) ≡ of_kind kind (members_of below)
  skip class below own = split class below ∙ ap (λ ms. parts_of class (filter (comes_down below) ms) ++ of_kind kind (members_of below)) (none class.members own)

  -- where no class declares a member of a kind, none comes down
  pub none_of_kind : (classes : List (Bor Class)) → position (λ c. declares_kind kind c.now) classes ≡ None → of_kind kind (members_of (line classes)) ≡ []
  none_of_kind classes e = all classes (is_none classes e)
    where
      is_none : (cs : List (Bor Class)) → position (λ c. declares_kind kind c.now) cs ≡ None → list_any (λ c. declares_kind kind c.now) cs ≡ false
      is_none cs e = sym (is_some-position (λ (c : Bor Class). declares_kind kind c.now) cs) ∙ ap is_some e

      all : (cs : List (Bor Class)) → list_any (λ c. declares_kind kind c.now) cs ≡ false → of_kind kind (members_of (line cs)) ≡ []
      all [] e = refl
      all (c ∷ cs) e = by (λ h. all cs h) (declares_kind kind c.now) refl e
        where
          by : (list_any (λ c. declares_kind kind c.now) cs ≡ false → of_kind kind (members_of (line cs)) ≡ [])
              → (d : Bool) → declares_kind kind c.now ≡ d → (d || list_any (λ c. declares_kind kind c.now) cs) ≡ false
              → of_kind kind (members_of (c.now ∷ line cs)) ≡ []
          by more true own e = absurd cc
          by more false own e = skip c.now (line cs) own ∙ more e

  -- the classes above the first one that declares one add none
  pub from_topmost : (classes : List (Bor Class)) (k : ℕ) → position (λ c. declares_kind kind c.now) classes ≡ Some k → of_kind kind (members_of (line (drop k classes))) ≡ of_kind kind (members_of (line classes))
  from_topmost classes k e = above classes k (found classes k e)
    where
      p : Bor Class → Bool
      p = λ c. declares_kind kind c.now

      found : (cs : List (Bor Class)) (k : ℕ) → position p cs ≡ Some k → position_or_len p cs ≡ k
      found cs k e = by (nat_lt (position_or_len p cs) (length cs)) e
        where
          by : (b : Bool) → cond b (Some (position_or_len p cs)) None ≡ Some k → position_or_len p cs ≡ k
          by true h = cc
          by false h = absurd cc

      above : (cs : List (Bor Class)) (k : ℕ) → position_or_len p cs ≡ k → of_kind kind (members_of (line (drop k cs))) ≡ of_kind kind (members_of (line cs))
      above [] k e = ap (λ ds. of_kind kind (members_of (line ds))) (drop-nil k)
      above (c ∷ cs) k e = by (above cs) (p c) refl e
        where
          by : ((j : ℕ) → position_or_len p cs ≡ j → of_kind kind (members_of (line (drop j cs))) ≡ of_kind kind (members_of (line cs)))
              → (d : Bool) → p c ≡ d → cond (not d) (1 + position_or_len p cs) 0 ≡ k → of_kind kind (members_of (line (drop k (c ∷ cs)))) ≡ of_kind kind (members_of (c.now ∷ line cs))
          by rest true own e = ap (λ j. of_kind kind (members_of (line (drop j (c ∷ cs))))) (sym e)
          by rest false own e =
              let n = position_or_len p cs in
              let next : k ≡ suc n = omega (arith, e) in
              ap (λ j. of_kind kind (members_of (line (drop j (c ∷ cs))))) next ∙ rest n refl ∙ sym (skip c.now (line cs) own)

  -- a loop from the last class of a line up finds what the next class has of the kind
  pub finds_more_of_kind : (items : List (Bor Class)) (p i : ℕ) (class : Bor Class) → i + 1 ≡ p → i < length items → class ≡ get_or items i class
      → (is_below : ℕ → Bool) → ((name : ℕ) → is_below name ≡ list_any (declares name) (line (drop p items))) → (n : ℕ) → n ≡ length items
      → (old new : List (Class × Member)) → old ≡ of_kind kind (members_of (line (drop p items)))
      → new ≡ parts_of class.now (filter (is_had is_below (nat_eq (i + 1) n)) (filter (has_kind kind) class.now.members)) ++ old
      → new ≡ of_kind kind (members_of (line (drop i items)))
  finds_more_of_kind items p i class next within is is_below knows n all old new found more =
      let below : List Class = line (drop p items) in
      more
      ∙ ap (λ ms. parts_of class.now ms ++ old) (same_filter _ _ (had is_below below knows (nat_eq (i + 1) n) (end items p i class next within is n all)) (filter (has_kind kind) class.now.members))
      ∙ ap (λ ps. parts_of class.now (filter (comes_down below) (filter (has_kind kind) class.now.members)) ++ ps) found
      ∙ sym (split class.now below)
      ∙ sym (ap (λ cs. of_kind kind (members_of cs)) (first_of_line items p i class next within is))
