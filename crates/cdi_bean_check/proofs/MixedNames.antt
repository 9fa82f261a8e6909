-- Members with a name that isn't mixed are alike.
use Rattle.std.proofs.Common.{◌≡◌, ◌∙◌, ◌&&◌, inl, inr, true, false, not, nat_eq, List, Some, refl, sym, ap}
use Rattle.std.proofs.lemmas.Bool.{and_parts, cases_Bool}
use Rattle.std.proofs.lemmas.Bool.Decides.{Decides-eqb}
use Rattle.std.specs.HashMap.{get}
use Rattle.std.specs.HashSet.{contains}
use Rattle.std.specs.List.{Contains, list_any}
use Rattle.cdi_deployment.specs.declared.deployment.Class.{Class}
use Rattle.cdi_deployment.specs.declared.deployment.Member.{Member}
use Rattle.cdi_deployment.specs.declared.deployment.Member.TheVariants as members
use Rattle.cdi_deployment.specs.Member.{member_name}
use Rattle.cdi_types.specs.Kinds.{kind_of}
use Rattle.cdi_bean_check.specs.MixedNames.{has_mixed, signature_of, values_of, HasSeenAll, IsSeen}
use Rattle.cdi_bean_check.specs.Repeated.{has_other_member, is_alike}
use Rattle.cdi_bean_check.specs.declared.mixed_names.MixedNames.{MixedNames}
use Rattle.cdi_bean_check.specs.declared.mixed_names.Signature.{Signature}
use Rattle.cdi_bean_check.proofs.Tests.{any_of, equal_names, none_implied}

alike_same : (m n : Member) → kind_of m ≡ kind_of n → values_of m ≡ values_of n → is_alike m n ≡ true
alike_same (members.Method m) (members.Method n) k v = (Decides-eqb m.args n.args).1 v
alike_same (members.Method m) _ k v = absurd cc
alike_same (members.Initializer m) (members.Initializer n) k v = refl
alike_same (members.Initializer m) _ k v = absurd cc
alike_same (members.PostConstruct m) (members.PostConstruct n) k v = refl
alike_same (members.PostConstruct m) _ k v = absurd cc
alike_same (members.PreDestroy m) (members.PreDestroy n) k v = refl
alike_same (members.PreDestroy m) _ k v = absurd cc
alike_same (members.Producer m) (members.Producer n) k v = refl
alike_same (members.Producer m) _ k v = absurd cc
alike_same (members.ProducerField m) (members.ProducerField n) k v = refl
alike_same (members.ProducerField m) _ k v = absurd cc
alike_same (members.Disposer m) (members.Disposer n) k v = refl
alike_same (members.Disposer m) _ k v = absurd cc
alike_same (members.Observer m) (members.Observer n) k v = refl
alike_same (members.Observer m) _ k v = absurd cc

one_signature : (a b : Signature) → Some a ≡ Some b → a ≡ b
one_signature a b e = cc

module _ (classes : List Class) (names : MixedNames) (seen : HasSeenAll classes names) where
  alike : (m n : Member) → IsSeen names m → IsSeen names n → member_name n ≡ member_name m → contains nat_eq names.mixed (member_name m) ≡ false → is_alike n m ≡ true
  alike m n s t same unmixed =
      let firsts : t.first ≡ s.first = one_signature t.first s.first (sym t.stands ∙ ap (get nat_eq names.firsts) same ∙ s.stands) in
      let other : contains nat_eq names.mixed (member_name n) ≡ false = ap (contains nat_eq names.mixed) same ∙ unmixed in
      let signatures : signature_of n ≡ signature_of m = sym (t.same other) ∙ firsts ∙ s.same unmixed in
      alike_same n m (ap (λ x. x.kind) signatures) (ap (λ x. x.values) signatures)

  -- a class above has no other member for one of a class whose names aren't mixed
  pub no_other_member : (a c : Class) → Contains classes a → Contains classes c → has_mixed names c.members ≡ false → list_any (λ m. has_other_member m a) c.members ≡ false
  no_other_member a c above listed unmixed = none_implied (λ m. has_other_member m a) (λ m. contains nat_eq names.mixed (member_name m)) c.members
      (λ m h other. elim (cases_Bool (contains nat_eq names.mixed (member_name m))) [
        | inl mixed ↦ mixed
        | inr none ↦ (
            let there = any_of (λ n. nat_eq (member_name n) (member_name m) && not (is_alike n m)) a.members other in
            let n = there.0 in
            let both = and_parts (nat_eq (member_name n) (member_name m)) (not (is_alike n m)) there.2 in
            let is = alike m n (seen c listed m h) (seen a above n there.1) (equal_names (member_name n) (member_name m) both.0) none in
            let no : not (is_alike n m) ≡ false = ap not is in
            absurd cc
            )
      ])
      unmixed
