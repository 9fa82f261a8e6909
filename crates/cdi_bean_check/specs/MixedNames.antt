-- Names of members that aren't all alike.
use Rattle.std.specs.Prelude.{ℕ, ◌≡◌, Bool, false, List, Some, Contains, nat_eq}
use Rattle.std.specs.HashMap.{get}
use Rattle.std.specs.HashSet.{contains}
use Rattle.std.specs.List.{list_any}
use Rattle.cdi_deployment.specs.declared.deployment.Class.{Class}
use Rattle.cdi_deployment.specs.declared.deployment.Member.{Member}
use Rattle.cdi_deployment.specs.declared.deployment.Member.TheVariants as members
use Rattle.cdi_deployment.specs.Member.{member_name}
use Rattle.cdi_types.specs.Kinds.{kind_of}
use Rattle.cdi_bean_check.specs.declared.mixed_names.MixedNames.{MixedNames}
use Rattle.cdi_bean_check.specs.declared.mixed_names.Signature.{Signature}

-- how many values a method is called with
abbrev pub values_of : Member → ℕ
values_of (members.Method m) = m.args
values_of _ = 0

abbrev pub signature_of : Member → Signature
signature_of m = record { kind = kind_of m; values = values_of m }

-- The name of a member has a first signature: that of the member, unless the name is mixed.
pub record IsSeen (names : MixedNames) (m : Member) : Type 0 where
  pub first : Signature
  pub stands : get nat_eq names.firsts (member_name m) ≡ Some first
  pub same : contains nat_eq names.mixed (member_name m) ≡ false → first ≡ signature_of m

-- what was seen is still seen
abbrev pub KeepsSeen : MixedNames → MixedNames → Type 0
KeepsSeen old new = (m : Member) → IsSeen old m → IsSeen new m

-- each of some members is seen
abbrev pub HasSeen : List Member → MixedNames → Type 0
HasSeen ms names = (m : Member) → Contains ms m → IsSeen names m

-- all members of some classes are seen
abbrev pub HasSeenAll : List Class → MixedNames → Type 0
HasSeenAll classes names = (c : Class) → Contains classes c → HasSeen c.members names

-- one of some members has a mixed name
abbrev pub has_mixed : MixedNames → List Member → Bool
has_mixed names ms = list_any (λ m. contains nat_eq names.mixed (member_name m)) ms
