-- The kinds of members.
use Rattle.std.specs.Prelude.{Bool, List, filter}
use Rattle.std.specs.List.{list_any}
use Rattle.cdi_deployment.specs.declared.deployment.Class.{Class}
use Rattle.cdi_deployment.specs.declared.deployment.Member.{Member}
use Rattle.cdi_deployment.specs.declared.deployment.Member.TheVariants as members
use Rattle.cdi_types.specs.contracts.kind.MemberKindPartialEq.TheImpl as test
use Rattle.cdi_types.specs.declared.kind.MemberKind.{MemberKind}
use Rattle.cdi_types.specs.declared.kind.MemberKind.TheVariants as kinds

abbrev pub kind_of : Member → MemberKind
kind_of (members.Method m) = kinds.Method
kind_of (members.Initializer i) = kinds.Initializer
kind_of (members.PostConstruct c) = kinds.PostConstruct
kind_of (members.PreDestroy c) = kinds.PreDestroy
kind_of (members.Producer p) = kinds.Producer
kind_of (members.ProducerField p) = kinds.ProducerField
kind_of (members.Disposer d) = kinds.Disposer
kind_of (members.Observer o) = kinds.Observer

abbrev pub has_kind : MemberKind → Member → Bool
has_kind kind member = (test.ghosts).eq (kind_of member) kind

-- those of a kind among members
abbrev pub of_kind : MemberKind → List (Class × Member) → List (Class × Member)
of_kind kind parts = filter (λ part. has_kind kind part.1) parts

-- a class declares a member of a kind
abbrev pub declares_kind : MemberKind → Class → Bool
declares_kind kind class = list_any (has_kind kind) class.members
