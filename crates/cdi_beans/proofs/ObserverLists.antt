-- One bean with observers more.
use Rattle.std.proofs.Common.{List, [], ◌∷◌, ◌++◌, sym, subst, append_assoc, append-nil}
use Rattle.std.specs.List.{AllZip, filter_map}
use Rattle.cdi_deployment.specs.declared.deployment.Class.{Class}
use Rattle.cdi_deployment.specs.declared.deployment.Deployment.{Deployment}
use Rattle.cdi_deployment.specs.declared.deployment.Member.{Member}
use Rattle.cdi_quals.specs.declared.types.QualifierType.{QualifierType}
use Rattle.cdi_types.specs.Declarations.{declarations_of}
use Rattle.cdi_bean_check.specs.Inherited.{AreMembersOf}
use Rattle.cdi_beans.specs.Adds.{Adds}
use Rattle.cdi_beans.specs.ObserverMethods.{AreObserversOf, IsObserverOf, observer}
use Rattle.cdi_beans.specs.declared.bean.ObserverMethod.{ObserverMethod}

module _ (d : Deployment) (qualifiers : List QualifierType) where
  last_bean : (c : Class) (has : List (Class × Member)) (more : List ObserverMethod) → AreMembersOf d.classes (declarations_of d) c has → AllZip (IsObserverOf d qualifiers c) (filter_map observer has) more
      → {cs : List Class} {ms : List ObserverMethod} → AreObserversOf d qualifiers cs ms → AreObserversOf d qualifiers (cs ++ c ∷ []) (ms ++ more)
  last_bean c has more had each AreObserversOf.none =
      let P : List ObserverMethod → Type 0 = AreObserversOf d qualifiers (c ∷ []) in
      subst P (append-nil more) (AreObserversOf.next more had each AreObserversOf.none)
  last_bean c has more had each (AreObserversOf.next {c = k} {cs = ks} {rest = rest} first h e later) =
      let P : List ObserverMethod → Type 0 = AreObserversOf d qualifiers (k ∷ (ks ++ c ∷ [])) in
      subst P (sym (append_assoc first rest more)) (AreObserversOf.next first h e (last_bean c has more had each later))

  pub bean_more : (c : Class) (has : List (Class × Member)) (cs : List Class) (old new : List ObserverMethod) → AreMembersOf d.classes (declarations_of d) c has → Adds (IsObserverOf d qualifiers c) (filter_map observer has) old new
      → AreObserversOf d qualifiers cs old → AreObserversOf d qualifiers (cs ++ c ∷ []) new
  bean_more c has cs old new had adds so_far =
      let P : List ObserverMethod → Type 0 = AreObserversOf d qualifiers (cs ++ c ∷ []) in
      subst P (sym adds.are) (last_bean c has adds.added had adds.each so_far)
