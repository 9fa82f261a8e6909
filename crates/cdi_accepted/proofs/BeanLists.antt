-- A deployment has one bean list.
use Rattle.std.proofs.Common.{◌≡◌, ◌∙◌, List, ◌++◌, map, filter, refl, sym, ap, subst, Ordering, Less, Equal, Greater}
use Rattle.std.specs.FinMap.{nat_cmp-IsAntisymmetric}
use Rattle.std.specs.List.{AllZip, Contains, enumerate_from, filter_map, flat_map}
use Rattle.std.specs.Option.{option_cmp}
use Rattle.std.specs.Ordering.{int_cmp, nat_cmp, ordering_then}
use Rattle.cdi_deployment.specs.declared.deployment.Class.{Class}
use Rattle.cdi_deployment.specs.declared.deployment.Deployment.{Deployment}
use Rattle.cdi_deployment.specs.declared.deployment.Disposer.{Disposer}
use Rattle.cdi_deployment.specs.declared.deployment.Observer.{Observer}
use Rattle.cdi_deployment.specs.Member.{member_name}
use Rattle.cdi_quals.specs.declared.types.QualifierType.{QualifierType}
use Rattle.cdi_bean_check.specs.ManagedBeans.{is_bean}
use Rattle.cdi_beans.proofs.Sorted.{priorities_total}
use Rattle.cdi_beans.specs.BeanLists.{IsBeanListOf}
use Rattle.cdi_beans.specs.Beans.{IsBeanOf, sources_in}
use Rattle.cdi_beans.specs.DisposerMethods.{IsDisposerOf, disposers_in}
use Rattle.cdi_beans.specs.Interceptors.{Indexed, AreEnabled, AreInterceptorsOf, IsEnabledInterceptor, compare_priorities, has_priority, listed}
use Rattle.cdi_beans.specs.ObserverMethods.{AreObserversOf, IsObserverOf, observer}
use Rattle.cdi_beans.specs.Problems.{IsMadeOf}
use Rattle.cdi_beans.specs.declared.bean.BeanList.{BeanList}
use Rattle.cdi_beans.specs.declared.bean.DisposerMethod.{DisposerMethod}
use Rattle.cdi_beans.specs.declared.bean.EnabledInterceptor.{EnabledInterceptor}
use Rattle.cdi_beans.specs.declared.bean.ObserverMethod.{ObserverMethod}
use Rattle.cdi_accepted.proofs.OneBean.{one_bean}
use Rattle.cdi_accepted.proofs.OneLine.{one_membership}
use Rattle.cdi_event_tables.proofs.OneSet.{one_set_of}
use Rattle.cdi_accepted.proofs.DeterminedLists.{kept_in, one_at, one_listed, one_zipped}
use Rattle.cdi_accepted.proofs.Types.{one_qualifier_list, one_qualifier_set, one_type_list}

-- ---- interceptors

both_equal : (a b : Ordering) → ordering_then a b ≡ Equal → b ≡ Equal
both_equal Less b e = absurd cc
both_equal Equal b e = e
both_equal Greater b e = absurd cc

one_enabled : (d : Deployment) (these those : List Indexed) → AreEnabled d these → AreEnabled d those → these ≡ those
one_enabled d these those a b =
    a.are ∙ ap (λ l. l ++ filter_map (listed all) d.order) (one_set_of {P = Contains all} priorities_total apart given a.by_priority b.by_priority (kept_in has_priority all) a.in_order b.in_order)
    ∙ sym b.are
  where
    all : List Indexed
    all = enumerate_from 0 d.interceptors

    given : List Indexed
    given = filter has_priority (enumerate_from 0 d.interceptors)

    apart : (x y : Indexed) → Contains (enumerate_from 0 d.interceptors) x → Contains (enumerate_from 0 d.interceptors) y → compare_priorities x y ≡ Equal → x ≡ y
    apart x y p q e = one_at 0 d.interceptors x y p q (nat_cmp-IsAntisymmetric x.0 y.0 (both_equal (option_cmp int_cmp x.1.priority y.1.priority) (nat_cmp x.0 y.0) e))

one_interceptor : (d : Deployment) (bindings : List QualifierType) (p : Indexed) (j k : EnabledInterceptor) → IsEnabledInterceptor d.names bindings p j → IsEnabledInterceptor d.names bindings p k → j ≡ k
one_interceptor d bindings p j k a b =
    let index : j.index ≡ k.index = a.index ∙ sym b.index in
    let name : j.name ≡ k.name = a.name ∙ sym b.name in
    let bound : j.bindings ≡ k.bindings = one_qualifier_set d.names bindings p.1.bindings j.bindings k.bindings a.bound b.bound in
    let invoke : j.invoke ≡ k.invoke = a.invoke ∙ sym b.invoke in
    let construct : j.construct ≡ k.construct = a.construct ∙ sym b.construct in
    let post : j.post ≡ k.post = a.post ∙ sym b.post in
    let pre : j.pre ≡ k.pre = a.pre ∙ sym b.pre in
    λ i. record { index = index i; name = name i; bindings = bound i; invoke = invoke i; construct = construct i; post = post i; pre = pre i }

one_interceptor_list : (d : Deployment) (bindings : List QualifierType) (these those : List EnabledInterceptor) → AreInterceptorsOf d bindings these → AreInterceptorsOf d bindings those → these ≡ those
one_interceptor_list d bindings these those a b =
    let same : b.enabled ≡ a.enabled = one_enabled d b.enabled a.enabled b.are_enabled a.are_enabled in
    one_zipped (IsEnabledInterceptor d.names bindings) (one_interceptor d bindings) a.enabled these those a.each
    (subst (λ ps. AllZip (IsEnabledInterceptor d.names bindings) ps those) same b.each)

-- ---- observers and disposers

one_observer : (d : Deployment) (qualifiers : List QualifierType) (bean : Class) (declared : Class × Observer) (m n : ObserverMethod) → IsObserverOf d qualifiers bean declared m → IsObserverOf d qualifiers bean declared n → m ≡ n
one_observer d qualifiers bean declared m n a b =
    let of_bean : m.bean ≡ n.bean = a.of_bean ∙ sym b.of_bean in
    let of_class : m.class ≡ n.class = a.of_class ∙ sym b.of_class in
    let name : m.name ≡ n.name = a.name ∙ sym b.name in
    let type : m.ty ≡ n.ty = a.type ∙ sym b.type in
    let set : m.qualifiers ≡ n.qualifiers = one_qualifier_set d.names qualifiers declared.1.quals m.qualifiers n.qualifiers a.set b.set in
    let priority : m.priority ≡ n.priority = a.priority ∙ sym b.priority in
    let if_exists : m.if_exists ≡ n.if_exists = a.if_exists ∙ sym b.if_exists in
    λ i. record { bean = of_bean i; class = of_class i; name = name i; ty = type i; qualifiers = set i; priority = priority i; if_exists = if_exists i }

one_observer_list : (d : Deployment) (qualifiers : List QualifierType) {classes : List Class} {these those : List ObserverMethod} → AreObserversOf d qualifiers classes these → AreObserversOf d qualifiers classes those → these ≡ those
one_observer_list d qualifiers AreObserversOf.none AreObserversOf.none = refl
one_observer_list d qualifiers (AreObserversOf.next {c = c} {has = has} first m each rest) (AreObserversOf.next {has = other} second n every more) =
    let same : other ≡ has = one_membership d.classes c other has n m in
    let moved : AllZip (IsObserverOf d qualifiers c) (filter_map observer has) second =
    subst (λ h. AllZip (IsObserverOf d qualifiers c) (filter_map observer h) second) same every in
    let head : first ≡ second = one_zipped (IsObserverOf d qualifiers c) (one_observer d qualifiers c) (filter_map observer has) first second each moved in
    let tail = one_observer_list d qualifiers rest more in
    λ i. head i ++ tail i

one_disposer : (d : Deployment) (qualifiers : List QualifierType) (declared : Class × Disposer) (m n : DisposerMethod) → IsDisposerOf d qualifiers declared m → IsDisposerOf d qualifiers declared n → m ≡ n
one_disposer d qualifiers declared m n a b =
    let class : m.class ≡ n.class = a.class ∙ sym b.class in
    let name : m.name ≡ n.name = a.name ∙ sym b.name in
    let serves : m.serves ≡ n.serves = a.serves.are ∙ ap (map member_name) (one_listed a.serves.served b.serves.served) ∙ sym b.serves.are in
    λ i. record { class = class i; name = name i; serves = serves i }

-- ---- the list

one_with : (d : Deployment) (qualifiers bindings : List QualifierType) (list other : BeanList) → IsBeanListOf d qualifiers bindings list → IsBeanListOf d qualifiers bindings other → list ≡ other
one_with d qualifiers bindings list other a b =
    let beans : list.beans ≡ other.beans = one_zipped (IsBeanOf d qualifiers) (one_bean d qualifiers) (flat_map sources_in d.classes) list.beans other.beans a.beans b.beans in
    let selected : list.selected ≡ other.selected = a.selected ∙ sym b.selected in
    let interceptors : list.interceptors ≡ other.interceptors = one_interceptor_list d bindings list.interceptors other.interceptors a.interceptors b.interceptors in
    let observers : list.observers ≡ other.observers = one_observer_list d qualifiers a.observers b.observers in
    let disposers : list.disposers ≡ other.disposers =
    one_zipped (IsDisposerOf d qualifiers) (one_disposer d qualifiers) (flat_map disposers_in (filter is_bean d.classes)) list.disposers other.disposers a.disposers b.disposers in
    λ i. record { beans = beans i; selected = selected i; interceptors = interceptors i; observers = observers i; disposers = disposers i }

pub one_list : (d : Deployment) (list other : BeanList) → IsMadeOf d list → IsMadeOf d other → list ≡ other
one_list d list other a b =
    let qualifiers : b.qualifiers ≡ a.qualifiers = one_qualifier_list d b.qualifiers a.qualifiers b.are_qualifiers a.are_qualifiers in
    let bindings : b.bindings ≡ a.bindings = one_type_list d.names b.are_bindings a.are_bindings in
    let first : IsBeanListOf d a.qualifiers b.bindings other = subst (λ q. IsBeanListOf d q b.bindings other) qualifiers b.is in
    one_with d a.qualifiers a.bindings list other a.is (subst (λ q. IsBeanListOf d a.qualifiers q other) bindings first)
