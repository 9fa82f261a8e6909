-- At most 2,048 interceptors are enabled: those that have a priority, and those that are listed.
use Rattle.std.proofs.Common.{◌≡◌, ◌≤◌, ◌+◌, Bool, true, List, filter, length, ap, arith, length-append}
use Rattle.std.proofs.lemmas.Cmp.{eq_by_cmp_equiv}
use Rattle.std.proofs.lemmas.List.Folds.{Any-from_list_any, list_any-from_Any}
use Rattle.std.proofs.lemmas.List.FromFn.{length-enumerate_from}
use Rattle.std.proofs.lemmas.Map.Keys.{IsDistinct-from_sorted}
use Rattle.std.proofs.lemmas.Map.Made.{length-le_from_is_member}
use Rattle.std.proofs.lemmas.Slice.Zip.{AllZip-long}
use Rattle.std.specs.List.{Any, Contains, enumerate_from, filter_map}
use Rattle.std.specs.Ordering.{eq_by_cmp}
use Rattle.std.specs.Set.{is_member}
use Rattle.cdi_beans.proofs.Sorted.{priorities_total}
use Rattle.cdi_beans.specs.Interceptors.{AreEnabled, AreInterceptorsOf, Indexed, IsEnabledInterceptor, compare_priorities, has_priority, listed}
use Rattle.cdi_beans.specs.declared.bean.EnabledInterceptor.{EnabledInterceptor}
use Rattle.cdi_deployment.specs.declared.deployment.Deployment.{Deployment}
use Rattle.cdi_quals.specs.OrderedSet.{IsOrderedSet}
use Rattle.cdi_quals.specs.declared.types.QualifierType.{QualifierType}
use Rattle.cdi_report.proofs.Lengths.{filter_map_no_longer, filter_no_longer}

-- what ties with an item of a set ties with one of the given items
given_too : (given set : List Indexed) → IsOrderedSet compare_priorities given set → (q : Indexed)
    → is_member (eq_by_cmp compare_priorities) set q ≡ true
    → is_member (eq_by_cmp compare_priorities) given q ≡ true
given_too given set is q e =
    let ties : Indexed → Bool = eq_by_cmp compare_priorities q in
    let found : Any (λ x. ties x ≡ true) set = Any-from_list_any ties set e in
    let there : Contains given found.1 = (is.same found.1).0 (found.0, found.2, found.3) in
    list_any-from_Any ties given (there.0, found.1, there.1, there.2, found.4)

-- a set has no more items than were given
set_no_longer : (given set : List Indexed) → IsOrderedSet compare_priorities given set
    → length set ≤ length given
set_no_longer given set is =
    length-le_from_is_member (eq_by_cmp_equiv priorities_total) set given
    (IsDistinct-from_sorted compare_priorities set is.rising) (given_too given set is)

-- those with a priority, each once, and those that are listed
few_enabled : (d : Deployment) (enabled : List Indexed) → AreEnabled d enabled
    → length enabled ≤ length d.interceptors + length d.order
few_enabled d enabled are =
    let indexed : List Indexed = enumerate_from 0 d.interceptors in
    let named : List Indexed = filter_map (listed indexed) d.order in
    omega (
      arith,
      ap (λ l. length l) are.are,
      length-append are.by_priority named,
      set_no_longer (filter has_priority indexed) are.by_priority are.in_order,
      filter_no_longer has_priority indexed,
      length-enumerate_from 0 d.interceptors,
      filter_map_no_longer (listed indexed) d.order,
    )

-- no more than there are and than are listed
pub few_of_deployment : (d : Deployment) (bindings : List QualifierType)
    (interceptors : List EnabledInterceptor) → AreInterceptorsOf d bindings interceptors
    → length interceptors ≤ length d.interceptors + length d.order
few_of_deployment d bindings interceptors are =
    omega (
      arith,
      AllZip-long (IsEnabledInterceptor d.names bindings) are.enabled interceptors are.each,
      few_enabled d are.enabled are.are_enabled,
    )
