-- The tables of a deployment are one.
use Rattle.std.proofs.Common.{◌≡◌, ◌∙◌, ℕ, zero, suc, Bool, false, List, [], ◌∷◌, length, slice_index_or, Option, Some, None, refl, sym, subst, arith}
use Rattle.std.specs.Prelude.{slice_get}
use Rattle.cdi_beans.specs.Declarations.{AreDeclaredBy}
use Rattle.cdi_beans.specs.declared.bean.BeanList.{BeanList}
use Rattle.cdi_beans.specs.declared.declared.DeclaredTables.{DeclaredTables}
use Rattle.cdi_deployment.specs.declared.deployment.Deployment.{Deployment}
use Rattle.cdi_enable.proofs.Free.{once}
use Rattle.cdi_enable.specs.Enablement.{Enablement, AreFlags, IsEnabledBean, IsEnabledManaged, bean_of_class, enablement_of}
use Rattle.cdi_enable.specs.declared.listed_bean.ListedBean.{ListedBean}
use Rattle.cdi_enable.specs.declared.managed_bean.ManagedBean.{ManagedBean}
use Rattle.cdi_resolve.specs.BeanTables.{bean_tables, AreBeanTables, AreTablesOf}
use Rattle.cdi_resolve.specs.declared.bean_tables.BeanTables.{BeanTables}
use Rattle.cdi_accepted.proofs.BeanLists.{one_list}
use Rattle.cdi_accepted.proofs.Types.{one_qualifier_list, one_type_list}

-- ---- flags

none_or_one : (managed : List ManagedBean) (o : Option ℕ) (r s : Bool) → IsEnabledManaged managed o r → IsEnabledManaged managed o s → r ≡ s
none_or_one managed None r s a b = a ∙ sym b
none_or_one managed (Some bean) r s a b = once bean r s a b

one_answer : (e : Enablement) (o : Option ListedBean) (r s : Bool) → IsEnabledBean e o r → IsEnabledBean e o s → r ≡ s
one_answer e None r s a b = a ∙ sym b
one_answer e (Some bean) r s a b = none_or_one e.managed (bean_of_class e.classes bean.class) r s a b

-- lists of one length with the same at each place
same_places : (xs ys : List Bool) → length xs ≡ length ys → ((k : ℕ) → slice_index_or xs k false ≡ slice_index_or ys k false) → xs ≡ ys
same_places [] [] len same = refl
same_places [] (y ∷ ys) len same = absurd (omega (arith, len))
same_places (x ∷ xs) [] len same = absurd (omega (arith, len))
same_places (x ∷ xs) (y ∷ ys) len same =
    let head : x ≡ y = same zero in
    let tail : xs ≡ ys = same_places xs ys (omega (arith, len)) (λ k. same (suc k)) in
    λ i. head i ∷ tail i

pub one_flags : (e : Enablement) (flags others : List Bool) → AreFlags e flags → AreFlags e others → flags ≡ others
one_flags e flags others a b =
    same_places flags others (a.len ∙ sym b.len) λ bean.
    one_answer e (slice_get e.beans bean) (slice_index_or flags bean false) (slice_index_or others bean false) (a.each bean) (b.each bean)

-- ---- tables

one_declared : (d : Deployment) (t u : DeclaredTables) → AreDeclaredBy d t → AreDeclaredBy d u → t ≡ u
one_declared d t u a b =
    let types : t.types ≡ u.types = a.types ∙ sym b.types in
    let qualifiers : t.qualifiers ≡ u.qualifiers = one_qualifier_list d t.qualifiers u.qualifiers a.qualifiers b.qualifiers in
    let bindings : t.bindings ≡ u.bindings = one_type_list d.names a.bindings b.bindings in
    λ i. record { types = types i; qualifiers = qualifiers i; bindings = bindings i }

one_with : (d : Deployment) (list : BeanList) (t u : BeanTables) → AreBeanTables d list t → AreBeanTables d list u → t ≡ u
one_with d list t u a b =
    let declared : t.declared ≡ u.declared = one_declared d t.declared u.declared a.declared b.declared in
    let flags : t.resolver.flags ≡ u.resolver.flags = one_flags (enablement_of list) t.resolver.flags u.resolver.flags a.flags b.flags in
    a.are ∙ (λ i. bean_tables d list (declared i) (enablement_of list) (flags i)) ∙ sym b.are

pub one_tables : (d : Deployment) (t u : BeanTables) → AreTablesOf d t → AreTablesOf d u → t ≡ u
one_tables d t u a b =
    let list : b.list ≡ a.list = one_list d b.list a.list b.made a.made in
    one_with d a.list t u a.are (subst (λ l. AreBeanTables d l u) list b.are)
