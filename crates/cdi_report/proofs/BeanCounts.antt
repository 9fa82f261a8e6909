-- A deployment without problems of beans has at most 4,096 beans.
use Rattle.std.proofs.Common.{◌≡◌, ◌∙◌, ◌+◌, ◌<◌, ◌≤◌, inl, Bool, true, false, List, [], ◌∷◌, ◌++◌, filter, length, refl, sym, arith, length-append}
use Rattle.std.specs.Prelude.{if◌then◌else◌}
use Rattle.std.proofs.lemmas.List.{length-map}
use Rattle.std.proofs.lemmas.List.Sums.{length-filter, sum_by-cons}
use Rattle.std.specs.List.{count_by, flat_map}
use Rattle.cdi_bean_rules.specs.Limits.{bean_count, beans_in, is_producer}
use Rattle.cdi_bean_check.specs.ManagedBeans.{is_bean}
use Rattle.cdi_bean_rules.specs.Tiers.{AreBeanProblems, AreTooMany}
use Rattle.cdi_beans.specs.Beans.{Source, products_in, sources_in}
use Rattle.cdi_deployment.specs.declared.deployment.Class.{Class}
use Rattle.cdi_deployment.specs.declared.deployment.Deployment.{Deployment}
use Rattle.cdi_problems.specs.declared.problem.Problem.{Problem}
use Rattle.cdi_quals.specs.declared.types.QualifierType.{QualifierType}

-- a class is and makes as many beans as are counted of it
in_class : (c : Class) → length (sources_in c) ≡ beans_in c
in_class c = by (is_bean c)
  where
    products : length (products_in c c.members) ≡ count_by is_producer c.members
    products =
        length-map (filter is_producer c.members) (Source.AProducer c)
        ∙ length-filter is_producer c.members

    by : (b : Bool) → length (if b then Source.AClass c ∷ products_in c c.members else [])
        ≡ (if b then 1 + count_by is_producer c.members else 0)
    by true = omega (arith, products)
    by false = refl

-- a deployment has as many beans as are counted
pub as_many : (classes : List Class) → length (flat_map sources_in classes) ≡ bean_count classes
as_many [] = refl
as_many (c ∷ classes) =
    let own : length (sources_in c) ≡ beans_in c = in_class c in
    let others : length (flat_map sources_in classes) ≡ bean_count classes = as_many classes in
    let both : length (sources_in c ++ flat_map sources_in classes)
    ≡ length (sources_in c) + length (flat_map sources_in classes) =
    length-append (sources_in c) (flat_map sources_in classes) in
    both ∙ (λ i. own i + others i) ∙ sym (sum_by-cons beans_in c classes)

none_behind : {X : Type 0} (xs ys : List X) → [] ≡ xs ++ ys → ys ≡ []
none_behind [] ys e = sym e
none_behind (x ∷ xs) ys e = absurd cc

few_if_none : (d : Deployment) (excess : List Problem) → excess ≡ [] → AreTooMany d excess
    → bean_count d.classes ≤ 4096
few_if_none d excess e (AreTooMany.too_many many) = absurd cc
few_if_none d excess e (AreTooMany.few none) =
    let not_over : 4096 < bean_count d.classes → ⊥ = λ over. none (inl over) in omega arith

pub few_beans : (d : Deployment) (qualifiers : List QualifierType)
    → AreBeanProblems d qualifiers [] → bean_count d.classes ≤ 4096
few_beans d qualifiers problems =
    few_if_none d problems.excess (none_behind _ problems.excess problems.are)
    problems.are_excess
