-- The classes of a line are classes of the deployment, and no more than those.
use Rattle.std.proofs.Common.{ℕ, ◌≡◌, ◌+◌, ◌≤◌, Bool, true, false, cond, nat_eq, List, [], ◌∷◌, length, Option, Some, None, refl, sym, ap, subst, arith}
use Rattle.std.proofs.lemmas.List.Sums.{sum_by-cons}
use Rattle.std.specs.List.{AllByRecursion, cons_option, filter_map}
use Rattle.cdi_deployment.specs.declared.deployment.Class.{Class}
use Rattle.cdi_types.specs.Line.{IsLineOf, class_named}
use Rattle.cdi_types.specs.declared.declaration.TypeDeclaration.{TypeDeclaration}
use Rattle.cdi_report.proofs.Each.{each_given, of_found}
use Rattle.cdi_report.proofs.Lineages.{at_most_once, times}

-- what holds of each class holds of the one with a name
of_class_named : (P : Class → Type 0) (classes : List Class) → AllByRecursion P classes
    → (name : ℕ) (c : Class) → class_named classes name ≡ Some c → P c
of_class_named P classes all name c is = of_found P (λ k. nat_eq k.name name) classes c all is

pub each_in_line : (P : Class → Type 0) (types : List TypeDeclaration) (classes : List Class)
    (name : ℕ) (line : List Class) → IsLineOf types classes name line → AllByRecursion P classes
    → AllByRecursion P line
each_in_line P types classes name line is all =
    subst (AllByRecursion P) (sym is.named)
    (each_given P (class_named classes) is.names (of_class_named P classes all))

none_named : (names : List ℕ) → filter_map (class_named []) names ≡ []
none_named [] = refl
none_named (name ∷ names) = none_named names

-- with a class more, the names of that class name one more
one_more : (c : Class) (classes : List Class) (names : List ℕ)
    → length (filter_map (class_named (c ∷ classes)) names)
    ≤ times c.name names + length (filter_map (class_named classes) names)
one_more c classes [] = omega arith
one_more c classes (name ∷ names) =
    subst
    (λ n.
    length (cons_option (cond (nat_eq c.name name) (Some c) (class_named classes name)) more)
    ≤ n + length (cons_option (class_named classes name) before))
    (sym (sum_by-cons (λ n. cond (nat_eq c.name n) 1 0) name names))
    (by (nat_eq c.name name) (class_named classes name) (one_more c classes names))
  where
    more : List Class
    more = filter_map (class_named (c ∷ classes)) names

    before : List Class
    before = filter_map (class_named classes) names

    by : (b : Bool) (o : Option Class) → length more ≤ times c.name names + length before
        → length (cons_option (cond b (Some c) o) more)
        ≤ cond b 1 0 + times c.name names + length (cons_option o before)
    by true None h = omega arith
    by true (Some k) h = omega arith
    by false None h = omega arith
    by false (Some k) h = omega arith

no_more_named : (classes : List Class) (names : List ℕ) → ((name : ℕ) → times name names ≤ 1)
    → length (filter_map (class_named classes) names) ≤ length classes
no_more_named [] names once = omega (arith, ap length (none_named names))
no_more_named (c ∷ classes) names once =
    omega (arith, one_more c classes names, once c.name, no_more_named classes names once)

-- a line has no more classes than there are
pub no_longer : (types : List TypeDeclaration) (classes : List Class) (name : ℕ)
    (line : List Class) → IsLineOf types classes name line → length line ≤ length classes
no_longer types classes name line is =
    subst (λ l. length l ≤ length classes) (sym is.named)
    (no_more_named classes is.names (at_most_once types is.lineage))
