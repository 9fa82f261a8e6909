-- The rules that problems break, in words.
use Rattle.std.specs.Prelude.{ℕ, List, codes}
use Rattle.cdi_problems.specs.declared.problem.ProblemKind.{ProblemKind}
use Rattle.cdi_problems.specs.declared.problem.ProblemKind.TheVariants as kinds

-- the rule that a problem of a kind breaks
abbrev pub rule_text : ProblemKind → List ℕ
rule_text kinds.DuplicateName =
    codes "the name stands twice in its group, or the class has two callbacks of one kind"
rule_text kinds.UnknownName = codes "a name isn't declared, or is of the wrong kind"
rule_text kinds.CyclicHierarchy = codes "the type is its own supertype"
rule_text kinds.AbstractBean = codes "the class of a bean can't be abstract"
rule_text kinds.TypedNotAType = codes "the bean lacks a type that its list typed names"
rule_text kinds.SpecializesNothing =
    codes "the bean specializes, so its class has to extend the class of a bean"
rule_text kinds.SpecializedTypeLost =
    codes "the bean has to have all types of the bean that it specializes"
rule_text kinds.UnmatchedDisposer =
    codes "the disposer needs a producer of its class that makes its type with its qualifiers"
rule_text kinds.TwoDisposers = codes "a producer can't have two disposers"
rule_text kinds.ConditionalDependent =
    codes "a bean of the scope Dependent can't have an observer with if_exists"
rule_text kinds.TwoBindingsOfOneType = codes "a binding can't stand twice in one list"
rule_text kinds.UnknownBody = codes "no script has the name of the body"
rule_text kinds.BodyOutsideShape =
    codes "the script names a field, a member or a type that isn't there"
rule_text kinds.ProceedNotAllowed = codes "only a script of an interceptor can proceed"
rule_text kinds.CheckedLifecycle =
    codes "a callback of an instance's life can't throw a checked exception"
rule_text kinds.Unsatisfied =
    codes "no enabled bean has the type and the qualifiers: declare one, or ask for others"
rule_text kinds.Ambiguous =
    codes "several enabled beans have the type and the qualifiers: add a qualifier, or make one of them an alternative with a priority"
rule_text kinds.Unproxyable =
    codes "a client proxy has to stand for the bean, and can't if the type is a final class"
rule_text kinds.InconsistentSpecialization =
    codes "two enabled beans specialize one bean: disable one of them"
rule_text kinds.DependentCycle =
    codes "an instance needs another of the same bean: give a bean of the cycle a normal scope"
rule_text kinds.FinalIntercepted = codes "a final class can't be intercepted"
rule_text kinds.TooMany = codes "there are too many beans or observers"
