-- Which deployments have a bean list, and the problems of the others (Jakarta CDI 4.0, Problems detected automatically by the
-- container).
use Rattle.std.specs.Prelude.{◌≢◌, List, []}
use Rattle.cdi_base.specs.declared.or_memory.OrMemory.{OrMemory}
use Rattle.cdi_base.specs.declared.or_memory.OrMemory.TheVariants as errors
use Rattle.cdi_deployment.specs.declared.deployment.Deployment.{Deployment}
use Rattle.cdi_bean_rules.specs.Tiers.{AreBeanProblems}
use Rattle.cdi_name_check.specs.NameProblems.{AreNameProblems}
use Rattle.cdi_problems.specs.declared.problem.Problem.{Problem}
use Rattle.cdi_quals.specs.Types.{AreQualifiersOf, AreTypesOf}
use Rattle.cdi_quals.specs.declared.types.QualifierType.{QualifierType}
use Rattle.cdi_beans.specs.BeanLists.{IsBeanListOf}
use Rattle.cdi_beans.specs.declared.bean.BeanList.{BeanList}

-- a deployment whose names have no problem, and its beans neither, with the types of its qualifiers and its bean list
pub record IsMadeOf (d : Deployment) (list : BeanList) : Type 0 where
  pub qualifiers : List QualifierType
  pub are_qualifiers : AreQualifiersOf d qualifiers
  pub bindings : List QualifierType
  pub are_bindings : AreTypesOf d.names d.bindings bindings
  pub names_well : AreNameProblems d []
  pub beans_well : AreBeanProblems d qualifiers []
  pub is : IsBeanListOf d qualifiers bindings list

-- problems of names or, if there are none, of beans
pub data AreEarlyProblemsOf (d : Deployment) (problems : List Problem) : Type 0 where
  of_names : AreNameProblems d problems → AreEarlyProblemsOf d problems
  of_beans : {qualifiers : List QualifierType} → AreQualifiersOf d qualifiers → AreNameProblems d []
      → AreBeanProblems d qualifiers problems
      → AreEarlyProblemsOf d problems

-- the problems of a deployment that has some
pub record AreAllProblemsOf (d : Deployment) (problems : List Problem) : Type 0 where
  pub some : problems ≢ []
  pub are : AreEarlyProblemsOf d problems

-- the fault is the problems of a deployment that has some, or memory ran out
abbrev pub IsRefusedWith : Deployment → OrMemory (List Problem) → Type 0
IsRefusedWith d (errors.Fault problems) = AreAllProblemsOf d problems
IsRefusedWith d errors.Memory = Unit {0}
