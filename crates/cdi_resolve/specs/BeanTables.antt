-- What is made from a deployment and its bean list.
use Rattle.std.specs.Prelude.{◌≡◌, Bool, List, map}
use Rattle.cdi_beans.specs.Declarations.{AreDeclaredBy}
use Rattle.cdi_beans.specs.Problems.{IsMadeOf}
use Rattle.cdi_beans.specs.declared.bean.BeanList.{BeanList}
use Rattle.cdi_beans.specs.declared.declared.DeclaredTables.{DeclaredTables}
use Rattle.cdi_plans.specs.Bindings.{class_bindings}
use Rattle.cdi_deployment.specs.declared.deployment.Deployment.{Deployment}
use Rattle.cdi_enable.specs.Enablement.{AreFlags, Enablement, enablement_of}
use Rattle.cdi_resolve.specs.declared.bean_tables.BeanTables.{BeanTables}

-- the tables of a deployment with its bean list, by what it declares and which beans are enabled
abbrev pub bean_tables : Deployment → BeanList → DeclaredTables → Enablement → List Bool
    → BeanTables
bean_tables d list declared enabled flags =
    record {
      declared = declared;
      enabled = enabled;
      resolver = record { beans = list.beans; flags = flags };
      chains = record {
        classes = map (class_bindings declared.bindings) d.classes;
        interceptors = list.interceptors;
      };
      observers = list.observers;
      disposers = list.disposers;
    }

pub record AreBeanTables (d : Deployment) (list : BeanList) (t : BeanTables) : Type 0 where
  pub declared : AreDeclaredBy d t.declared
  pub flags : AreFlags (enablement_of list) t.resolver.flags
  pub are : t ≡ bean_tables d list t.declared (enablement_of list) t.resolver.flags

-- the same of a deployment without problems of names or beans
pub record AreTablesOf (d : Deployment) (t : BeanTables) : Type 0 where
  pub list : BeanList
  pub made : IsMadeOf d list
  pub are : AreBeanTables d list t
