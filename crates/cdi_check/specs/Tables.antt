-- What the tables of the code show.
use Rattle.cdi_live.specs.OwnPoints.{Inventory}
use Rattle.cdi_deployment.specs.declared.deployment.Deployment.{Deployment}
use Rattle.cdi_resolve.specs.Filters.{enabled_of}
use Rattle.cdi_types.specs.Declarations.{declarations_of}
use Rattle.cdi_resolve.specs.declared.bean_tables.BeanTables.{BeanTables}

-- what a deployment is, by these tables
abbrev pub setting_by : Deployment → BeanTables → Inventory
setting_by d t =
    record {
      qualifiers = t.declared.qualifiers;
      interceptors = d.interceptors;
      enabled =
          record {
            classes = d.classes;
            types = declarations_of d;
            beans = enabled_of t.resolver;
            interceptors = t.chains.interceptors;
          };
      chains = t.chains;
      disposers = t.disposers;
    }
