-- What holds of every deployment that was read with its scripts.
use Rattle.std.specs.Prelude.{IsTrue}
use Rattle.std.specs.List.{list_all}
use Rattle.cdi_base.specs.BuiltIn.{built_in_names}
use Rattle.cdi_base.specs.Name.{Extends, is_name}
use Rattle.cdi_deployment.specs.KnownNames.{KnowsNames}
use Rattle.cdi_deployment.specs.Limits.{is_within}
use Rattle.cdi_deployment.specs.declared.deployment.Deployment.{Deployment}

pub record HasFacts (d : Deployment) : Type 0 where
  -- no list is longer than its limit
  pub limits : IsTrue (is_within d)
  -- each name in its lists is a name of its table
  pub known : KnowsNames d
  -- the table begins with the built-in names
  pub built_in : Extends built_in_names d.names
  -- and each text in it is a name
  pub texts : IsTrue (list_all is_name d.names)
