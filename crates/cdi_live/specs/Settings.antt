-- What the tables of the code show.
use Rattle.std.specs.Prelude.{length}
use Rattle.cdi_live.specs.Graphs.{Counts}
use Rattle.cdi_live.specs.OwnPoints.{Inventory}
use Rattle.cdi_live.specs.declared.deployment_tables.DeploymentTables.{DeploymentTables}

abbrev pub setting_of : DeploymentTables → Inventory
setting_of t =
    record {
      qualifiers = t.beans.now.declared.qualifiers;
      interceptors = t.deployment.now.interceptors;
      enabled = t.live.now;
      chains = t.beans.now.chains;
      disposers = t.beans.now.disposers;
    }

-- all beans of the list, and the enabled interceptors
abbrev pub counts_of : DeploymentTables → Counts
counts_of t =
    record {
      beans = length t.beans.now.resolver.beans;
      interceptors = length t.live.now.interceptors;
    }
