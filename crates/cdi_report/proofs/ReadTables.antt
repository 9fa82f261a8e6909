-- What holds of the table of the names of each value holds of the table of each deployment that was read.
use Rattle.std.proofs.Common.{ℕ, Bool, true, false, not, List, Option, Some, None, Ok, Err, IfOk, if◌then◌else◌}
use Rattle.cdi_base.specs.Reading.{◌>>=◌}
use Rattle.cdi_deploy.specs.Items.{lists_in}
use Rattle.cdi_deploy.specs.Naming.{Table}
use Rattle.cdi_deploy.specs.Reading.{deployment_of, is_too_long, lists_of, or_not_json, or_shape, deployment_in, root, table_of, within_limits}
use Rattle.cdi_deploy.specs.declared.fault.ReadFault.{ReadFault}
use Rattle.cdi_deployment.specs.Limits.{is_within}
use Rattle.cdi_deployment.specs.declared.deployment.Deployment.{Deployment}
use Rattle.cdi_form.specs.Names.{names_fit}
use Rattle.cdi_form.specs.Numbers.{numbers_fit}
use Rattle.cdi_form.specs.Shape.{wrong}
use Rattle.cdi_form.specs.Json.{json_in}
use Rattle.serde_json.specs.Data.{Data}

module _ (P : List (List ℕ) → Type 0) where
  abbrev HasTable : Deployment → Type 0
  HasTable d = P d.names

  of-lists : (names : List (List ℕ)) (d : Data) → P names → HasTable (lists_in names d)
  unfolding lists_in
  of-lists names d h = h

  of-table : (d : Data) (table : Table) → IfOk table P
      → IfOk ((table >>= λ names. Ok (lists_in names d)) >>= within_limits) HasTable
  of-table d (Err fault) h = tt
  of-table d (Ok names) h = by (is_within (lists_in names d))
    where
      by : (b : Bool) → IfOk (if b then Ok (lists_in names d) else Err ReadFault.TooMany) HasTable
      by true = of-lists names d h
      by false = tt

  module _ (each : (d : Data) → IfOk (table_of d) P) where
    of-value : (d : Data) → IfOk (deployment_of d) HasTable
    unfolding deployment_of lists_of
    of-value d = by (numbers_fit d) (wrong d root) (names_fit d root)
      where
        by : (numbers : Bool) (place : Option (List ℕ)) (names : Bool)
            → IfOk (if not numbers then Err ReadFault.BadNumber
            else or_shape place (if not names then Err ReadFault.BadName
            else (table_of d >>= λ n. Ok (lists_in n d)) >>= within_limits)) HasTable
        by false place names = tt
        by true (Some path) names = tt
        by true None false = tt
        by true None true = of-table d (table_of d) (each d)

    pub of-read : (bytes : List ℕ) → IfOk (deployment_in bytes) (λ d. P d.names)
    unfolding deployment_in
    of-read bytes = by (is_too_long bytes) (json_in bytes)
      where
        by : (long : Bool) (o : Option Data)
            → IfOk (if long then Err ReadFault.TooLong else or_not_json o >>= deployment_of)
            HasTable
        by true o = tt
        by false None = tt
        by false (Some d) = of-value d
