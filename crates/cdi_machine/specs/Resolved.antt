-- That points are resolved as something resolves what they ask for.
use Rattle.std.specs.Prelude.{◌≡◌, List}
use Rattle.std.specs.List.{All}
use Rattle.cdi_machine.specs.Told.{point_told, resolution_told}
use Rattle.cdi_machine.specs.declared.member.Member.{Member}
use Rattle.cdi_machine.specs.declared.member.Observer.{Observer}
use Rattle.cdi_machine.specs.declared.member.Product.{Product}
use Rattle.cdi_machine.specs.declared.member.Source.{Source}
use Rattle.cdi_machine.specs.declared.member.Source.TheVariants as sources
use Rattle.cdi_machine.specs.declared.point.Point.{Point}
use Rattle.cdi_machine.specs.declared.step.Step.{Step}
use Rattle.cdi_machine.specs.declared.step.Step.TheVariants as steps
use Rattle.cdi_machine.specs.Tables as machine
use Rattle.cdi_machine.specs.Words.{Asked}

module _ (resolve : Asked → machine.Resolution) where
  abbrev pub IsResolved : Point → Type 0
  IsResolved p = resolution_told p.resolution ≡ resolve (point_told p)

  abbrev pub AreResolved : List Point → Type 0
  AreResolved points = All IsResolved points

  -- the points of a step
  abbrev pub IsResolvedStep : Step → Type 0
  IsResolvedStep (steps.Intercept i) = Unit {0}
  IsResolvedStep (steps.Construct points l) = AreResolved points
  IsResolvedStep (steps.Inject field point) = IsResolved point
  IsResolvedStep (steps.Initialize code points) = AreResolved points
  IsResolvedStep (steps.Complete l) = Unit {0}

  -- those of a member
  abbrev pub IsResolvedMember : Member → Type 0
  IsResolvedMember m = AreResolved m.points

  -- those of a producer method; a producer field has none
  abbrev pub IsResolvedSource : Source → Type 0
  IsResolvedSource (sources.Method m) = IsResolvedMember m
  IsResolvedSource (sources.Field field) = Unit {0}

  -- those of a product's producer and of its disposers
  pub record IsResolvedProduct (p : Product) : Type 0 where
    pub source : IsResolvedSource p.source
    pub disposers : All IsResolvedMember p.disposers

  -- those of an observer
  abbrev pub IsResolvedObserver : Observer → Type 0
  IsResolvedObserver o = IsResolvedMember o.member
