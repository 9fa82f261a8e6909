-- The words of an instance's life, each as the machine's word.
use Rattle.std.specs.Prelude.{map}
use Rattle.cdi_machine.specs.declared.member.Member.{Member}
use Rattle.cdi_machine.specs.declared.member.Method.{Method}
use Rattle.cdi_machine.specs.declared.member.Observer.{Observer}
use Rattle.cdi_machine.specs.declared.member.Product.{Product}
use Rattle.cdi_machine.specs.declared.member.Source.{Source}
use Rattle.cdi_machine.specs.declared.member.Source.TheVariants as sources
use Rattle.cdi_machine.specs.declared.point.Point.{Point}
use Rattle.cdi_machine.specs.declared.point.Resolution.{Resolution}
use Rattle.cdi_machine.specs.declared.point.Resolution.TheVariants as resolutions
use Rattle.cdi_machine.specs.declared.step.Lifecycle.{Lifecycle}
use Rattle.cdi_machine.specs.declared.step.Step.{Step}
use Rattle.cdi_machine.specs.declared.step.Step.TheVariants as steps
use Rattle.cdi_machine.specs.Tables as machine
use Rattle.cdi_machine.specs.Words.{Asked}

abbrev pub resolution_told : Resolution → machine.Resolution
resolution_told (resolutions.One bean) = machine.Resolution.One bean
resolution_told resolutions.Nothing = machine.Resolution.Nothing
resolution_told resolutions.Many = machine.Resolution.Many

-- what is asked for at a point
abbrev pub point_told : Point → Asked
point_told p = record { type = p.bean_type; qualifiers = p.qualifiers }

abbrev pub lifecycle_told : Lifecycle → machine.Lifecycle
lifecycle_told l = record { chain = l.chain; callbacks = l.callbacks }

abbrev pub step_told : Step → machine.Step
step_told (steps.Intercept i) = machine.Step.Intercept i
step_told (steps.Construct points l) =
    machine.Step.Construct (map point_told points) (lifecycle_told l)
step_told (steps.Inject field point) = machine.Step.Inject field (point_told point)
step_told (steps.Initialize code points) =
    machine.Step.Initialize code (map point_told points)
step_told (steps.Complete l) = machine.Step.Complete (lifecycle_told l)

abbrev pub method_told : Method → machine.Method
method_told m = record { code = m.code; count = m.count; chain = m.chain }

abbrev pub member_told : Member → machine.Member
member_told m =
    record { code = m.code; points = map point_told m.points; chain = m.chain }

abbrev pub source_told : Source → machine.Source
source_told (sources.Method m) = machine.Source.ProducerMethod (member_told m)
source_told (sources.Field field) = machine.Source.ProducerField field

abbrev pub product_told : Product → machine.Product
product_told p =
    record {
      declaring = p.declaring;
      source = source_told p.source;
      disposers = map member_told p.disposers;
    }

abbrev pub observer_told : Observer → machine.Observer
observer_told o =
    record { bean = o.bean; member = member_told o.member; conditional = o.conditional }
