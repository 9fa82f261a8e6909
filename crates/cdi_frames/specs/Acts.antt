-- What acts of bodies use.
use Rattle.std.specs.Prelude.{ℕ, ◌≡◌, Option, Some, None, Ok, Err, slice_get, option_map}
use Rattle.std.specs.Prelude.{Result as Either}
use Rattle.cdi_base.specs.declared.act.Act.{Act}
use Rattle.cdi_base.specs.declared.act.Act.TheVariants as acts
use Rattle.cdi_base.specs.declared.act.Via.{Via}
use Rattle.cdi_base.specs.declared.act.Via.TheVariants as vias
use Rattle.cdi_base.specs.declared.built_in.BuiltIn.{BuiltIn}
use Rattle.cdi_base.specs.declared.built_in.BuiltIn.TheVariants as built_in
use Rattle.cdi_base.specs.Maps.{at}
use Rattle.cdi_store.specs.declared.instance.Instance.{Instance}
use Rattle.cdi_store.specs.declared.references.Reference.{Reference}
use Rattle.cdi_machine.specs.Tables.{Tables, Resolution, One, Nothing, Many}
use Rattle.cdi_machine.specs.World.{World}
use Rattle.cdi_machine.specs.Programs.{Running, Given, Prog, finish, raise}
use Rattle.cdi_machine.specs.Bodies.{reference_at}
use Rattle.cdi_machine.specs.DestroyAct.{destroy_idle}
use Rattle.cdi_host.specs.Asked.{reference_in}
use Rattle.cdi_steps.specs.Leads.{next_stop}
use Rattle.cdi_steps.specs.declared.task.Purpose.{Purpose}
use Rattle.cdi_steps.specs.declared.task.Purpose.TheVariants as purposes

-- the reference by which a body on an instance, if that is there, reaches another one
abbrev pub reference_via : Option Instance → Running → Via → Option Reference
reference_via o r (vias.Field field) = reference_in o field
reference_via o r (vias.Param k) = Some (reference_at (slice_get r.references k))
reference_via o r (vias.Local k) = Some (reference_at (at r.locals k))

-- the act by which a reference is used
abbrev pub use_act : Via → Purpose → Act
use_act via (purposes.Call method args) = acts.Call via method args
use_act via purposes.Read = acts.Read via
use_act via (purposes.Write v) = acts.Write via v

-- the bean of a resolution, or the exception
abbrev pub bean_or_exception : Option Resolution → Either ℕ BuiltIn
bean_or_exception None = Err built_in.IllegalStateException
bean_or_exception (Some (One b)) = Ok b
bean_or_exception (Some Nothing) = Err built_in.UnsatisfiedResolutionException
bean_or_exception (Some Many) = Err built_in.AmbiguousResolutionException

-- the same of a lookup of a body
abbrev pub bean_looked_up : Tables → ℕ → ℕ → Either ℕ BuiltIn
bean_looked_up t body k = bean_or_exception (option_map t.resolve (t.lookup body k))

-- the destruction of an instance that was found, of none, and of one that can't be had
abbrev pub destroy_found : Either (Option ℕ) BuiltIn → Prog Given
destroy_found (Ok (Some n)) = destroy_idle n
destroy_found (Ok None) = finish
destroy_found (Err x) = raise x

-- two programs that come to the same, by silent steps
abbrev pub StopsAlike : Tables → World → Prog Given → Prog Given → Type 0
StopsAlike t w p q = next_stop t p w ≡ next_stop t q w
