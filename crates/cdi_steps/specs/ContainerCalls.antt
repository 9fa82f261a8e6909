-- Calls by the container itself: producers, disposers and observers, on an instance of the bean that declares them (Jakarta CDI
-- 4.0, *Producer methods*, *Producer fields*, *Disposer methods*, *Observer methods*).
use Rattle.std.specs.Prelude.{ℕ, ◌++◌, List, [], ◌≡◌, ◌∷◌, drop, length, Bool, Option, Some, None, option_map, option_and_then, slice_get}
use Rattle.cdi_base.specs.declared.value.Value.{Value}
use Rattle.cdi_base.specs.Maps.{at}
use Rattle.cdi_store.specs.declared.instance.Owner.{Owner}
use Rattle.cdi_store.specs.declared.instance.Owner.TheVariants as owners
use Rattle.cdi_store.specs.declared.references.Reference.{Reference}
use Rattle.cdi_machine.specs.Words.{Name, Asked}
use Rattle.cdi_machine.specs.Tables.{Tables, Member, Product, Resolution, Source}
use Rattle.cdi_machine.specs.World.{Change}
use Rattle.cdi_machine.specs.Programs as machine
use Rattle.cdi_machine.specs.Programs.{Given, Result, Prog, ret, see, complete, call, alter, instance, quietly, require_number, require_present, tell_missing, each, ◌>>=◌, ◌>>◌}
use Rattle.cdi_machine.specs.Bodies.{invoke}
use Rattle.cdi_machine.specs.Contexts.{direct_reference, reach_instance, resolve_points}
use Rattle.cdi_machine.specs.Creation.{accept, create_by}
use Rattle.cdi_machine.specs.Destruction.{dispose, obtain_receiver}
use Rattle.cdi_host.specs.Asked.{product_of}
use Rattle.cdi_machine.specs.Told.{member_told}
use Rattle.cdi_steps.specs.declared.task.Callee.{Callee}
use Rattle.cdi_steps.specs.declared.task.Callee.TheVariants as callees
use Rattle.cdi_steps.specs.declared.task.CallParameters.{CallParameters}
use Rattle.cdi_steps.specs.declared.task.ContainerCall.{ContainerCall}
use Rattle.cdi_steps.specs.declared.task.Disposal.{Disposal}

-- ---- what is called

abbrev pub product_at : Tables → ℕ → Option Product
product_at t b = product_of (t.bean b)

abbrev pub disposers_of : Option Product → List Member
disposers_of None = []
disposers_of (Some p) = p.disposers

abbrev pub member_in : Source → Option Member
member_in (Source.ProducerMethod m) = Some m
member_in (Source.ProducerField field) = None

abbrev pub field_in : Source → Option Name
field_in (Source.ProducerMethod m) = None
field_in (Source.ProducerField field) = Some field

-- the producer method of a product
abbrev pub producer_of : Option Product → Option Member
producer_of None = None
producer_of (Some p) = member_in p.source

-- what is called, as the tables have it; a disposer and an observer are methods
abbrev pub source_of : Tables → Callee → Option Source
source_of t (callees.Producer n b) = option_map (λ (p : Product). p.source) (product_at t b)
source_of t (callees.Disposer b i) =
    option_map Source.ProducerMethod (slice_get (disposers_of (product_at t b)) i)
source_of t (callees.Observer o) = Some (Source.ProducerMethod (member_told o.member))

-- the producer field that is called
abbrev pub field_of : Tables → Callee → Option Name
field_of t c = option_and_then field_in (source_of t c)

-- what is called, if it is a method
abbrev pub member_of : Tables → Callee → Option Member
member_of t c = option_and_then member_in (source_of t c)

-- what the dependents of its parameters belong to
abbrev pub owner_of : Callee → Owner
owner_of (callees.Producer n b) = owners.Instance n
owner_of _ = owners.Borrower

-- ---- the call

-- what a field of an instance holds
abbrev pub read_field : ℕ → Name → Prog Given
read_field m field = do
  o ← instance m
  v ← require_present (at o.fields field)
  ret (Result v)

-- a method is invoked, and a field is read
abbrev pub call_source : Option Source → ℕ → List Value → Owner → Prog Given
call_source None m args owner = tell_missing
call_source (Some (Source.ProducerMethod member)) m args owner = invoke m member args owner
call_source (Some (Source.ProducerField field)) m args owner = read_field m field

-- on an instance
abbrev pub call_on : Tables → ContainerCall → ℕ → Prog Given
call_on t c m = call_source (source_of t c.callee) m c.args (owner_of c.callee)

-- on the receiver
abbrev pub receive : Tables → ContainerCall → Prog Given
receive t c = obtain_receiver c.declaring >>= call_on t c

-- on the contextual instance that was obtained for it, or on one that was made for it
abbrev pub receive_obtained : Tables → ContainerCall → machine.Completion Given → Prog Given
receive_obtained t c there = (complete there >>= require_number) >>= call_on t c

abbrev pub receive_made : Tables → ContainerCall → machine.Completion Given → Prog Given
receive_made t c made =
    ((complete made >>= λ g. ret (direct_reference g)) >>= reach_instance) >>= call_on t c

-- ---- its parameters

-- the chain runs with these references
abbrev pub run_with : Member → List Reference → Prog Given
run_with m rs = do
  alter (Change.Provide rs)
  call (machine.Rest m.chain)

-- the points behind those with these references get theirs, and then the chain runs
abbrev pub supply_behind : Option Member → Owner → List Reference → Prog Given
supply_behind None owner rs = tell_missing
supply_behind (Some m) owner rs =
    resolve_points (drop (length rs) m.points) owner >>= λ others. run_with m (rs ++ others)

abbrev pub supply : Tables → CallParameters → Prog Given
supply t p = supply_behind (member_of t p.callee) (owner_of p.callee) p.references

-- the same, behind one more that was made
abbrev pub supply_made : Tables → CallParameters → machine.Completion Given → Prog Given
supply_made t p c =
    (complete c >>= λ made. ret (direct_reference made))
    >>= λ r. supply_behind (member_of t p.callee) (owner_of p.callee) (p.references ++ r ∷ [])

-- ---- products

-- a creation whose product was given
abbrev pub create_with : ℕ → Bool → machine.Completion Given → Prog Given
create_with n normal c = create_by n (complete c >>= accept normal n)

-- the disposers from a place on
abbrev pub dispose_with : Option Product → ℕ → Value → Prog Given
dispose_with None i v = tell_missing
dispose_with (Some p) i v = each (drop i p.disposers) (dispose p v)

abbrev pub dispose_of : Tables → Disposal → Prog Given
dispose_of t d = dispose_with (product_at t d.bean) d.next d.value

-- ---- how the engine goes through them

-- the member that is called, and the injection point of its next parameter
pub record IsNextCallPoint (t : Tables) (p : CallParameters) (m : Member) (point : Asked)
    : Type 0 where
  pub member : member_of t p.callee ≡ Some m
  pub next : slice_get m.points (length p.references) ≡ Some point

-- the next point resolves so
pub record HasNextResolution (t : Tables) (p : CallParameters) (r : Resolution) : Type 0 where
  pub member : Member
  pub point : Asked
  pub stands : IsNextCallPoint t p member point
  pub resolves : t.resolve point ≡ r
