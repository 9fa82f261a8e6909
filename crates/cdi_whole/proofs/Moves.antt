-- What the changes of a world do to it: the statements that the tasks rest on.
use Rattle.std.proofs.Common.{ℕ, ◌≡◌, Some}
use Rattle.cdi_base.specs.declared.value.Value.{Value}
use Rattle.cdi_base.specs.Fields.{has}
use Rattle.cdi_base.specs.Maps.{at}
use Rattle.cdi_store.specs.declared.instance.Component.{Component}
use Rattle.cdi_store.specs.declared.instance.Owner.{Owner}
use Rattle.cdi_store.specs.declared.instance.Owner.TheVariants as owners
use Rattle.cdi_store.specs.declared.instance.Phase.TheVariants as phases
use Rattle.cdi_store.specs.declared.instance.Instance.{Instance}
use Rattle.cdi_store.specs.declared.references.Reference.{Reference}
use Rattle.cdi_store.specs.Live.{Instances}
use Rattle.cdi_machine.specs.Words.{Name, Fields, Asked}
use Rattle.cdi_machine.specs.Tables.{Tables}
use Rattle.cdi_machine.specs.World.{World, Change, after_change}
use Rattle.cdi_machine.specs.Runs.{Legal}
use Rattle.cdi_ledger.specs.Whose.{IsIn}
use Rattle.cdi_whole.proofs.Whole.{fields_in, injected_in, intercepted_in, Declared, IsThere, Stands, IsOlder, IsFor, Attends, IsFree, Good}
use Rattle.cdi_whole.proofs.Remains.{Other, Each, But, AfterOf, AfterAt, After}
use Rattle.cdi_whole.proofs.Terms.{IdleIn}

-- the owner has it among its dependents
abbrev pub IsAdopted : Instances → Instances → ℕ → Owner → Type 0
IsAdopted before after n owner = (m : ℕ) → owner ≡ owners.Instance m → IsThere before m → (x : Instance) × (at after m ≡ Some x) × IsIn n x.dependents

abbrev pub Makes : Tables → Legal → Type 0
Makes t legal =
    (w : World) (component : Component) (owner : Owner) (fields : Fields) → Good t legal w → Declared t legal component → IsOlder w.next owner
    → ((name : Name) → has fields name ≡ has (fields_in t component) name)
    → After t legal w (after_change (Change.Make component owner fields) w)
    × Stands (after_change (Change.Make component owner fields) w).instances w.next component owner phases.New

-- what a borrower gets has this number
abbrev pub SettlesAt : Tables → Legal → ℕ → World → World → Type 0
SettlesAt t legal n w u = AfterOf t legal (Other n) Each w.instances n w.temporaries w.invocations w.bodies u.instances u.next u.contexts u.temporaries u.invocations u.bodies

abbrev pub Settles : Tables → Legal → Type 0
Settles t legal =
    (w : World) (n : ℕ) (component : Component) (owner : Owner) → Good t legal w → Stands w.instances n component owner phases.New
    → ((i : ℕ) → IsIn i (intercepted_in t component) → Attends w.instances n i)
    → SettlesAt t legal n w (after_change (Change.Settle n) w)
    × Stands (after_change (Change.Settle n) w).instances n component owner phases.Ready
    × IsAdopted w.instances (after_change (Change.Settle n) w).instances n owner

abbrev pub Discards : Tables → Legal → Type 0
Discards t legal =
    (w : World) (n : ℕ) (component : Component) (owner : Owner) → Good t legal w → Stands w.instances n component owner phases.New → IdleIn w n
    → AfterAt t legal (Other n) Each w (after_change (Change.Discard n) w)

abbrev pub Leaves : Tables → Legal → Type 0
Leaves t legal =
    (w : World) (n : ℕ) (component : Component) (owner : Owner) → Good t legal w → Stands w.instances n component owner phases.Ready → IdleIn w n → IsFree w.instances n
    → AfterAt t legal (Other n) (But n) w (after_change (Change.Leave n) w)
    × Stands (after_change (Change.Leave n) w).instances n component owner phases.Leaving
    × ((i : ℕ) → IsIn i (intercepted_in t component) → Attends (after_change (Change.Leave n) w).instances n i)

abbrev pub Removes : Tables → Legal → Type 0
Removes t legal =
    (w : World) (n : ℕ) (component : Component) (owner : Owner) → Good t legal w → Stands w.instances n component owner phases.Leaving → IdleIn w n
    → AfterAt t legal (Other n) Each w (after_change (Change.Remove n) w)

abbrev pub Refers : Tables → Legal → Type 0
Refers t legal =
    (w : World) (n : ℕ) (field : Name) (r : Reference) (point : Asked) (o : Instance) → Good t legal w → at w.instances n ≡ Some o
    → IsIn (field, point) (injected_in t o.component) → IsFor t w.instances w.next point r
    → After t legal w (after_change (Change.Refer n field r) w)

pub record Moves (t : Tables) (legal : Legal) : Type 0 where
  pub makes : Makes t legal
  pub settles : Settles t legal
  pub discards : Discards t legal
  pub leaves : Leaves t legal
  pub removes : Removes t legal
  pub assigns : (w : World) (n : ℕ) (field : Name) (v : Value) → Good t legal w → After t legal w (after_change (Change.Assign n field v) w)
  pub refers : Refers t legal
  pub holds : (w : World) (n : ℕ) (v : Value) → Good t legal w → After t legal w (after_change (Change.Hold n v) w)
