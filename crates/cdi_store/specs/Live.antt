-- The live instances by their numbers, which rise, and how they change.
use Rattle.std.specs.Prelude.{ℕ, ◌==◌, ◌++◌, ◌∷◌, [], not, Bool, false, List, filter, Option, Some, None, is_some, option_map, if◌then◌else◌}
use Rattle.cdi_base.specs.Maps.{Map, at, adjusted, put, without}
use Rattle.cdi_base.specs.Fields.{set}
use Rattle.cdi_base.specs.declared.value.Value.{Value}
use Rattle.cdi_base.specs.declared.value.Value.TheVariants.{Null}
use Rattle.cdi_store.specs.declared.instance.Component.{Component}
use Rattle.cdi_store.specs.declared.instance.Owner.{Owner}
use Rattle.cdi_store.specs.declared.instance.Owner.TheVariants as owners
use Rattle.cdi_store.specs.declared.instance.Phase.{Phase}
use Rattle.cdi_store.specs.declared.instance.Phase.TheVariants.{New, Ready, Leaving}
use Rattle.cdi_store.specs.declared.instance.Instance.{Instance}
use Rattle.cdi_store.specs.declared.references.Reference.{Reference}
use Rattle.cdi_store.specs.declared.key.Key.{Key}

abbrev pub Instances : Type 0
Instances = Map Instance

-- what a store keeps: the instances and the slot of each by their numbers, which rise, and the next number
pub record Kept : Type 0 where
  pub instances : Instances
  pub slots : Map ℕ
  pub next : ℕ

abbrev pub is_slot : Option ℕ → ℕ → Bool
is_slot None slot = false
is_slot (Some s) slot = s == slot

-- the key is that of a live instance: its number is that of the instance in its slot
abbrev pub is_live : Kept → Key → Bool
is_live kept key = is_slot (at kept.slots key.number) key.slot

-- the key of the live instance with a number
abbrev pub key_at : Kept → ℕ → Option Key
key_at kept n = option_map (λ slot. record { slot = slot; number = n }) (at kept.slots n)

-- an instance is gone, and its number is given to no other
abbrev pub without_instance : ℕ → Kept → Kept
without_instance n kept =
    record { instances = without n kept.instances; slots = without n kept.slots; next = kept.next }

-- an instance at the begin of its creation
abbrev pub newborn : Component → Owner → List (ℕ × Value) → Instance
newborn component owner fields =
    record {
      component = component;
      owner = owner;
      phase = New;
      fields = fields;
      references = [];
      value = Null;
      dependents = [];
    }

abbrev pub with_newborn : ℕ → Component → Owner → List (ℕ × Value) → Instances → Instances
with_newborn n component owner fields live = live ++ (n, newborn component owner fields) ∷ []

-- a field of an instance has another value; a field that isn't there stays absent
abbrev pub with_field : ℕ → ℕ → Value → Instances → Instances
with_field n field value = adjusted n (λ o. record o { fields = set o.fields field value })

-- an injected field has a reference
abbrev pub with_reference : ℕ → ℕ → Reference → Instances → Instances
with_reference n field reference =
    adjusted n (λ o. record o { references = put field reference o.references })

-- a product has a value
abbrev pub with_value : ℕ → Value → Instances → Instances
with_value n value = adjusted n (λ o. record o { value = value })

abbrev pub in_phase : Phase → ℕ → Instances → Instances
in_phase phase n = adjusted n (λ o. record o { phase = phase })

-- the instance is another owner's
abbrev pub owned_by : Owner → ℕ → Instances → Instances
owned_by owner n = adjusted n (λ o. record o { owner = owner })

-- ---- dependents

abbrev pub all_but : ℕ → List ℕ → List ℕ
all_but n numbers = filter (λ m. not (m == n)) numbers

-- the owner has the instance once, as its last dependent
abbrev pub with_dependent : ℕ → Owner → Instances → Instances
with_dependent n (owners.Instance m) live =
    adjusted m (λ o. record o { dependents = all_but n o.dependents ++ n ∷ [] }) live
with_dependent n (owners.Context context) live = live
with_dependent n owners.Borrower live = live

-- the owner has the instance no longer
abbrev pub without_dependent : ℕ → Owner → Instances → Instances
without_dependent n (owners.Instance m) live =
    adjusted m (λ o. record o { dependents = all_but n o.dependents }) live
without_dependent n (owners.Context context) live = live
without_dependent n owners.Borrower live = live

abbrev pub for_owner : Option Instance → (Owner → Instances → Instances) → Instances → Instances
for_owner None f live = live
for_owner (Some o) f live = f o.owner live

-- the instance is ready, and its owner has it
abbrev pub with_ready : ℕ → Instances → Instances
with_ready n live = in_phase Ready n (for_owner (at live n) (with_dependent n) live)

-- the destruction of the instance has begun, and its owner has it no longer
abbrev pub with_leaving : ℕ → Instances → Instances
with_leaving n live = in_phase Leaving n (for_owner (at live n) (without_dependent n) live)

-- the instance gets an owner, which has it as its last dependent
abbrev pub with_owner : ℕ → Owner → Instances → Instances
with_owner n owner live = owned_by owner n (with_dependent n owner live)

-- the number of an owner, if it is a live instance
abbrev pub number_of : Instances → Owner → Option ℕ
number_of live (owners.Instance m) = if is_some (at live m) then Some m else None
number_of live (owners.Context context) = None
number_of live owners.Borrower = None

abbrev pub owner_in : Instances → Option Instance → Option ℕ
owner_in live None = None
owner_in live (Some o) = number_of live o.owner

-- the number of the live instance that owns an instance, if one does
abbrev pub owner_at : ℕ → Instances → Option ℕ
owner_at n live = owner_in live (at live n)

-- the reference of an injected field, if the instance lives and the field has one
abbrev pub reference_in : Option Instance → ℕ → Option Reference
reference_in None field = None
reference_in (Some o) field = at o.references field

abbrev pub reference_at : ℕ → ℕ → Instances → Option Reference
reference_at n field live = reference_in (at live n) field
