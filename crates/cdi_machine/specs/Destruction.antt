-- Destruction (Jakarta CDI 4.0, *Lifecycle of managed beans* and *Destruction of objects with scope @Dependent*), and what lives as long
-- as an invocation (Jakarta CDI 4.0, *Dependent objects*).
use Rattle.std.specs.Prelude.{ℕ, List, [], ◌∷◌, Option, Some, None, slice_get}
use Rattle.cdi_base.specs.declared.value.Value.{Value}
use Rattle.cdi_base.specs.declared.entry.Entry.TheVariants as entries
use Rattle.cdi_base.specs.declared.place.InterceptorMethod.TheVariants as roles
use Rattle.cdi_store.specs.declared.instance.Context.{Context}
use Rattle.cdi_store.specs.declared.instance.Phase.TheVariants as phases
use Rattle.cdi_store.specs.declared.instance.Component.{Component}
use Rattle.cdi_store.specs.declared.instance.Component.TheVariants as components
use Rattle.cdi_store.specs.declared.instance.Owner.TheVariants as owners
use Rattle.cdi_store.specs.declared.instance.Instance.{Instance}
use Rattle.cdi_contexts.specs.Contexts.{Active, context_at, greatest}
use Rattle.cdi_machine.specs.Tables.{Member, Kind, Product}
use Rattle.cdi_machine.specs.World.{Change, instance_at}
use Rattle.cdi_machine.specs.Programs.{Task, Given, Prog, see, mark, quietly, finally, do_nothing, require_present, call, finish, note, alter, each, pick, bean_at, instance, top, ◌>>=◌, ◌>>◌}
use Rattle.cdi_machine.specs.Contexts.{refer_to, reach_instance}
use Rattle.cdi_machine.specs.Bodies.{invoke, call_back}

-- ---- temporaries

abbrev pub latest : List ℕ → Option ℕ
latest [] = None
latest (n ∷ []) = Some n
latest (n ∷ ns) = latest ns

abbrev pub dismiss_latest : Option ℕ → Prog Given
dismiss_latest None = finish
dismiss_latest (Some n) = do
  call (Task.Destroy n)
  call Task.Dismiss

-- the latest of the innermost temporaries, until there is none
abbrev pub dismiss : Prog Given
dismiss = do
  temporaries ← see λ t w. top w.temporaries
  dismiss_latest (latest temporaries)

abbrev pub give_back : Prog Given
give_back = finally (call Task.Dismiss) (alter Change.Return)

-- what is temporary in it is destroyed at its end, also if it throws
abbrev pub borrow_for : Prog Given → Prog Given
borrow_for p = do
  alter Change.Borrow
  finally p give_back

-- the instance whose producer, disposer or observer is called
abbrev pub obtain_receiver : ℕ → Prog ℕ
obtain_receiver b = do
  r ← refer_to b owners.Borrower
  reach_instance r

-- ---- destruction

abbrev pub dispose : Product → Value → Member → Prog Given
dispose product v disposer = borrow_for do
  n ← obtain_receiver product.declaring
  invoke n disposer (v ∷ []) owners.Borrower

abbrev pub clean_up_bean : ℕ → Value → Kind → Prog Given
clean_up_bean n v (Kind.Class c) =
    call_back n roles.PreDestroy c.pre_destroy.callbacks c.pre_destroy.chain
clean_up_bean n v (Kind.Producer p) = each p.disposers (dispose p v)

-- an interceptor's instance has nothing between its end and its dependents'
abbrev pub clean_up : ℕ → Value → Component → Prog Given
clean_up n v (components.Interceptor i) = finish
clean_up n v (components.Bean b) = do
  bean ← bean_at b
  clean_up_bean n v bean.kind

abbrev pub only_ready : Option Instance → Option Instance
only_ready None = None
only_ready (Some o) =
    elim o.phase [ phases.New ↦ None | phases.Ready ↦ Some o | phases.Leaving ↦ None ]

-- the instance, which is neither being made nor being destroyed
abbrev pub ready_instance : ℕ → Prog Instance
ready_instance n = see λ t w. require_present (only_ready (instance_at w n))

abbrev pub destroy_ready : ℕ → Instance → Prog Given
destroy_ready n o = do
  note (entries.End n)
  alter (Change.Leave n)
  mark n do_nothing
  quietly (clean_up n o.value o.component)
  call (Task.Release n)
  note (entries.Gone n)
  alter (Change.Remove n)
  finish

abbrev pub destroy : ℕ → Prog Given
destroy n = do
  o ← ready_instance n
  destroy_ready n o

abbrev pub release_from : ℕ → List ℕ → Prog Given
release_from n [] = finish
release_from n dependents = do
  i ← pick dependents
  dependent ← require_present (slice_get dependents i)
  call (Task.Destroy dependent)
  call (Task.Release n)

-- one dependent at a time
abbrev pub release : ℕ → Prog Given
release n = do
  o ← instance n
  release_from n o.dependents

abbrev pub greatest_in : Option Active → Option ℕ
greatest_in None = None
greatest_in (Some c) = greatest None c.holds

abbrev pub clear_from : Context → Option ℕ → Prog Given
clear_from c None = finish
clear_from c (Some n) = do
  call (Task.Destroy n)
  call (Task.Clear c)

-- the instance of the greatest number in the context, until there is none
abbrev pub clear : Context → Prog Given
clear c = see λ t w. clear_from c (greatest_in (context_at w.contexts c))
