-- Events and observers (Jakarta CDI 4.0, *Firing events* and *Observer notification*).
use Rattle.std.specs.Prelude.{ℕ, List, [], ◌∷◌, Bool, true, false, not, ◌||◌, ◌&&◌, Option, Some, None, slice_get, remove, codes}
use Rattle.cdi_base.specs.declared.value.Value.{Value}
use Rattle.cdi_base.specs.declared.value.Value.TheVariants as values
use Rattle.cdi_base.specs.declared.entry.Entry.TheVariants as entries
use Rattle.cdi_base.specs.declared.built_in.BuiltIn.{BuiltIn}
use Rattle.cdi_base.specs.declared.built_in.BuiltIn.TheVariants as built_in
use Rattle.cdi_base.specs.declared.uses.Use.{Use}
use Rattle.cdi_base.specs.BuiltIn.{number_of}
use Rattle.cdi_base.specs.Maps.{at}
use Rattle.cdi_store.specs.declared.instance.Context.{Context}
use Rattle.cdi_store.specs.declared.instance.Context.TheVariants.{Application, Request, Session}
use Rattle.cdi_contexts.specs.declared.context.Status.{Status}
use Rattle.cdi_contexts.specs.declared.context.Status.TheVariants.{Ending, Open}
use Rattle.cdi_contexts.specs.declared.context.Held.{Held}
use Rattle.cdi_contexts.specs.declared.context.Held.TheVariants.{Is}
use Rattle.cdi_store.specs.declared.instance.Owner.TheVariants as owners
use Rattle.cdi_contexts.specs.Contexts.{Active, active_context}
use Rattle.cdi_machine.specs.Words.{Name}
use Rattle.cdi_machine.specs.Tables.{Bean, Observer}
use Rattle.cdi_machine.specs.World.{World}
use Rattle.cdi_machine.specs.Programs.{Task, Given, Prog, see, handle, quietly, require_present, call, finish, note, each, pick, bean_at, groups_of, rethrow, ◌>>=◌, ◌>>◌}
use Rattle.cdi_machine.specs.Contexts.{is_normal}
use Rattle.cdi_machine.specs.Bodies.{invoke}
use Rattle.cdi_machine.specs.Destruction.{borrow_for, obtain_receiver}

-- the groups one after the other, by priority (Jakarta CDI 4.0, *Observer ordering*); a throw ends the delivery
abbrev pub fire : Name → List Use → Value → Prog Given
fire class qualifiers v = do
  note (entries.Event class qualifiers)
  groups ← groups_of class qualifiers
  each groups λ group. call (Task.Notify group v)
  finish

abbrev pub is_there : Option Held → Bool
is_there (Some (Is n)) = true
is_there _ = false

abbrev pub is_ending : Status → Bool
is_ending Ending = true
is_ending Open = false

abbrev pub is_out : Observer → Option Active → Bool
is_out o None = true
is_out o (Some c) = not (is_there (at c.holds o.bean)) && (o.conditional || is_ending c.status)

-- An observer isn't called in an inactive scope, nor if its instance would have to be made and it is conditional or the
-- context is ending (Jakarta CDI 4.0, *Conditional observer methods*).
abbrev pub is_skipped : World → Observer → Bean → Bool
is_skipped w o bean =
    is_normal bean.scope && is_out o (active_context w.contexts w.environment bean.scope)

abbrev pub observe : Observer → Value → Prog Given
observe o v = borrow_for do
  n ← obtain_receiver o.bean
  invoke n o.member (v ∷ []) owners.Borrower

abbrev pub deliver : Observer → Value → Prog Given
deliver o v = do
  bean ← bean_at o.bean
  skipped ← see λ t w. Prog.ret (is_skipped w o bean)
  elim skipped [
    | true ↦ finish
    | false ↦ handle (observe o v) (λ _. finish) (λ x. rethrow x built_in.ObserverException)
  ]

-- those of a group that are left, one at a time; skipped ones are picked too
abbrev pub notify : List Observer → Value → Prog Given
notify [] v = finish
notify observers v = do
  i ← pick observers
  o ← require_present (slice_get observers i)
  deliver o v
  call (Task.Notify (remove observers i) v)

-- ---- the events of the container itself (Jakarta CDI 4.0, *Context management for built-in scopes*, *Startup event* and
-- *Shutdown event*)

abbrev pub scope_name : Context → List ℕ
scope_name Application = codes "ApplicationScoped"
scope_name (Session s) = codes "SessionScoped"
scope_name (Request r) = codes "RequestScoped"

abbrev pub qualifier : BuiltIn → Context → Use
qualifier what c =
    record {
      name = number_of what;
      members = record { name = number_of built_in.Value; value = values.Text (scope_name c) } ∷ [];
    }

-- what is thrown in one is dropped
abbrev pub fire_context_event : BuiltIn → Context → Prog (Unit {0})
fire_context_event what c =
    quietly (call (Task.Fire (number_of built_in.Object) (qualifier what c ∷ []) values.Null))

abbrev pub fire_container_event : BuiltIn → Prog (Unit {0})
fire_container_event class = quietly (call (Task.Fire (number_of class) [] values.Null))
