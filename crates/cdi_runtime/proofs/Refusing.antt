-- What is refused is so as the machine's definition has it.
use Rattle.std.proofs.Common.{ℕ, ◌≡◌, ◌++◌, [], ◌∷◌, List, Option, Some, None, IsSome, Bool, true, false, length, refl, ap, sym}
use Rattle.std.specs.Global.{Box}
use Rattle.std.specs.Prelude.{option_map, option_and_then, not, if◌then◌else◌}
use Rattle.cdi_base.specs.declared.reply.Refusal.{Refusal}
use Rattle.cdi_base.specs.declared.reply.Refusal.TheVariants as refusals
use Rattle.cdi_contexts.specs.Refusals.{begin_refusal, begin_refusals, first_that_holds}
use Rattle.cdi_machine.specs.Words.{Asked}
use Rattle.cdi_machine.specs.Tables as machine
use Rattle.cdi_machine.specs.World.{World}
use Rattle.cdi_machine.specs.Commands.{Command}
use Rattle.cdi_machine.specs.Container.{idle_state, refusal, refused_by_contexts, refused_by_tables, call_refusals, read_refusals, bean_of}
use Rattle.cdi_run_tables.specs.Machine.{machine_tables}
use Rattle.cdi_run_tables.specs.declared.tables.RunTables.{RunTables}
use Rattle.cdi_host.specs.Asked.{asked_for, method_at, method_in, product_in, product_of}
use Rattle.cdi_runtime.specs.Refusals.{method_refusal, read_refusal, bean_refusal, known_resolution, resolved_refusal, use_refusal, contexts_refusal, otherwise}
use Rattle.cdi_runtime.specs.Standing.{IsServable}
use Rattle.cdi_steps.specs.Known.{asked_by, KnownJob}
use Rattle.cdi_steps.specs.Words.{command_of, use_command}
use Rattle.cdi_steps.specs.declared.task.BeanPurpose.{BeanPurpose}
use Rattle.cdi_steps.specs.declared.task.BeanPurpose.TheVariants as bean_purposes
use Rattle.cdi_steps.specs.declared.task.BeanUse.{BeanUse}
use Rattle.cdi_steps.specs.declared.task.Job.{Job}
use Rattle.cdi_steps.specs.declared.task.Job.TheVariants as jobs

-- what a bean refuses
abbrev use_refusals : Option machine.Bean → BeanPurpose → List (Bool × Refusal)
use_refusals bean (bean_purposes.Call method args) = call_refusals bean method (length args)
use_refusals bean bean_purposes.Read = read_refusals bean

module _ (t : machine.Tables) where
  -- of a bean that is there
  called : (b name count : ℕ) → IsSome (t.bean b) → first_that_holds (call_refusals (t.bean b) name count) ≡ method_refusal (method_at t b name) count
  called b name count = by (t.bean b)
    where
      of_kind : (bean : machine.Bean) (k : machine.Kind)
          → first_that_holds (call_refusals (Some (record { place = bean.place; scope = bean.scope; kind = k })) name count) ≡ method_refusal (method_in k name) count
      of_kind bean (machine.Kind.Class c) = refl
      of_kind bean (machine.Kind.Producer p) = refl

      by : (o : Option machine.Bean) → IsSome o
          → first_that_holds (call_refusals o name count) ≡ method_refusal (option_and_then (λ (bean : machine.Bean). method_in bean.kind name) o) count
      by None there = absurd cc
      by (Some bean) there = of_kind bean bean.kind

  read : (b : ℕ) → IsSome (t.bean b) → first_that_holds (read_refusals (t.bean b)) ≡ read_refusal (product_of (t.bean b))
  read b = by (t.bean b)
    where
      of_kind : (bean : machine.Bean) (k : machine.Kind)
          → first_that_holds (read_refusals (Some (record { place = bean.place; scope = bean.scope; kind = k }))) ≡ read_refusal (product_in k)
      of_kind bean (machine.Kind.Class c) = refl
      of_kind bean (machine.Kind.Producer p) = refl

      by : (o : Option machine.Bean) → IsSome o → first_that_holds (read_refusals o) ≡ read_refusal (product_of o)
      by None there = absurd cc
      by (Some bean) there = of_kind bean bean.kind

  bean_refused : (b : ℕ) (purpose : BeanPurpose) → IsSome (t.bean b) → first_that_holds (use_refusals (t.bean b) purpose) ≡ bean_refusal t b purpose
  bean_refused b (bean_purposes.Call method args) there = called b method (length args) there
  bean_refused b bean_purposes.Read there = read b there

  module _ (asked : Asked) (there : (b : ℕ) → t.resolve asked ≡ machine.One b → IsSome (t.bean b)) where
    resolved : (purpose : BeanPurpose) (x : machine.Resolution) → t.resolve asked ≡ x → first_that_holds (use_refusals (bean_of t x) purpose) ≡ resolved_refusal t x purpose
    resolved (bean_purposes.Call method args) machine.Nothing e = refl
    resolved (bean_purposes.Call method args) machine.Many e = refl
    resolved bean_purposes.Read machine.Nothing e = refl
    resolved bean_purposes.Read machine.Many e = refl
    resolved purpose (machine.One b) e = bean_refused b purpose (there b e)

    by_name : (purpose : BeanPurpose) (known : Bool)
        → first_that_holds ((not known, refusals.UnknownName) ∷ use_refusals (bean_of t (t.resolve asked)) purpose)
        ≡ (if known then resolved_refusal t (t.resolve asked) purpose else Some refusals.UnknownName)
    by_name purpose true = resolved purpose (t.resolve asked) refl
    by_name purpose false = refl

    used : (request : Option (List ℕ)) (purpose : BeanPurpose)
        → first_that_holds (refused_by_tables t (use_command request asked purpose))
        ≡ (if t.is_known asked then resolved_refusal t (t.resolve asked) purpose else Some refusals.UnknownName)
    used request (bean_purposes.Call method args) = by_name (bean_purposes.Call method args) (t.is_known asked)
    used request bean_purposes.Read = by_name bean_purposes.Read (t.is_known asked)

-- what is asked of the contexts is asked first
first_is : (xs ys : List (Bool × Refusal)) → first_that_holds (xs ++ ys) ≡ otherwise (first_that_holds xs) (first_that_holds ys)
first_is [] ys = refl
first_is (x ∷ xs) ys = by x.0 (first_is xs ys)
  where
    by : (b : Bool) → first_that_holds (xs ++ ys) ≡ otherwise (first_that_holds xs) (first_that_holds ys)
        → (if b then Some x.1 else first_that_holds (xs ++ ys)) ≡ otherwise (if b then Some x.1 else first_that_holds xs) (first_that_holds ys)
    by true rest = refl
    by false rest = rest

-- a container that is neither halted nor down
pub refused_in_order : (t : machine.Tables) (w : World) (halted : Bool) (c : Command) → halted ≡ false → w.down ≡ false
    → refusal t (idle_state w halted) c ≡ otherwise (contexts_refusal w.contexts c) (first_that_holds (refused_by_tables t c))
refused_in_order t w halted c e d = rw (e, d) (first_is (refused_by_contexts w.contexts c) (refused_by_tables t c))

pub use_refused : (t : RunTables) → IsServable t → (request : Option (List ℕ)) (used : BeanUse)
    → first_that_holds (refused_by_tables (machine_tables t) (use_command request (asked_for used.bean_type used.qualifiers) used.purpose)) ≡ use_refusal (machine_tables t) used
use_refused t h request u = used (machine_tables t) (asked_for u.bean_type u.qualifiers) (h.there (asked_for u.bean_type u.qualifiers)) request u.purpose

-- the use of what its type and qualifiers resolve to, if all names are known
pub refused_known : (t : machine.Tables) (u : BeanUse) (r : machine.Resolution) → Some r ≡ known_resolution t u → resolved_refusal t r u.purpose ≡ use_refusal t u
refused_known t u r = by (t.is_known (asked_by u))
  where
    by : (known : Bool) → Some r ≡ (if known then Some (t.resolve (asked_by u)) else None)
        → resolved_refusal t r u.purpose ≡ (if known then resolved_refusal t (t.resolve (asked_by u)) u.purpose else Some refusals.UnknownName)
    by true e = let same : r ≡ t.resolve (asked_by u) = cc in ap (λ x. resolved_refusal t x u.purpose) same
    by false e = absurd cc

-- a job that the contexts don't refuse and that uses no bean
pub known_beside : (t : machine.Tables) (w : World) (job : Job) → contexts_refusal w.contexts (command_of job) ≡ None
    → ((r : Option (List ℕ)) (u : Box BeanUse) → job ≡ jobs.Use r u → ⊥) → KnownJob t w job
known_beside t w (jobs.Begin names) e not_use = e
known_beside t w jobs.Boot e not_use = tt
known_beside t w (jobs.End r) e not_use = tt
known_beside t w (jobs.Invalidate s) e not_use = tt
known_beside t w (jobs.Use r u) e not_use = absurd (not_use r u refl)
known_beside t w (jobs.Fire r event) e not_use = tt
known_beside t w jobs.Live e not_use = tt
known_beside t w jobs.Shutdown e not_use = tt
