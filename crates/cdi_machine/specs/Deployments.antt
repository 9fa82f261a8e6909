-- Small deployments for worked runs.
use Rattle.std.specs.Prelude.{ℕ, ◌-◌, List, [], ◌∷◌, Bool, true, false, ◌&&◌, Option, Some, None, slice_get, nat_eq}
use Rattle.cdi_base.specs.declared.value.Value.TheVariants as values
use Rattle.cdi_base.specs.declared.entry.Entry.{Entry}
use Rattle.cdi_base.specs.declared.entry.Entry.TheVariants as entries
use Rattle.cdi_base.specs.declared.place.Place.TheVariants as places
use Rattle.cdi_base.specs.declared.place.InterceptorMethod.{InterceptorMethod}
use Rattle.cdi_base.specs.declared.place.InterceptorMethod.TheVariants as roles
use Rattle.cdi_base.specs.declared.scope.Scope.{Scope}
use Rattle.cdi_base.specs.declared.built_in.BuiltIn.{BuiltIn}
use Rattle.cdi_base.specs.declared.built_in.BuiltIn.TheVariants as built_in
use Rattle.cdi_base.specs.declared.uses.Use.{Use}
use Rattle.cdi_base.specs.BuiltIn.{number_of}
use Rattle.cdi_base.specs.Maps.{Map, at}
use Rattle.cdi_bodies.specs.Events.{same_qualifiers}
use Rattle.cdi_machine.specs.Words.{Name, Asked}
use Rattle.cdi_machine.specs.Tables.{Tables, Code, Method, Member, Lifecycle, Managed, Product, Kind, Bean, Interceptor, Observer, Resolution, Nothing}
use Rattle.cdi_machine.specs.Scripts.{next, Step as Steps}
use Rattle.cdi_machine.specs.Commands.{Command}
use Rattle.cdi_machine.specs.Container.{Said, Plays, before_commands}
use Rattle.cdi_machine.specs.Evaluator.{Performance, legal_in}

-- what stands for types and events is by their names alone, but for the container's own events
pub record Deployment : Type 0 where
  pub beans : List Bean
  pub interceptors : List Interceptor
  pub types : Map Resolution
  -- uses that aren't written as they stand
  pub written : List (List Use × List Use)
  pub observed : List (Name × List Use × List (List Observer))
  pub events : List Name
  pub scripts : List (List Steps × List Asked)
  pub checked : List Name
  pub texts : Map (List ℕ)

abbrev pub contains : List Name → Name → Bool
contains [] n = false
contains (m ∷ ms) n = elim (nat_eq m n) [ true ↦ true | false ↦ contains ms n ]

abbrev pub groups_heard : List (Name × List Use × List (List Observer)) → Name → List Use
    → List (List Observer)
groups_heard [] class uses = []
groups_heard ((c, us, groups) ∷ observed) class uses =
    elim (nat_eq c class && same_qualifiers us uses) [
      | true ↦ groups
      | false ↦ groups_heard observed class uses
    ]

abbrev pub rewriting : List (List Use × List Use) → List Use → List Use
rewriting [] uses = uses
rewriting ((us, vs) ∷ written) uses =
    elim (same_qualifiers us uses) [ true ↦ vs | false ↦ rewriting written uses ]

abbrev pub resolution : Option Resolution → Resolution
resolution None = Nothing
resolution (Some r) = r

abbrev pub is_some : {X : Type 0} → Option X → Bool
is_some None = false
is_some (Some x) = true

abbrev pub text_or_none : Option (List ℕ) → List ℕ
text_or_none None = []
text_or_none (Some text) = text

abbrev pub lookup_of : Option (List Steps × List Asked) → ℕ → Option Asked
lookup_of None k = None
lookup_of (Some s) k = slice_get s.1 k

abbrev pub tables_of : Deployment → Tables
tables_of d =
    record {
      bean = slice_get d.beans;
      interceptor = slice_get d.interceptors;
      resolve = λ a. resolution (at d.types a.type);
      written = rewriting d.written;
      observers = groups_heard d.observed;
      lookup = λ body k. lookup_of (slice_get d.scripts body) k;
      is_checked = contains d.checked;
      text = λ name. Some (text_or_none (at d.texts name));
      is_known = λ a. is_some (at d.types a.type);
      is_event = λ class uses. contains d.events class;
    }

abbrev pub steps_of : Option (List Steps × List Asked) → List Steps
steps_of None = []
steps_of (Some s) = s.0

abbrev pub first_chosen : ℕ → ℕ → ℕ
first_chosen n entries = 0

abbrev pub last_chosen : ℕ → ℕ → ℕ
last_chosen n entries = n - 1

-- the bodies are the scripts
abbrev pub played_by : Deployment → (ℕ → ℕ → ℕ) → Performance
played_by d chooses =
    record {
      tables = tables_of d;
      acts = λ body entries fields view. next (steps_of (slice_get d.scripts body)) fields view;
      chooses = chooses;
    }

-- ---- words to write them

abbrev pub of_type : Name → Asked
of_type type = record { type = type; qualifiers = [] }

abbrev pub no_chain : Lifecycle
no_chain = record { chain = []; callbacks = [] }

abbrev pub code : Name → Name → ℕ → Code
code class name body = record { place = places.Member class name; body = body }

abbrev pub method : Name → Name → ℕ → ℕ → List ℕ → Method
method class name body count chain =
    record { code = code class name body; count = count; chain = chain }

abbrev pub member : Name → Name → ℕ → List Asked → List ℕ → Member
member class name body points chain =
    record { code = code class name body; points = points; chain = chain }

abbrev pub constructor_of : Name → ℕ → Code
constructor_of class body = record { place = places.Constructor class; body = body }

-- a class with its plan
abbrev pub managed_bean : Name → Scope → Managed → Bean
managed_bean class scope c =
    record { place = places.Class class; scope = scope; kind = Kind.Class c }

abbrev pub product_bean : Name → Name → Scope → Product → Bean
product_bean class name scope p =
    record { place = places.Member class name; scope = scope; kind = Kind.Producer p }

-- which role has which body
abbrev pub by_role : Option ℕ → Option ℕ → Option ℕ → Option ℕ → InterceptorMethod → Option ℕ
by_role invoke construct post pre roles.AroundInvoke = invoke
by_role invoke construct post pre roles.AroundConstruct = construct
by_role invoke construct post pre roles.PostConstruct = post
by_role invoke construct post pre roles.PreDestroy = pre

-- the container's own events
abbrev pub of_context : BuiltIn → List ℕ → Entry
of_context what scope =
    entries.Event (number_of built_in.Object)
    (record {
      name = number_of what;
      members = record { name = number_of built_in.Value; value = values.Text scope } ∷ [];
    } ∷
    [])

abbrev pub of_container : BuiltIn → Entry
of_container class = entries.Event (number_of class) []

-- a container over the deployment, with so many entries a command and levels of bodies, says this to the commands
abbrev pub Shows : Deployment → (ℕ → ℕ → ℕ) → ℕ → ℕ → List Command → List Said → Type 0
Shows d chooses ticks depth commands said =
    Plays (tables_of d) (legal_in (played_by d chooses)) (before_commands ticks depth) commands said
