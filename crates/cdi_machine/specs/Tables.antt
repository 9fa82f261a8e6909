-- What the machine asks of a deployment: look-ups of beans, interceptors and observers, and resolution (Jakarta CDI 4.0,
-- *Typesafe resolution* and *Observer resolution*).
use Rattle.std.specs.Prelude.{ℕ, List, Option, Bool}
use Rattle.cdi_base.specs.declared.act.Act.{Act}
use Rattle.cdi_base.specs.declared.act.Act.TheVariants as acts
use Rattle.cdi_base.specs.declared.place.Place.{Place}
use Rattle.cdi_base.specs.declared.place.InterceptorMethod.{InterceptorMethod}
use Rattle.cdi_base.specs.declared.scope.Scope.{Scope}
use Rattle.cdi_base.specs.declared.uses.Use.{Use}
use Rattle.cdi_machine.specs.Words.{Name, Fields, Asked}

-- a body, and the member that it is of
pub record Code : Type 0 where
  pub place : Place
  pub body : ℕ

-- A business method, as a bean has it: how many values it takes, and the interceptors of its chain, in order. It has no
-- injected parameters.
pub record Method : Type 0 where
  pub code : Code
  pub count : ℕ
  pub chain : List ℕ

-- A producer, a disposer or an observer, as a bean has it: its parameters' points, and the interceptors of its chain, in
-- order.
pub record Member : Type 0 where
  pub code : Code
  pub points : List Asked
  pub chain : List ℕ

-- a lifecycle chain, and the callbacks at its end
pub record Lifecycle : Type 0 where
  pub chain : List ℕ
  pub callbacks : List Code

-- the steps by which a managed bean is created
pub data Step : Type 0 where
  -- an instance of an interceptor
  Intercept : ℕ → Step
  -- the constructor: the points of its parameters, its chain, and its body, if it has one
  Construct : List Asked → Lifecycle → Step
  -- an injected field
  Inject : Name → Asked → Step
  -- an initializer, and the points of its parameters
  Initialize : Code → List Asked → Step
  -- the post-construct chain and callbacks
  Complete : Lifecycle → Step

-- Classes go superclass first: in the fields, in the plan and in the callbacks.
pub record Managed : Type 0 where
  pub fields : Fields
  pub plan : List Step
  pub methods : List (Name × Method)
  pub pre_destroy : Lifecycle

-- what a product comes from (Jakarta CDI 4.0, *Producer methods* and *Producer fields*)
pub data Source : Type 0 where
  ProducerMethod : Member → Source
  ProducerField : Name → Source

pub record Product : Type 0 where
  pub declaring : ℕ
  pub source : Source
  pub disposers : List Member

pub data Kind : Type 0 where
  Class : Managed → Kind
  Producer : Product → Kind

pub record Bean : Type 0 where
  pub place : Place
  pub scope : Scope
  pub kind : Kind

pub record Interceptor : Type 0 where
  pub name : Name
  pub fields : Fields
  pub injected : List (Name × Asked)
  pub body : InterceptorMethod → Option ℕ

pub record Observer : Type 0 where
  pub bean : ℕ
  pub member : Member
  pub conditional : Bool

pub data Resolution : Type 0 where
  One : ℕ → Resolution
  Nothing Many : Resolution

pub record Tables : Type 0 where
  pub bean : ℕ → Option Bean
  pub interceptor : ℕ → Option Interceptor
  pub resolve : Asked → Resolution
  -- an event's qualifiers as they are written: all but Any, in order
  pub written : List Use → List Use
  -- the observers of an event, in groups by priority
  pub observers : Name → List Use → List (List Observer)
  -- what a body looks up
  pub lookup : ℕ → ℕ → Option Asked
  pub is_checked : Name → Bool
  -- the text of an exception's class
  pub text : Name → Option (List ℕ)
  -- whether the type and the qualifiers are known; whether it is a class that can be fired
  pub is_known : Asked → Bool
  pub is_event : Name → List Use → Bool

-- an act as it is written: the uses that it names are in their written form
abbrev pub written_act : Tables → Act → Act
written_act t (acts.Fire class qualifiers v) = acts.Fire class (t.written qualifiers) v
written_act t a = a
