-- Small tables and bodies that fit one another, with each part that there is; and ones that don't.
use Rattle.std.specs.Prelude.{ℕ, zero, suc, ◌≡◌, ◌==◌, List, [], ◌∷◌, true, Option, Some, None, length}
use Rattle.cdi_base.specs.declared.act.Act.{Act}
use Rattle.cdi_base.specs.declared.act.Act.TheVariants as acts
use Rattle.cdi_base.specs.declared.act.Via.TheVariants as vias
use Rattle.cdi_base.specs.declared.place.InterceptorMethod.{InterceptorMethod}
use Rattle.cdi_base.specs.declared.place.Place.TheVariants as places
use Rattle.cdi_base.specs.declared.scope.Scope.TheVariants as scopes
use Rattle.cdi_machine.specs.Words.{Name, Asked}
use Rattle.cdi_machine.specs.Tables.{Tables, Code, Member, Lifecycle, Step, Managed, Source, Kind, Bean, Interceptor, Observer, Resolution, One, Nothing}
use Rattle.cdi_machine.specs.Runs.{Legal}
use Rattle.cdi_whole.specs.Fits.{Fits}

abbrev pub of_type : Name → Asked
of_type type = record { type = type; qualifiers = [] }

abbrev pub code : ℕ → Code
code body = record { place = places.Member 1 7; body = body }

-- of the members that have a parameter; the interceptor stands round each
abbrev pub member : Member
member = record { code = code 1; points = of_type 1 ∷ []; chain = 0 ∷ [] }

abbrev pub round : List Code → Lifecycle
round callbacks = record { chain = 0 ∷ []; callbacks = callbacks }

-- A class with the field 4 and the injected field 5, a constructor with a parameter, an initializer, callbacks, and the method 7.
abbrev pub class : Managed
class =
    record {
      fields = (4, Rattle.cdi_base.specs.declared.value.Value.TheVariants.Null) ∷ [];
      plan =
          Step.Intercept 0 ∷
          Step.Construct (of_type 1 ∷ []) (round (code 1 ∷ [])) ∷
          Step.Inject 5 (of_type 1) ∷
          Step.Initialize (code 1) (of_type 1 ∷ []) ∷
          Step.Complete (round (code 3 ∷ [])) ∷
          [];
      methods = (7, record { code = code 0; count = 1; chain = 0 ∷ [] }) ∷ [];
      pre_destroy = round (code 3 ∷ []);
    }

abbrev pub bean : Bean
bean = record { place = places.Class 1; scope = scopes.ApplicationScoped; kind = Kind.Class class }

-- a product of the class, with a disposer
abbrev pub product : Bean
product =
    record {
      place = places.Member 1 8;
      scope = scopes.Dependent;
      kind = Kind.Producer (record { declaring = 0; source = Source.ProducerMethod member; disposers = member ∷ [] });
    }

-- one that comes from a field
abbrev pub field_product : Bean
field_product =
    record {
      place = places.Member 1 9;
      scope = scopes.RequestScoped;
      kind = Kind.Producer (record { declaring = 0; source = Source.ProducerField 4; disposers = [] });
    }

abbrev pub always_2 : InterceptorMethod → Option ℕ
always_2 role = Some 2

abbrev pub interceptor : Interceptor
interceptor = record { name = 2; fields = []; injected = (5, of_type 1) ∷ []; body = always_2 }

abbrev pub bean_at : ℕ → Option Bean
bean_at zero = Some bean
bean_at (suc zero) = Some product
bean_at (suc (suc zero)) = Some field_product
bean_at (suc (suc (suc n))) = None

abbrev pub interceptor_at : ℕ → Option Interceptor
interceptor_at zero = Some interceptor
interceptor_at (suc n) = None

abbrev pub resolution : Name → Resolution
resolution zero = Nothing
resolution (suc zero) = One 0
resolution (suc (suc zero)) = One 1
resolution (suc (suc (suc n))) = One 2

-- the method looks a product up
abbrev pub lookup_at : ℕ → ℕ → Option Asked
lookup_at zero zero = Some (of_type 2)
lookup_at zero (suc k) = None
lookup_at (suc body) k = None

abbrev pub observer : Observer
observer = record { bean = 0; member = member; conditional = true }

abbrev pub tables : Tables
tables =
    record {
      bean = bean_at;
      interceptor = interceptor_at;
      resolve = λ asked. resolution asked.type;
      written = λ uses. uses;
      observers = λ class uses. (observer ∷ observer ∷ []) ∷ [];
      lookup = lookup_at;
      is_checked = λ x. true;
      text = λ x. Some [];
      is_known = λ asked. true;
      is_event = λ class uses. class == 3;
    }

-- the method sets its field, looks up, reads, writes and destroys what it found, calls itself through the injected field and
-- by itself, fires and gives
abbrev pub MethodMay : Act → Type 0
MethodMay (acts.Set field v) = field ≡ 4
MethodMay (acts.Call (vias.Field field) name args) = (field ≡ 5) × (name ≡ 7) × (length args ≡ 1)
MethodMay (acts.Own name args) = (name ≡ 7) × (length args ≡ 1)
MethodMay (acts.Read (vias.Local k)) = k ≡ 0
MethodMay (acts.Write (vias.Local k) v) = k ≡ 0
MethodMay (acts.Fire name uses v) = name ≡ 3
MethodMay (acts.Find k) = k ≡ 0
MethodMay (acts.Destroy k) = k ≡ 0
MethodMay (acts.Give v) = Unit {0}
MethodMay (acts.Throw x) = Unit {0}
MethodMay _ = ⊥

-- members with a parameter call the method through it
abbrev pub MemberMay : Act → Type 0
MemberMay (acts.Call (vias.Param k) name args) = (k ≡ 0) × (name ≡ 7) × (length args ≡ 1)
MemberMay (acts.Give v) = Unit {0}
MemberMay _ = ⊥

abbrev pub InterceptorMay : Act → Type 0
InterceptorMay (acts.Proceed args) = Unit {0}
InterceptorMay (acts.Keep key v) = Unit {0}
InterceptorMay (acts.Peek key) = Unit {0}
InterceptorMay (acts.Call (vias.Field field) name args) = (field ≡ 5) × (name ≡ 7) × (length args ≡ 1)
InterceptorMay (acts.Give v) = Unit {0}
InterceptorMay _ = ⊥

-- the body 3 only gives, but for what is said here
abbrev pub BodyMay : (Act → Type 0) → ℕ → Act → Type 0
BodyMay last zero a = MethodMay a
BodyMay last (suc zero) a = MemberMay a
BodyMay last (suc (suc zero)) a = InterceptorMay a
BodyMay last (suc (suc (suc n))) a = last a

abbrev pub GiveOnly : Act → Type 0
GiveOnly (acts.Give v) = Unit {0}
GiveOnly _ = ⊥

abbrev pub ProceedToo : Act → Type 0
ProceedToo (acts.Give v) = Unit {0}
ProceedToo (acts.Proceed args) = Unit {0}
ProceedToo _ = ⊥

-- a callback has no lookup
abbrev pub ReadToo : Act → Type 0
ReadToo (acts.Give v) = Unit {0}
ReadToo (acts.Read (vias.Local k)) = Unit {0}
ReadToo _ = ⊥

-- there is no event class of this name
abbrev pub FireToo : Act → Type 0
FireToo (acts.Give v) = Unit {0}
FireToo (acts.Fire class uses v) = class ≡ 4
FireToo _ = ⊥

abbrev pub legal_by : (Act → Type 0) → Legal
legal_by last =
    record { gives = λ body count fields view a. BodyMay last body a; picks = λ candidates count i. Unit {0} }

-- these fit one another; they don't if a callback may proceed, or name what isn't there
abbrev pub AcceptsRightBodies : Type 0
AcceptsRightBodies = Fits tables (legal_by GiveOnly)

abbrev pub RefusesWrongBodies : Type 0
RefusesWrongBodies = Fits tables (legal_by ProceedToo) → ⊥

abbrev pub RefusesUnknownNames : Type 0
RefusesUnknownNames =
    (Fits tables (legal_by ReadToo) → ⊥) × (Fits tables (legal_by FireToo) → ⊥)
