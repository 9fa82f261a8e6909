-- Small tables and bodies for which a destruction begins its callbacks once: one bean with a pre-destroy callback, and an
-- interceptor round it.
use Rattle.std.specs.Prelude.{ℕ, zero, suc, [], ◌∷◌, true, false, Option, Some, None}
use Rattle.cdi_base.specs.declared.act.Act.{Act}
use Rattle.cdi_base.specs.declared.place.Place.TheVariants as places
use Rattle.cdi_base.specs.declared.scope.Scope.TheVariants as scopes
use Rattle.cdi_machine.specs.Tables.{Tables, Code, Step, Managed, Kind, Bean, Interceptor, One}
use Rattle.cdi_machine.specs.Runs.{Legal}
use Rattle.cdi_ledger.specs.Callbacks.{PlacesOfBodiesAreApart, FirstsStandOnce}
use Rattle.cdi_whole.specs.Fits.{Fits}
use Rattle.cdi_whole.specs.Worked.{GiveOnly, ProceedToo}

abbrev pub code : Code
code = record { place = places.Member 1 7; body = 1 }

abbrev pub class : Managed
class =
    record {
      fields = [];
      plan = Step.Intercept 0 ∷ [];
      methods = [];
      pre_destroy = record { chain = 0 ∷ []; callbacks = code ∷ [] };
    }

abbrev pub bean : Bean
bean = record { place = places.Class 1; scope = scopes.ApplicationScoped; kind = Kind.Class class }

abbrev pub bean_at : ℕ → Option Bean
bean_at zero = Some bean
bean_at (suc n) = None

abbrev pub interceptor : Interceptor
interceptor = record { name = 2; fields = []; injected = []; body = λ role. Some 0 }

abbrev pub tables : Tables
tables =
    record {
      bean = bean_at;
      interceptor = λ i. Some interceptor;
      resolve = λ asked. One 0;
      written = λ uses. uses;
      observers = λ class uses. [];
      lookup = λ body k. None;
      is_checked = λ x. false;
      text = λ x. Some [];
      is_known = λ asked. true;
      is_event = λ class uses. true;
    }

-- the interceptor's body gives or proceeds, the callback's gives
abbrev pub BodyMay : ℕ → Act → Type 0
BodyMay zero a = ProceedToo a
BodyMay (suc n) a = GiveOnly a

abbrev pub legal : Legal
legal =
    record { gives = λ body count fields view a. BodyMay body a; picks = λ candidates count i. Unit {0} }

abbrev pub SomeBeginOnce : Type 0
SomeBeginOnce = Fits tables legal × (PlacesOfBodiesAreApart tables × FirstsStandOnce tables)
