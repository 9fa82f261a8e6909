-- The small tables and bodies fit one another, unless a callback may proceed.
use Rattle.std.proofs.Common.{ℕ, zero, suc, ◌≡◌, List, [], ◌∷◌, length, Bool, true, false, Some, None, refl, sym, ap, ◌∙◌, subst, inl, inr}
use Rattle.std.specs.Prelude.{slice_get}
use Rattle.cdi_base.specs.declared.act.Act.{Act}
use Rattle.cdi_base.specs.declared.act.Act.TheVariants as acts
use Rattle.cdi_base.specs.declared.act.Via.TheVariants as vias
use Rattle.cdi_base.specs.declared.place.InterceptorMethod.{InterceptorMethod}
use Rattle.cdi_base.specs.declared.place.InterceptorMethod.TheVariants as roles
use Rattle.cdi_base.specs.Maps.{at}
use Rattle.cdi_bodies.specs.declared.view.View.{View}
use Rattle.cdi_machine.specs.Words.{Name, Fields, Asked}
use Rattle.cdi_machine.specs.Tables.{Method, One, Nothing}
use Rattle.cdi_machine.specs.Runs.{Legal}
use Rattle.cdi_ledger.specs.Whose.{IsIn}
use Rattle.cdi_whole.specs.Fits.{Site, class_site, interceptor_site, HasMethod, LeadsTo, AnswersCalls, FitsAct, FitsBody, FitsRole, FitsChain, FitsLifecycle, FitsMember, FitsMethod, FitsClass, FitsManaged, FitsProduct, FitsBean, FitsObserver, Fits}
use Rattle.cdi_whole.specs.Worked.{of_type, code, member, class, bean, product, field_product, interceptor, resolution, observer, tables, MethodMay, MemberMay, InterceptorMay, GiveOnly, ProceedToo, ReadToo, FireToo, legal_by, lookup_at, AcceptsRightBodies, RefusesWrongBodies, RefusesUnknownNames}

abbrev right : Legal
right = legal_by GiveOnly

one_bean : (m b : ℕ) → One m ≡ One b → m ≡ b
one_bean m b e = cc

answers : (b : ℕ) → resolution 1 ≡ One b → (name count : ℕ) → name ≡ 7 → count ≡ 1 → AnswersCalls tables b name count
answers b e name count f g =
    subst (λ x. AnswersCalls tables x name count) (one_bean 0 b e)
    (record {
      class = class;
      is = record { bean = bean; known = refl; is = refl };
      takes = record { method = record { code = code 0; count = 1; chain = 0 ∷ [] }; has = subst (λ n. at class.methods n ≡ Some (record { code = code 0; count = 1; chain = 0 ∷ [] })) (sym f) refl; takes = sym g };
    })

method_seven : (name count : ℕ) → name ≡ 7 → count ≡ 1 → HasMethod class.methods name count
method_seven name count f g = record { method = record { code = code 0; count = 1; chain = 0 ∷ [] }; has = subst (λ n. at class.methods n ≡ Some (record { code = code 0; count = 1; chain = 0 ∷ [] })) (sym f) refl; takes = sym g }

-- the one injected field
same_point : (field : Name) (point : Asked) → ◌≡◌ {A = Name × Asked} (5, of_type 1) (field, point) → of_type 1 ≡ point
same_point field point e = ap (λ (p : Name × Asked). p.1) e

field_point : (field : Name) (point : Asked) → IsIn {X = Name × Asked} (field, point) ((5, of_type 1) ∷ []) → point ≡ of_type 1
field_point field point (inl e) = sym (same_point field point e)
field_point field point (inr h) = absurd h

-- the one parameter
param_point : (k : ℕ) (point : Asked) → slice_get (of_type 1 ∷ []) k ≡ Some point → point ≡ of_type 1
param_point zero point e = let q : of_type 1 ≡ point = cc in sym q
param_point (suc k) point e = absurd (cc)

-- what the acts name is there
through : (field : Name) → field ≡ 5 → (point : Asked) × IsIn {X = Name × Asked} (field, point) ((5, of_type 1) ∷ [])
through field e = (of_type 1, inl (ap (λ (n : ℕ). (n, of_type 1)) (sym e)))

by_param : (k : ℕ) → k ≡ 0 → (point : Asked) × (slice_get (of_type 1 ∷ []) k ≡ Some point)
by_param k e = (of_type 1, subst (λ n. slice_get (of_type 1 ∷ []) n ≡ Some (of_type 1)) (sym e) refl)

looked_up : (k : ℕ) → k ≡ 0 → (point : Asked) × (lookup_at 0 k ≡ Some point)
looked_up k e = (of_type 2, subst (λ n. lookup_at 0 n ≡ Some (of_type 2)) (sym e) refl)

method_fits : (legal : Legal) → ((count : ℕ) (fields : Fields) (view : View) (a : Act) → legal.gives 0 count fields view a → MethodMay a) → FitsBody tables legal (class_site class [] 0)
method_fits legal f count fields view a given = by a (f count fields view a given)
  where
    by : (a : Act) → MethodMay a → FitsAct tables (class_site class [] 0) view a
    by (acts.Set field v) h = subst (λ n. Rattle.cdi_base.specs.Fields.has class.fields n ≡ true) (sym h) refl
    by (acts.Call (vias.Field field) name args) h = (through field h.0, λ b l. answers b (subst (λ (p : Asked). resolution p.type ≡ One b) (field_point field l.0 l.1) l.2) name (length args) h.1 h.2)
    by (acts.Call (vias.Param k) name args) h = absurd h
    by (acts.Call (vias.Local k) name args) h = absurd h
    by (acts.Own name args) h = method_seven name (length args) h.0 h.1
    by (acts.Read (vias.Local k)) h = looked_up k h
    by (acts.Read (vias.Field field)) h = absurd h
    by (acts.Read (vias.Param k)) h = absurd h
    by (acts.Write (vias.Local k) v) h = looked_up k h
    by (acts.Write (vias.Field field) v) h = absurd h
    by (acts.Write (vias.Param k) v) h = absurd h
    by (acts.Fire name uses v) h = subst (λ n. tables.is_event n [] ≡ true) (sym h) refl
    by (acts.Proceed args) h = absurd h
    by (acts.Find k) h = looked_up k h
    by (acts.Keep key v) h = absurd h
    by (acts.Peek key) h = absurd h
    by (acts.Destroy k) h = looked_up k h
    by (acts.Give v) h = tt
    by (acts.Throw x) h = inl ([], refl)

member_fits : FitsBody tables right (class_site class (of_type 1 ∷ []) 1)
member_fits count fields view a given = by a given
  where
    by : (a : Act) → MemberMay a → FitsAct tables (class_site class (of_type 1 ∷ []) 1) view a
    by (acts.Set field v) h = absurd h
    by (acts.Call (vias.Field field) name args) h = absurd h
    by (acts.Call (vias.Param k) name args) h = (by_param k h.0, λ b l. answers b (subst (λ (p : Asked). resolution p.type ≡ One b) (param_point k l.0 l.1) l.2) name (length args) h.1 h.2)
    by (acts.Call (vias.Local k) name args) h = absurd h
    by (acts.Own name args) h = absurd h
    by (acts.Read via) h = absurd h
    by (acts.Write via v) h = absurd h
    by (acts.Fire name uses v) h = absurd h
    by (acts.Proceed args) h = absurd h
    by (acts.Find k) h = absurd h
    by (acts.Keep key v) h = absurd h
    by (acts.Peek key) h = absurd h
    by (acts.Destroy k) h = absurd h
    by (acts.Give v) h = tt
    by (acts.Throw x) h = absurd h

interceptor_fits : FitsBody tables right (interceptor_site interceptor 2)
interceptor_fits count fields view a given = by a given
  where
    by : (a : Act) → InterceptorMay a → FitsAct tables (interceptor_site interceptor 2) view a
    by (acts.Set field v) h = absurd h
    by (acts.Call (vias.Field field) name args) h = (through field h.0, λ b l. answers b (subst (λ (p : Asked). resolution p.type ≡ One b) (field_point field l.0 l.1) l.2) name (length args) h.1 h.2)
    by (acts.Call (vias.Param k) name args) h = absurd h
    by (acts.Call (vias.Local k) name args) h = absurd h
    by (acts.Own name args) h = absurd h
    by (acts.Read via) h = absurd h
    by (acts.Write via v) h = absurd h
    by (acts.Fire name uses v) h = absurd h
    by (acts.Proceed args) h = refl
    by (acts.Find k) h = absurd h
    by (acts.Keep key v) h = refl
    by (acts.Peek key) h = refl
    by (acts.Destroy k) h = absurd h
    by (acts.Give v) h = tt
    by (acts.Throw x) h = absurd h

callback_fits : FitsBody tables right (class_site class [] 3)
callback_fits count fields view a given = by a given
  where
    by : (a : Act) → GiveOnly a → FitsAct tables (class_site class [] 3) view a
    by (acts.Set field v) h = absurd h
    by (acts.Call via name args) h = absurd h
    by (acts.Own name args) h = absurd h
    by (acts.Read via) h = absurd h
    by (acts.Write via v) h = absurd h
    by (acts.Fire name uses v) h = absurd h
    by (acts.Proceed args) h = absurd h
    by (acts.Find k) h = absurd h
    by (acts.Keep key v) h = absurd h
    by (acts.Peek key) h = absurd h
    by (acts.Destroy k) h = absurd h
    by (acts.Give v) h = tt
    by (acts.Throw x) h = absurd h

role_fits : (role : InterceptorMethod) → FitsRole tables right 0 role
role_fits role = record { interceptor = interceptor; known = refl; body = 2; has = refl; fits = interceptor_fits }

chain_fits : (role : InterceptorMethod) → FitsChain tables right role (0 ∷ []) (0 ∷ [])
chain_fits role = ((role_fits role, inl refl), tt)

life_fits : (role : InterceptorMethod) → FitsLifecycle tables right class [] role (0 ∷ []) (Rattle.cdi_whole.specs.Worked.round (code 3 ∷ []))
life_fits role = record { chain = chain_fits role; callbacks = (callback_fits, tt) }

members_fit : FitsMember tables right class member
members_fit = record { chain = chain_fits roles.AroundInvoke; body = member_fits }

methods_fit : (name : Name) (m : Method) → at class.methods name ≡ Some m → FitsMethod tables right class m
methods_fit name m e = by (Rattle.std.proofs.Common.nat_eq name 7) e
  where
    it : FitsMethod tables right class (record { code = code 0; count = 1; chain = 0 ∷ [] })
    it = record { chain = chain_fits roles.AroundInvoke; body = method_fits right (λ count fields view a given. given) }

    by : (b : Bool) → Rattle.std.proofs.Common.cond b (Some (record { code = code 0; count = 1; chain = 0 ∷ [] })) None ≡ Some m → FitsMethod tables right class m
    by true q = let r : record { code = code 0; count = 1; chain = 0 ∷ [] } ≡ m = cc in subst (FitsMethod tables right class) r it
    by false q = absurd (cc)

class_fits : FitsClass tables right class
class_fits = record {
  steps = ((interceptor, refl), (record { chain = chain_fits roles.AroundConstruct; callbacks = (member_fits, tt) }, (tt, (member_fits, (life_fits roles.PostConstruct, tt)))));
  methods = methods_fit;
  pre_destroy = life_fits roles.PreDestroy;
}

managed_fits : FitsManaged tables right 0 class
managed_fits = record { is = record { bean = bean; known = refl; is = refl }; fits = class_fits }

bean_fits : (asked : Asked) (b : ℕ) → tables.resolve asked ≡ One b → FitsBean tables right b
bean_fits asked b e = by asked.type e
  where
    by : (type : Name) → resolution type ≡ One b → FitsBean tables right b
    by zero q = absurd (cc)
    by (suc zero) q = subst (FitsBean tables right) (one_bean 0 b q) (record { bean = bean; known = refl; kind = class_fits })
    by (suc (suc zero)) q = subst (FitsBean tables right) (one_bean 1 b q) (record { bean = product; known = refl; kind = record { class = class; declares = managed_fits; source = members_fit; disposers = (members_fit, tt) } })
    by (suc (suc (suc n))) q = subst (FitsBean tables right) (one_bean 2 b q) (record { bean = field_product; known = refl; kind = record { class = class; declares = managed_fits; source = refl; disposers = tt } })

observer_fits : FitsObserver tables right observer
observer_fits = record { class = class; observes = managed_fits; member = members_fit }

pub accepts : AcceptsRightBodies
accepts = record { resolved = bean_fits; observed = λ c uses. ((observer_fits, (observer_fits, tt)), tt); texts = λ x. ([], refl) }

-- if all fits, so does whatever a callback gives
callback : (last : Act → Type 0) → Fits tables (legal_by last) → FitsBody tables (legal_by last) (class_site class [] 3)
callback last fits =
    let b = fits.resolved (of_type 1) 0 refl in
    by b.bean b.known b.kind
  where
    by : (x : Rattle.cdi_machine.specs.Tables.Bean) → Some bean ≡ Some x → Rattle.cdi_whole.specs.Fits.FitsKind tables (legal_by last) x.kind → FitsBody tables (legal_by last) (class_site class [] 3)
    by x e k =
        let q : x ≡ bean = cc in
        let c : FitsClass tables (legal_by last) class = subst (λ (y : Rattle.cdi_machine.specs.Tables.Bean). Rattle.cdi_whole.specs.Fits.FitsKind tables (legal_by last) y.kind) q k in
        c.pre_destroy.callbacks.0

nothing_seen : View
nothing_seen = record { args = []; answers = [] }

pub refuses : RefusesWrongBodies
refuses fits = let e : false ≡ true = callback ProceedToo fits 0 [] nothing_seen (acts.Proceed None) tt in cc

refuses_reading : Fits tables (legal_by ReadToo) → ⊥
refuses_reading fits =
    let h = callback ReadToo fits 0 [] nothing_seen (acts.Read (vias.Local 0)) tt in
    let e : None ≡ Some h.0 = h.1 in
    absurd cc

refuses_firing : Fits tables (legal_by FireToo) → ⊥
refuses_firing fits =
    let e : false ≡ true = callback FireToo fits 0 [] nothing_seen (acts.Fire 4 [] Rattle.cdi_base.specs.declared.value.Value.TheVariants.Null) refl in
    cc

pub refuses_unknown : RefusesUnknownNames
refuses_unknown = (refuses_reading, refuses_firing)
