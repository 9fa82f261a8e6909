-- The small tables fit their bodies, and tell the bodies of a destruction from all others.
use Rattle.std.proofs.Common.{ℕ, zero, suc, ◌≡◌, [], ◌∷◌, inl, inr, Some, true, refl, sym, subst}
use Rattle.cdi_base.specs.declared.act.Act.{Act}
use Rattle.cdi_base.specs.declared.act.Act.TheVariants as acts
use Rattle.cdi_base.specs.declared.place.Place.{Place}
use Rattle.cdi_bodies.specs.declared.view.View.{View}
use Rattle.cdi_machine.specs.Tables.{Code, Step, Managed, Kind, Bean}
use Rattle.cdi_ledger.specs.Whose.{IsIn}
use Rattle.cdi_ledger.specs.Callbacks.{IsOrdinary, codes_in, PlacesOfBodiesAreApart, FirstsStandOnce}
use Rattle.cdi_whole.specs.Fits.{Site, class_site, interceptor_site, FitsAct, FitsBean, FitsClass, Fits}
use Rattle.cdi_whole.specs.Worked.{GiveOnly, ProceedToo}
use Rattle.cdi_whole.specs.WorkedFarewells.{code, class, bean, interceptor, tables, legal, SomeBeginOnce}

gives : (s : Site) (view : View) (a : Act) → GiveOnly a → FitsAct tables s view a
gives s view (acts.Give v) q = tt
gives s view _ q = absurd q

proceeds : (s : Site) (view : View) (a : Act) → s.chained ≡ true → ProceedToo a → FitsAct tables s view a
proceeds s view (acts.Give v) e q = tt
proceeds s view (acts.Proceed args) e q = e
proceeds s view _ e q = absurd q

fits_class : FitsClass tables legal class
fits_class = record {
  steps = ((interceptor, refl), tt);
  methods = λ name m e. absurd (cc);
  pre_destroy = record {
    chain = ((record { interceptor = interceptor; known = refl; body = 0; has = refl; fits = λ count fields view a q. proceeds (interceptor_site interceptor 0) view a refl q }, inl refl), tt);
    callbacks = ((λ count fields view a q. gives (class_site class [] 1) view a q), tt);
  };
}

fits_bean : FitsBean tables legal 0
fits_bean = record { bean = bean; known = refl; kind = fits_class }

fits : Fits tables legal
fits = record {
  resolved = λ asked b e. (let y : 0 ≡ b = cc in subst (FitsBean tables legal) y fits_bean);
  observed = λ class qualifiers. tt;
  texts = λ x. ([], refl);
}

-- the one class
is_class : (b : ℕ) (x : Bean) (c : Managed) → tables.bean b ≡ Some x → x.kind ≡ Kind.Class c → c ≡ class
is_class zero x c e k =
    let y : bean ≡ x = cc in
    let z : Kind.Class class ≡ Kind.Class c = subst (λ (u : Bean). u.kind ≡ Kind.Class c) (sym y) k in
    cc
is_class (suc b) x c e k = absurd (cc)

no_product : (b : ℕ) (x : Bean) (p : _) → tables.bean b ≡ Some x → x.kind ≡ Kind.Producer p → ⊥
no_product zero x p e k =
    let y : bean ≡ x = cc in
    let z : Kind.Class class ≡ Kind.Producer p = subst (λ (u : Bean). u.kind ≡ Kind.Producer p) (sym y) k in
    cc
no_product (suc b) x p e k = absurd (cc)

no_ordinary : (place : Place) → IsOrdinary tables place → ⊥
no_ordinary place (IsOrdinary.method b x c name m e k a) = let y : c ≡ class = is_class b x c e k in let z = subst (λ (u : Managed). Rattle.cdi_base.specs.Maps.at u.methods name ≡ Some m) y a in cc
no_ordinary place (IsOrdinary.planned b x c s m e k i j) = by (subst (λ (u : Managed). IsIn s u.plan) (is_class b x c e k) i)
  where
    by : IsIn s (Step.Intercept 0 ∷ []) → ⊥
    by (inl q) = subst (λ z. IsIn m (codes_in z)) (sym q) j
    by (inr q) = q
no_ordinary place (IsOrdinary.producer b x p m e k a) = no_product b x p e k
no_ordinary place (IsOrdinary.disposer b x p m e k a) = no_product b x p e k
no_ordinary place (IsOrdinary.observer event qualifiers group o i j) = i

one_code : (m : Code) → IsIn m (code ∷ []) → code ≡ m
one_code m (inl e) = e
one_code m (inr e) = absurd e

apart : PlacesOfBodiesAreApart tables
apart = record {
  callbacks = λ b x c m e k i o. no_ordinary m.place o;
  not_interceptors = λ b x c m name role e k i p. (let y : code ≡ m = one_code m (subst (λ (u : Managed). IsIn m u.pre_destroy.callbacks) (is_class b x c e k) i) in let z = subst (λ (u : Code). u.place ≡ Rattle.cdi_base.specs.declared.place.Place.TheVariants.Interceptor name role) (sym y) p in cc);
  interceptors = λ name role o. no_ordinary _ o;
}

once : FirstsStandOnce tables
once = record {
  interceptors = λ b x c i chain e k q z. (let y = subst (λ (u : Managed). u.pre_destroy.chain ≡ i ∷ chain) (is_class b x c e k) q in let l : [] ≡ chain = cc in subst (IsIn i) (sym l) z);
  callbacks = λ b x c m more e k q z. (let y = subst (λ (u : Managed). u.pre_destroy.callbacks ≡ m ∷ more) (is_class b x c e k) q in let l : [] ≡ more = cc in subst (λ u. IsIn m.place (Rattle.std.specs.Prelude.map (λ (k : Code). k.place) u)) (sym l) z);
}

pub some_begin_once : SomeBeginOnce
some_begin_once = (fits, (apart, once))
