-- An accepted deployment's tables tell the bodies of a destruction from all others.
use Rattle.std.proofs.Common.{ℕ, ◌≡◌, ◌∙◌, not, inl, inr, List, ◌∷◌, map, filter, refl, sym, ap, subst}
use Rattle.std.specs.List.{filter_map}
use Rattle.cdi_base.specs.declared.place.Place.{Place}
use Rattle.cdi_base.specs.declared.place.Place.TheVariants as places
use Rattle.cdi_base.specs.declared.place.InterceptorMethod.{InterceptorMethod}
use Rattle.cdi_base.specs.declared.place.InterceptorMethod.TheVariants as roles
use Rattle.cdi_bodies.specs.Gives.{LieInShape}
use Rattle.cdi_bodies.specs.declared.entry.Entry.{Entry}
use Rattle.cdi_plans.specs.Chains.{class_level, is_bound, life_chain}
use Rattle.cdi_machine.specs.Registered.{legal_of}
use Rattle.cdi_machine.specs.Tables as machine
use Rattle.cdi_planner.specs.Codes.{pre_destroy}
use Rattle.cdi_plans.specs.declared.plan.ManagedPlan.{ManagedPlan}
use Rattle.cdi_run_tables.specs.Machine.{has_none, hearers, id_of, machine_code, machine_observer, machine_tables}
use Rattle.cdi_run_tables.specs.Planned.{IsTabled}
use Rattle.cdi_types.specs.Members.{members_of}
use Rattle.cdi_ledger.specs.Whose.{IsIn}
use Rattle.cdi_ledger.specs.Callbacks.{FirstsStandOnce, IsOrdinary, PlacesOfBodiesAreApart}
use Rattle.cdi_event_tables.specs.Events.{Group, groups_of}
use Rattle.cdi_run_tables.specs.declared.tables.RunTables.{RunTables}
use Rattle.cdi_accepted.proofs.Lists.{Among, given, mapped, of_filter, of_is_in}
use Rattle.cdi_whole.proofs.Beginning.{begin_once, begin_once_if_short}
use Rattle.cdi_accepted.specs.Accepted.{FarewellsApart, FarewellsBeginOnce, FarewellsBeginOnceIfShort}
use Rattle.cdi_accepted.proofs.Whole.{whole_fits}
use Rattle.cdi_accepted.proofs.MemberCodes.{is_farewell}
use Rattle.cdi_accepted.proofs.Once.{callbacks_once, class_once, names_once, stands_once}
use Rattle.cdi_accepted.proofs.Places.{IsDeclaredAt, IsOfBean, IsOfOther, callback_at, class_bean, disposer_at, method_at, named_in, never_both, observer_at, producer_at, product_bean, step_at}

module _ (t : RunTables) (tabled : IsTabled t) where
  abbrev T : machine.Tables
  T = machine_tables t

  of_ordinary : (place : Place) → IsOrdinary T place → IsOfOther t.deployment place
  of_ordinary place (IsOrdinary.method b x c name m known kind has) = method_at t tabled b c (class_bean t tabled b x c known kind) name m has
  of_ordinary place (IsOrdinary.planned b x c s m known kind step code) = step_at t tabled b c (class_bean t tabled b x c known kind) s m step code
  of_ordinary place (IsOrdinary.producer b x p m known kind source) = producer_at t tabled p (product_bean t tabled b x p known kind) m source
  of_ordinary place (IsOrdinary.disposer b x p m known kind a) = disposer_at t tabled p (product_bean t tabled b x p known kind) m a
  of_ordinary place (IsOrdinary.observer class qualifiers group o in_all in_group) =
      let all = groups_of (hearers t class qualifiers) in
      let heard = λ (g : Group). filter_map (machine_observer t) g.observers in
      let kept = of_filter (λ group. not (has_none group)) (map heard all) group (of_is_in group (filter (λ group. not (has_none group)) (map heard all)) in_all) in
      let found = mapped heard all group kept.0 in
      let P : List machine.Observer → Type 0 = λ l. Among o l in
      let from = given (machine_observer t) found.item.observers o (subst P found.is (of_is_in o group in_group)) in
      observer_at t tabled from.item o from.is

  never_interceptor : (place : Place) (name : ℕ) (role : InterceptorMethod) → place ≡ places.Interceptor name role → IsOfOther t.deployment place → ⊥
  never_interceptor place name role e (inl a) = let q : places.Interceptor name role ≡ places.Member a.class.name (Rattle.cdi_deployment.specs.Member.member_name a.member) = sym e ∙ a.is in cc
  never_interceptor place name role e (inr a) = let q : places.Interceptor name role ≡ places.Constructor a.0 = sym e ∙ a.1 in cc

  never_callback : (place : Place) → IsDeclaredAt t.deployment place is_farewell → IsOfOther t.deployment place → ⊥
  never_callback place a (inl b) = never_both t.deployment tabled.tables.made.names_well place a b
  never_callback place a (inr b) = let q : places.Member a.class.name (Rattle.cdi_deployment.specs.Member.member_name a.member) ≡ places.Constructor b.0 = sym a.is ∙ b.1 in cc

  pub places_apart : PlacesOfBodiesAreApart T
  places_apart = record {
    callbacks = λ b x c m known kind a o. never_callback m.place (callback_at t tabled b c (class_bean t tabled b x c known kind) m a) (of_ordinary m.place o);
    not_interceptors = λ b x c m name role known kind a e.
        (let at = callback_at t tabled b c (class_bean t tabled b x c known kind) m a in
        let q : places.Interceptor name role ≡ places.Member at.class.name (Rattle.cdi_deployment.specs.Member.member_name at.member) = sym e ∙ at.is in
        cc);
    interceptors = λ name role o. never_interceptor (places.Interceptor name role) name role refl (of_ordinary (places.Interceptor name role) o);
  }

  chain_once : (b : ℕ) (c : machine.Managed) → IsOfBean t tabled b c → (i : ℕ) (chain : List ℕ) → c.pre_destroy.chain ≡ i ∷ chain → IsIn i chain → ⊥
  chain_once b c of i chain e a =
      let chains = t.tables.chains in
      let class = of.listed.class in
      let chain_is : c.pre_destroy.chain ≡ life_chain chains class roles.PreDestroy = ap (λ (x : machine.Managed). x.pre_destroy.chain) of.is ∙ ap (λ (p : ManagedPlan). p.pre_destroy.chain) of.plan.is in
      stands_once (is_bound roles.PreDestroy (class_level chains class)) 0 chains.interceptors i chain (sym chain_is ∙ e) a

  places_once : (b : ℕ) (c : machine.Managed) → IsOfBean t tabled b c → (m : machine.Code) (more : List machine.Code) → c.pre_destroy.callbacks ≡ m ∷ more → IsIn m.place (map (λ k. k.place) more) → ⊥
  places_once b c of m more e a =
      let ids = id_of t in
      let line = of.plan.line in
      let callbacks_are : c.pre_destroy.callbacks ≡ map (machine_code ids) (filter_map pre_destroy (members_of line)) =
      ap (λ (x : machine.Managed). x.pre_destroy.callbacks) of.is ∙ ap (λ (p : ManagedPlan). map (machine_code ids) p.pre_destroy.callbacks) of.plan.is in
      let once = names_once line (λ k there. class_once t.deployment tabled.tables.made.names_well k (named_in t tabled of.listed.class line of.plan.is_line k there)) in
      callbacks_once ids (members_of line) once m more (sym callbacks_are ∙ e) a

  pub firsts_once : FirstsStandOnce T
  firsts_once = record {
    interceptors = λ b x c i chain known kind e a. chain_once b c (class_bean t tabled b x c known kind) i chain e a;
    callbacks = λ b x c m more known kind e a. places_once b c (class_bean t tabled b x c known kind) m more e a;
  }

pub farewells_apart : {X : Type 0} {F : X → Type 0} {g : _} (entries : List (Entry X F g)) → FarewellsApart entries
farewells_apart entries t a = (places_apart t a.tabled, firsts_once t a.tabled)

pub farewells_begin_once : {X : Type 0} {F : X → Type 0} {g : _} (entries : List (Entry X F g)) → LieInShape entries → FarewellsBeginOnce entries
farewells_begin_once entries lies t a =
    begin_once (machine_tables t) (legal_of entries) (whole_fits entries lies t a) (places_apart t a.tabled) (firsts_once t a.tabled)

pub farewells_begin_if_short : {X : Type 0} {F : X → Type 0} {g : _} (entries : List (Entry X F g)) → LieInShape entries → FarewellsBeginOnceIfShort entries
farewells_begin_if_short entries lies t a =
    begin_once_if_short (machine_tables t) (legal_of entries) (whole_fits entries lies t a) (places_apart t a.tabled) (firsts_once t a.tabled)
