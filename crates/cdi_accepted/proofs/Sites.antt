-- Bodies on instances of managed beans: whatever they give fits.
use Rattle.std.proofs.Common.{ℕ, ◌≡◌, ◌∙◌, ◌||◌, inl, inr, Bool, true, nat_eq, List, [], ◌∷◌, ◌++◌, map, Option, Some, None, refl, sym, ap, subst, append-nil}
use Rattle.std.specs.Prelude.{option_map, slice_get}
use Rattle.std.proofs.lemmas.Bool.{eqb-true, true≢false}
use Rattle.std.proofs.lemmas.List.Folds.{list_any-append}
use Rattle.std.proofs.lemmas.Option.{same_Some, slice_get-map}
use Rattle.std.specs.List.{flat_map, list_any}
use Rattle.cdi_base.specs.Fields.{has}
use Rattle.cdi_beans.specs.declared.bean.Bean.{Bean}
use Rattle.cdi_bodies.specs.Gives.{LieInShape, lookups_of, shape_at}
use Rattle.cdi_bodies.specs.Shape.{in_shape}
use Rattle.cdi_bodies.specs.declared.entry.Entry.{Entry}
use Rattle.cdi_bodies.specs.declared.shape.Shape.{Shape}
use Rattle.cdi_body_check.specs.Shapes.{shape_of}
use Rattle.cdi_body_check.specs.Sites.{Site, body_of, is_live, member_body, params_of, sites_of}
use Rattle.cdi_deployment.specs.Member.{member_params}
use Rattle.cdi_check.specs.Accepted.{AreBodiesSound}
use Rattle.cdi_check.specs.Tables.{setting_by}
use Rattle.cdi_deployment.specs.declared.deployment.Class.{Class}
use Rattle.cdi_deployment.specs.declared.deployment.Constructor.{Constructor}
use Rattle.cdi_deployment.specs.declared.deployment.Deployment.{Deployment}
use Rattle.cdi_deployment.specs.declared.deployment.InjectedField.{InjectedField}
use Rattle.cdi_deployment.specs.declared.deployment.Member.{Member}
use Rattle.cdi_deployment.specs.declared.deployment.Point.{Point}
use Rattle.cdi_beans.specs.Kinds.{is_managed}
use Rattle.cdi_machine.specs.Registered.{legal_of}
use Rattle.cdi_machine.specs.Tables as machine
use Rattle.cdi_machine.specs.Words.{Asked}
use Rattle.cdi_types.specs.Line.{IsLineOf, class_named}
use Rattle.cdi_types.specs.Members.{members_of}
use Rattle.cdi_plans.specs.declared.plan.ManagedPlan.{ManagedPlan}
use Rattle.cdi_plans.specs.declared.plan.Step.{Step}
use Rattle.cdi_plans.specs.declared.plan.Step.TheVariants as steps
use Rattle.cdi_resolve.specs.Filters.{enabled_of}
use Rattle.cdi_planner.specs.Steps.{steps_of}
use Rattle.cdi_run_tables.specs.Machine.{AreIdsOf, asked_by, body_number, first_values, id_of, lookups_at, machine_steps, machine_tables}
use Rattle.cdi_run_tables.specs.Planned.{IsTabled}
use Rattle.cdi_run_tables.specs.Texts.{has_texts}
use Rattle.cdi_run_tables.specs.declared.tables.RunTables.{RunTables}
use Rattle.cdi_shape_check.specs.OwnParts.{ArePartsOf, OwnParts, declares_method, has_field, parts_of_line}
use Rattle.cdi_body_check.specs.WrittenPoints.{point_of_field}
use Rattle.cdi_types.specs.Declarations.{declarations_of}
use Rattle.cdi_ledger.specs.Whose.{IsIn}
use Rattle.cdi_whole.specs.Fits.{FitsBody, class_site, injected_by}
use Rattle.cdi_whole.specs.Fits.{Site as MachineSite}
use Rattle.cdi_accepted.proofs.Fields.{IsInjected, has_first, of_machine, of_steps, one_injected}
use Rattle.cdi_accepted.proofs.Lines.{is_of_name}
use Rattle.cdi_accepted.proofs.Lists.{Among, among_left, found_among, part_of}
use Rattle.cdi_accepted.proofs.Members.{of_line}
use Rattle.cdi_accepted.proofs.Acts.{Covers, fits_act}
use Rattle.cdi_accepted.proofs.Bodies.{inside, lie_at, number, proceeds, registered}
use Rattle.cdi_accepted.proofs.Injecting.{injects, to_steps}
use Rattle.cdi_accepted.proofs.Methods.{apart, constructor_site, front, has_method, managed, member_site, pairs}
use Rattle.cdi_accepted.proofs.FitPlans.{HasPlan}

-- what is injected is so by a step
injected_step : (all : List machine.Step) (field : ℕ) (asked : Asked) → IsIn (field, asked) (injected_by all) → Among (machine.Step.Inject field asked) all
injected_step [] field asked a = absurd a
injected_step (machine.Step.Inject f p ∷ more) field asked (inl e) = inl (ap (λ (q : ℕ × Asked). machine.Step.Inject q.0 q.1) (sym e))
injected_step (machine.Step.Inject f p ∷ more) field asked (inr a) = inr (injected_step more field asked a)
injected_step (machine.Step.Intercept i ∷ more) field asked a = inr (injected_step more field asked a)
injected_step (machine.Step.Construct points l ∷ more) field asked a = inr (injected_step more field asked a)
injected_step (machine.Step.Initialize m points ∷ more) field asked a = inr (injected_step more field asked a)
injected_step (machine.Step.Complete l ∷ more) field asked a = inr (injected_step more field asked a)

-- the lookups of a registered body are those of its shape
lookups_by_shape : {X : Type 0} {F : X → Type 0} {g : _} (entries : List (Entry X F g)) (n : ℕ) → slice_get (lookups_of entries) n ≡ option_map (λ (z : Shape). z.lookups) (shape_at entries n)
lookups_by_shape {X} {F} {g} entries n = slice_get-map (λ (e : Entry X F g). e.shape.lookups) entries n ∙ by (slice_get entries n)
  where
    by : (o : Option (Entry X F g)) → option_map (λ (e : Entry X F g). e.shape.lookups) o ≡ option_map (λ (z : Shape). z.lookups) (option_map (λ (e : Entry X F g). e.shape) o)
    by None = refl
    by (Some e) = refl

module _ {X : Type 0} {F : X → Type 0} {g : _} (entries : List (Entry X F g)) (lies : LieInShape entries) (t : RunTables) (tabled : IsTabled t) (lookups : t.lookups ≡ lookups_of entries) (ids : AreIdsOf entries t)
    (sound : AreBodiesSound t.deployment (shape_of entries) (setting_by t.deployment t.tables)) (texts : has_texts t.deployment ≡ true) where
  abbrev d : Deployment
  d = t.deployment

  -- a site of the check that the machine's site covers
  pub fits_body : (s : Site) (stands : Among s (sites_of d)) (live : is_live (setting_by d t.tables).enabled s ≡ true) (parts : OwnParts) → ArePartsOf d s parts
      → (site : MachineSite) → site.body ≡ body_number (id_of t) (body_of s) → Covers t parts (params_of s) (registered entries t ids sound s stands live).shape site
      → FitsBody (machine_tables t) (legal_of entries) site
  fits_body s stands live parts are site is covers count fields view a given =
      let body = registered entries t ids sound s stands live in
      let lie = lie_at entries lies site.body fields view a given in
      let same : body.id ≡ site.body = sym (is ∙ number entries t ids sound s stands live) in
      let shape : lie.shape ≡ body.shape = same_Some lie.shape body.shape (sym lie.has ∙ ap (shape_at entries) (sym same) ∙ body.has) in
      let P : Shape → Type 0 = λ z. in_shape z view a ≡ true in
      fits_act entries t tabled ids sound texts parts (params_of s) body.shape site (inside entries t ids sound s stands live parts are) covers view a (subst P shape lie.lies)

  -- the lookups under a site's number
  pub lookups_there : (s : Site) (stands : Among s (sites_of d)) (live : is_live (setting_by d t.tables).enabled s ≡ true)
      → lookups_at t (body_number (id_of t) (body_of s)) ≡ Some (registered entries t ids sound s stands live).shape.lookups
  lookups_there s stands live =
      let n = body_number (id_of t) (body_of s) in
      ap (λ ls. slice_get ls n) lookups ∙ lookups_by_shape entries n
      ∙ ap (λ k. option_map (λ (z : Shape). z.lookups) (shape_at entries k)) (number entries t ids sound s stands live)
      ∙ ap (option_map (λ (z : Shape). z.lookups)) (registered entries t ids sound s stands live).has

  module _ (b : ℕ) (listed : Bean) (enabled : Among (b, listed) (enabled_of t.tables.resolver)) (plan : HasPlan t b listed) where
    abbrev own : machine.Managed
    own = managed entries t tabled ids sound b listed enabled plan

    on_line : (test : Class → Bool) (fronts rest : List Class) → plan.line ≡ fronts ++ rest → list_any test fronts ≡ true → list_any test plan.line ≡ true
    on_line test fronts rest are e = ap (list_any test) are ∙ list_any-append test fronts rest ∙ ap (λ k. k || list_any test rest) e

    -- a point that is injected into a field of the name is that of this injected field
    point_of : (field : ℕ) (f : InjectedField) → IsInjected plan.line f → f.name ≡ field → (asked : Asked) → IsIn (field, asked) (injected_by own.plan) → asked ≡ asked_by (point_of_field f)
    point_of field f stands name asked injects =
        let step = of_machine (id_of t) plan.plan.steps field asked (injected_step own.plan field asked injects) in
        let P : List Step → Type 0 = λ all. Among (steps.Inject field step.point) all in
        let from = of_steps t.tables.chains plan.constructor listed plan.line field step.point (subst P (ap (λ (p : ManagedPlan). p.steps) plan.is) step.stands) in
        let one : from.injected ≡ f =
        one_injected plan.line (pairs entries t tabled ids sound b listed enabled plan) (apart entries t tabled ids sound b listed enabled plan) from.injected f from.is stands (sym from.name ∙ sym name) in
        step.is ∙ ap asked_by from.point_is ∙ ap (λ k. asked_by (point_of_field k)) one

    -- what is injected by a front of the line is injected by the line
    on_front : (fronts rest : List Class) → plan.line ≡ fronts ++ rest → (field : ℕ) (f : InjectedField) → (parts_of_line fronts).injected field ≡ Some f → IsInjected plan.line f × (f.name ≡ field)
    on_front fronts rest are field f e =
        let found = found_among (λ (k : InjectedField). nat_eq k.name field) (flat_map (λ (c : Class). c.inject) fronts) f e in
        let part = part_of (λ (c : Class). c.inject) fronts f found.0 in
        let P : List Class → Type 0 = λ l. Among part.item l in
        (record { class = part.item; stands = subst P (sym are) (among_left fronts rest part.item part.stands); declared = part.part }, eqb-true f.name field found.1)

    injects_it : (field : ℕ) (f : InjectedField) → IsInjected plan.line f → f.name ≡ field → (asked : Asked) × IsIn (field, asked) (injected_by own.plan)
    injects_it field f stands name =
        let asked = asked_by (point_of_field f) in
        let listed_too = to_steps t.tables.chains plan.constructor listed plan.line f stands in
        let P : ManagedPlan → Type 0 = λ p. IsIn (f.name, asked) (injected_by (machine_steps (id_of t) p.steps)) in
        let Q : ℕ → Type 0 = λ n. IsIn (n, asked) (injected_by own.plan) in
        (asked, subst Q name (subst P (sym plan.is) (injects (id_of t) (steps_of t.tables.chains plan.constructor listed plan.line) f.name (point_of_field f) listed_too)))

    -- an instance of the bean has what the classes of a front of its line declare
    pub class_covers : (fronts rest : List Class) → plan.line ≡ fronts ++ rest → (params : List Point) (n : ℕ) (shape : Shape) → lookups_at t n ≡ Some shape.lookups → (shape.chain ≡ true → ⊥)
        → Covers t (parts_of_line fronts) params shape (class_site own (map asked_by params) n)
    class_covers fronts rest are params n shape there never =
        record {
          sets = λ field e. ap (λ (p : ManagedPlan). has (first_values p.fields) field) plan.is ∙ has_first plan.line field (on_line (λ c. has_field field c.fields) fronts rest are e);
          owns = λ name count e. has_method entries t tabled ids sound b listed enabled plan name count (on_line (declares_method name count) fronts rest are e);
          injected = λ field asked a f e. (let found = on_front fronts rest are field f e in point_of field f found.0 found.1 asked a);
          there = λ field f e. (let found = on_front fronts rest are field f e in injects_it field f found.0 found.1);
          points = refl;
          lookups = there;
          chained = λ c. absurd (never c);
        }

    -- the body of a member of the bean: of a method, an initializer, a callback, an observer; also of a producer or a disposer
    pub member_fits : (c : Class) (m : Member) (body : ℕ) → member_body m ≡ Some body → Among (c, m) (members_of plan.line)
        → FitsBody (machine_tables t) (legal_of entries) (class_site own (map asked_by (member_params m)) (body_number (id_of t) body))
    member_fits c m body is stands =
        let s = Site.AMember c m body in
        let of = of_line plan.line c m stands in
        let is_site = member_site entries t tabled ids sound b listed enabled plan (c, m) body is stands in
        let there = is_site.stands in
        let live = is_site.live in
        let fronts = front entries t tabled ids sound b listed enabled plan c of.class in
        let shape = (registered entries t ids sound s there live).shape in
        fits_body s there live (parts_of_line fronts.front) (record { line = fronts.front; is_line = fronts.is_line; are = refl })
        (class_site own (map asked_by (member_params m)) (body_number (id_of t) body)) refl
        (class_covers fronts.front fronts.rest fronts.are (member_params m) (body_number (id_of t) body) shape (lookups_there s there live)
        (λ e. true≢false (sym (proceeds entries t ids sound s there live e))))

    -- the body of the constructor
    pub constructor_fits : is_managed listed.kind ≡ true → (c : Class) → class_named d.classes listed.class ≡ Some c → (k : Constructor) (body : ℕ) → c.constructor ≡ Some k → k.body ≡ Some body
        → FitsBody (machine_tables t) (legal_of entries) (class_site own (map asked_by k.params) (body_number (id_of t) body))
    constructor_fits kind c named k body has is =
        let s = Site.AConstructor c k body in
        let well = tabled.tables.made.names_well in
        let name : c.name ≡ listed.class = is_of_name d well listed.class c named in
        let is_site = constructor_site entries t tabled ids sound b listed enabled plan kind c named k body has is in
        let there = is_site.stands in
        let live = is_site.live in
        let P : ℕ → Type 0 = λ n. IsLineOf (declarations_of d) d.classes n plan.line in
        let shape = (registered entries t ids sound s there live).shape in
        fits_body s there live (parts_of_line plan.line) (record { line = plan.line; is_line = subst P (sym name) plan.is_line; are = refl })
        (class_site own (map asked_by k.params) (body_number (id_of t) body)) refl
        (class_covers plan.line [] (sym (append-nil plan.line)) k.params (body_number (id_of t) body) shape (lookups_there s there live)
        (λ e. true≢false (sym (proceeds entries t ids sound s there live e))))
