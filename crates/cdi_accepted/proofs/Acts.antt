-- The acts of a shape that names what is there fit a site that has what it names.
use Rattle.std.proofs.Common.{ℕ, zero, suc, ◌≡◌, ◌<◌, ◌∙◌, ◌||◌, ◌&&◌, ◌⊎◌, inl, inr, true, false, not, nat_eq, List, [], ◌∷◌, length, map, Option, Some, None, refl, sym, ap, subst, arith}
use Rattle.std.specs.Prelude.{nat_lt, option_map, slice_get}
use Rattle.std.proofs.lemmas.Bool.{and_parts, eqb-true, ltb-true, not-false, or_cases, true≢false}
use Rattle.std.proofs.lemmas.Option.{same_Some}
use Rattle.std.specs.List.{list_all, list_any}
use Rattle.cdi_base.specs.Fields.{has}
use Rattle.cdi_base.specs.declared.act.Act.{Act}
use Rattle.cdi_base.specs.declared.act.Act.TheVariants as acts
use Rattle.cdi_base.specs.declared.act.Via.{Via}
use Rattle.cdi_base.specs.declared.act.Via.TheVariants as vias
use Rattle.cdi_bodies.specs.Events.{same_qualifiers}
use Rattle.cdi_bodies.specs.Shape.{in_shape, is_thrown, last_answer, via_eq}
use Rattle.cdi_bodies.specs.declared.entry.Entry.{Entry}
use Rattle.cdi_bodies.specs.declared.shape.FiredEvent.{FiredEvent}
use Rattle.cdi_bodies.specs.declared.shape.Lookup.{Lookup}
use Rattle.cdi_bodies.specs.declared.shape.MethodCall.{MethodCall}
use Rattle.cdi_bodies.specs.declared.shape.OwnCall.{OwnCall}
use Rattle.cdi_bodies.specs.declared.shape.Shape.{Shape}
use Rattle.cdi_bodies.specs.declared.view.View.{View}
use Rattle.cdi_body_check.specs.Shapes.{shape_of}
use Rattle.cdi_check.specs.Accepted.{AreBodiesSound}
use Rattle.cdi_check.specs.Tables.{setting_by}
use Rattle.cdi_deployment.specs.declared.deployment.InjectedField.{InjectedField}
use Rattle.cdi_deployment.specs.declared.deployment.Point.{Point}
use Rattle.cdi_machine.specs.Tables as machine
use Rattle.cdi_machine.specs.Words.{Asked}
use Rattle.cdi_run_tables.specs.Machine.{AreIdsOf, asked_by, asked_by_lookup, lookup_in, lookups_at, machine_tables}
use Rattle.cdi_run_tables.specs.Planned.{IsTabled}
use Rattle.cdi_run_tables.specs.Texts.{has_texts}
use Rattle.cdi_run_tables.specs.declared.tables.RunTables.{RunTables}
use Rattle.cdi_name_check.specs.UnknownName.{is_event_qualifier_use}
use Rattle.cdi_shape_check.specs.Application.{Application}
use Rattle.cdi_shape_check.specs.BodyOutsideShape.{lacks_call, lacks_cell, lacks_field, lacks_local, lacks_method, names_missing, names_unknown}
use Rattle.cdi_shape_check.specs.OwnParts.{OwnParts}
use Rattle.cdi_shape_check.specs.References.{bean_at, is_call_missing, is_cell_missing, point_at, refuses_call}
use Rattle.cdi_body_check.specs.WrittenPoints.{point_of_field, point_of_lookup}
use Rattle.cdi_body_check.specs.WrittenNames.{is_concrete, is_event, is_exception, is_lookup}
use Rattle.cdi_types.specs.Line.{class_named}
use Rattle.cdi_ledger.specs.Whose.{IsIn}
use Rattle.cdi_whole.specs.Fits.{AnswersCalls, FitsAct, HasMethod, IsThere, LeadsTo, Site}
use Rattle.cdi_accepted.proofs.Lists.{neither, none_passes, passing}
use Rattle.cdi_accepted.proofs.Registered.{app_of}
use Rattle.cdi_accepted.proofs.Texts.{exception_text}
use Rattle.cdi_accepted.proofs.Calls.{answered}

-- ---- shapes that name what is there

-- of a shape that names what is there
record IsWithin (app : Application) (parts : OwnParts) (params : List Point) (s : Shape) : Type 0 where
  sets : lacks_field parts s ≡ false
  owns : lacks_method parts s ≡ false
  calls : lacks_call app parts params s ≡ false
  cells : lacks_cell app parts params s ≡ false
  fires : list_any (λ e. not (is_event app.deployment e)) s.fires ≡ false
  throws : list_any (λ x. not (is_exception app.deployment x)) s.throws ≡ false
  destroys : lacks_local s ≡ false

within : (app : Application) (parts : OwnParts) (params : List Point) (s : Shape) → names_missing app parts params s ≡ false → IsWithin app parts params s
within app parts params s inside =
    let all = neither (lacks_field parts s || lacks_method parts s || lacks_call app parts params s || lacks_cell app parts params s || names_unknown app.deployment s) (lacks_local s) inside in
    let one = neither (lacks_field parts s || lacks_method parts s || lacks_call app parts params s || lacks_cell app parts params s) (names_unknown app.deployment s) all.0 in
    let two = neither (lacks_field parts s || lacks_method parts s || lacks_call app parts params s) (lacks_cell app parts params s) one.0 in
    let three = neither (lacks_field parts s || lacks_method parts s) (lacks_call app parts params s) two.0 in
    let four = neither (lacks_field parts s) (lacks_method parts s) three.0 in
    let fires = list_any (λ e. not (is_event app.deployment e)) s.fires in
    let lookups = list_any (λ l. not (is_lookup app.deployment l)) s.lookups in
    let throws = neither (fires || lookups) (list_any (λ x. not (is_exception app.deployment x)) s.throws) one.1 in
    record { sets = four.0; owns = four.1; calls = three.1; cells = two.1; fires = (neither fires lookups throws.0).0; throws = throws.1; destroys = all.1 }

same_via : (v u : Via) → via_eq v u ≡ true → v ≡ u
same_via (vias.Field a) (vias.Field b) e = ap (λ n. vias.Field n) (eqb-true a b e)
same_via (vias.Param a) (vias.Param b) e = ap (λ n. vias.Param n) (eqb-true a b e)
same_via (vias.Local a) (vias.Local b) e = ap (λ n. vias.Local n) (eqb-true a b e)
same_via (vias.Field a) (vias.Param b) e = absurd (true≢false (sym e))
same_via (vias.Field a) (vias.Local b) e = absurd (true≢false (sym e))
same_via (vias.Param a) (vias.Field b) e = absurd (true≢false (sym e))
same_via (vias.Param a) (vias.Local b) e = absurd (true≢false (sym e))
same_via (vias.Local a) (vias.Field b) e = absurd (true≢false (sym e))
same_via (vias.Local a) (vias.Param b) e = absurd (true≢false (sym e))

-- a call that the shape lists, through a reference that is there
record IsListedCall (app : Application) (parts : OwnParts) (params : List Point) (s : Shape) (via : Via) (name count : ℕ) : Type 0 where
  call : MethodCall
  method : call.method ≡ name
  takes : call.count ≡ count
  there : is_call_missing app call (point_at parts params s.lookups via) ≡ false

listed_call : (app : Application) (parts : OwnParts) (params : List Point) (s : Shape) → lacks_call app parts params s ≡ false → (via : Via) (name count : ℕ)
    → list_any (λ (c : MethodCall). via_eq c.via via && nat_eq c.method name && nat_eq c.count count) s.calls ≡ true → IsListedCall app parts params s via name count
listed_call app parts params s none via name count h =
    let found = passing (λ (c : MethodCall). via_eq c.via via && nat_eq c.method name && nat_eq c.count count) s.calls h in
    let one = and_parts (via_eq found.item.via via && nat_eq found.item.method name) (nat_eq found.item.count count) found.passes in
    let two = and_parts (via_eq found.item.via via) (nat_eq found.item.method name) one.0 in
    let missing = none_passes (λ (c : MethodCall). is_call_missing app c (point_at parts params s.lookups c.via)) s.calls found.item none found.stands in
    let P : Via → Type 0 = λ v. is_call_missing app found.item (point_at parts params s.lookups v) ≡ false in
    record {
      call = found.item;
      method = eqb-true found.item.method name two.1;
      takes = eqb-true found.item.count count one.1;
      there = subst P (same_via found.item.via via two.0) missing;
    }

-- what isn't missing is there
some_called : (app : Application) (call : MethodCall) (o : Option Point) → is_call_missing app call o ≡ false → (p : Point) × (o ≡ Some p)
some_called app call None e = absurd (true≢false e)
some_called app call (Some p) e = (p, refl)

some_held : (app : Application) (o : Option Point) → is_cell_missing app o ≡ false → (p : Point) × (o ≡ Some p)
some_held app None e = absurd (true≢false e)
some_held app (Some p) e = (p, refl)

-- a value that the shape lists stands behind a reference that is there
listed_cell : (app : Application) (parts : OwnParts) (params : List Point) (s : Shape) → lacks_cell app parts params s ≡ false → (via : Via) → list_any (λ v. via_eq v via) s.cells ≡ true
    → (p : Point) × (point_at parts params s.lookups via ≡ Some p)
listed_cell app parts params s none via h =
    let found = passing (λ v. via_eq v via) s.cells h in
    let there = none_passes (λ v. is_cell_missing app (point_at parts params s.lookups v)) s.cells found.item none found.stands in
    let P : Via → Type 0 = λ v. is_cell_missing app (point_at parts params s.lookups v) ≡ false in
    some_held app (point_at parts params s.lookups via) (subst P (same_via found.item via found.passes) there)

-- ---- what a site has

-- A site has what the check says of an own instance, of the body's parameters and of its shape.
pub record Covers (t : RunTables) (parts : OwnParts) (params : List Point) (s : Shape) (site : Site) : Type 0 where
  pub sets : (field : ℕ) → parts.has_field field ≡ true → has site.fields field ≡ true
  pub owns : (name count : ℕ) → parts.has_method name count ≡ true → HasMethod site.methods name count
  pub injected : (field : ℕ) (asked : Asked) → IsIn (field, asked) site.injected → (f : InjectedField) → parts.injected field ≡ Some f → asked ≡ asked_by (point_of_field f)
  pub there : (field : ℕ) (f : InjectedField) → parts.injected field ≡ Some f → (asked : Asked) × IsIn (field, asked) site.injected
  pub points : site.points ≡ map asked_by params
  pub lookups : lookups_at t site.body ≡ Some s.lookups
  pub chained : s.chain ≡ true → site.chained ≡ true

-- a point among mapped ones
record IsMappedAt (params : List Point) (k : ℕ) (asked : Asked) : Type 0 where
  point : Point
  has : slice_get params k ≡ Some point
  is : asked ≡ asked_by point

mapped_at : (params : List Point) (k : ℕ) (asked : Asked) → slice_get (map asked_by params) k ≡ Some asked → IsMappedAt params k asked
mapped_at [] k asked e = absurd cc
mapped_at (p ∷ params) zero asked e = record { point = p; has = refl; is = sym (same_Some (asked_by p) asked e) }
mapped_at (p ∷ params) (suc k) asked e = let more = mapped_at params k asked e in record { point = more.point; has = more.has; is = more.is }

mapped_there : (params : List Point) (k : ℕ) (p : Point) → slice_get params k ≡ Some p → slice_get (map asked_by params) k ≡ Some (asked_by p)
mapped_there [] k p e = absurd cc
mapped_there (q ∷ params) zero p e = ap (λ x. Some (asked_by x)) (same_Some q p e)
mapped_there (q ∷ params) (suc k) p e = mapped_there params k p e

there_below : {X : Type 0} (xs : List X) (k : ℕ) → k < length xs → (x : X) × (slice_get xs k ≡ Some x)
there_below [] k lt = absurd (omega arith)
there_below (x ∷ xs) zero lt = (x, refl)
there_below (x ∷ xs) (suc k) lt = there_below xs k (omega arith)

there_at : {X : Type 0} (xs : List X) (k : ℕ) → nat_lt k (length xs) ≡ true → (x : X) × (slice_get xs k ≡ Some x)
there_at xs k e = there_below xs k (ltb-true k (length xs) e)

module _ {X : Type 0} {F : X → Type 0} {g : _} (entries : List (Entry X F g)) (t : RunTables) (tabled : IsTabled t) (ids : AreIdsOf entries t)
    (sound : AreBodiesSound t.deployment (shape_of entries) (setting_by t.deployment t.tables)) (texts : has_texts t.deployment ≡ true)
    (parts : OwnParts) (params : List Point) (s : Shape) (site : Site) (inside : names_missing (app_of t) parts params s ≡ false) (covers : Covers t parts params s site) where
  abbrev app : Application
  app = app_of t

  is_within : IsWithin app parts params s
  is_within = within app parts params s inside

  -- the point behind a reference, by which it isn't refused
  record IsPointed (call : MethodCall) (b : ℕ) : Type 0 where
    point : Point
    accepted : refuses_call t.deployment.classes call (bean_at app point) ≡ false
    resolves : (machine_tables t).resolve (asked_by point) ≡ machine.Resolution.One b

  lookup_at : (k : ℕ) (asked : Asked) → (machine_tables t).lookup site.body k ≡ Some asked → (l : Lookup) × (slice_get s.lookups k ≡ Some l) × (asked ≡ asked_by_lookup l)
  lookup_at k asked e = by (slice_get s.lookups k) refl (sym (ap (λ (o : Option (List Lookup)). lookup_in o k) covers.lookups) ∙ e)
    where
      by : (o : Option Lookup) → slice_get s.lookups k ≡ o → option_map asked_by_lookup o ≡ Some asked → (l : Lookup) × (slice_get s.lookups k ≡ Some l) × (asked ≡ asked_by_lookup l)
      by None is h = absurd cc
      by (Some l) is h = (l, is, sym (same_Some (asked_by_lookup l) asked h))

  behind : (via : Via) (call : MethodCall) (b : ℕ) → is_call_missing app call (point_at parts params s.lookups via) ≡ false → LeadsTo (machine_tables t) site via b → IsPointed call b
  behind (vias.Field field) call b there leads = by (parts.injected field) refl there
    where
      by : (o : Option InjectedField) → parts.injected field ≡ o → is_call_missing app call (option_map point_of_field o) ≡ false → IsPointed call b
      by None is m = absurd (true≢false m)
      by (Some f) is m =
          let same = covers.injected field leads.0 leads.1 f is in
          record { point = point_of_field f; accepted = m; resolves = ap (λ a. (machine_tables t).resolve a) (sym same) ∙ leads.2 }
  behind (vias.Param k) call b there leads =
      let found = mapped_at params k leads.0 (ap (λ ps. slice_get ps k) (sym covers.points) ∙ leads.1) in
      record {
        point = found.point;
        accepted = ap (is_call_missing app call) (sym found.has) ∙ there;
        resolves = ap (λ a. (machine_tables t).resolve a) (sym found.is) ∙ leads.2;
      }
  behind (vias.Local k) call b there leads =
      let found = lookup_at k leads.0 leads.1 in
      record {
        point = point_of_lookup found.0;
        accepted = ap (λ o. is_call_missing app call (option_map point_of_lookup o)) (sym found.1) ∙ there;
        resolves = ap (λ a. (machine_tables t).resolve a) (sym found.2) ∙ leads.2;
      }

  local_there : (k : ℕ) (l : Lookup) → slice_get s.lookups k ≡ Some l → IsThere (machine_tables t) site (vias.Local k)
  local_there k l e = (
    asked_by_lookup l,
    ap (λ (o : Option (List Lookup)). lookup_in o k) covers.lookups ∙ ap (option_map asked_by_lookup) e,
  )

  -- what stands behind a reference for the check does so for the machine
  is_there : (via : Via) (p : Point) → point_at parts params s.lookups via ≡ Some p → IsThere (machine_tables t) site via
  is_there (vias.Field field) p e = by (parts.injected field) refl e
    where
      by : (o : Option InjectedField) → parts.injected field ≡ o → option_map point_of_field o ≡ Some p → IsThere (machine_tables t) site (vias.Field field)
      by None is h = absurd cc
      by (Some f) is h = covers.there field f is
  is_there (vias.Param k) p e = (asked_by p, ap (λ ps. slice_get ps k) covers.points ∙ mapped_there params k p e)
  is_there (vias.Local k) p e = by (slice_get s.lookups k) refl e
    where
      by : (o : Option Lookup) → slice_get s.lookups k ≡ o → option_map point_of_lookup o ≡ Some p → IsThere (machine_tables t) site (vias.Local k)
      by None is h = absurd cc
      by (Some l) is h = local_there k l is

  held_there : (via : Via) → list_any (λ v. via_eq v via) s.cells ≡ true → IsThere (machine_tables t) site via
  held_there via h = let found = listed_cell app parts params s is_within.cells via h in is_there via found.0 found.1

  pub fits_act : (view : View) (a : Act) → in_shape s view a ≡ true → FitsAct (machine_tables t) site view a
  fits_act view (acts.Set field v) h =
      let found = passing (λ f. nat_eq f field) s.sets h in
      let there = not-false _ (none_passes (λ name. not (parts.has_field name)) s.sets found.item is_within.sets found.stands) in
      let P : ℕ → Type 0 = λ n. parts.has_field n ≡ true in
      covers.sets field (subst P (eqb-true found.item field found.passes) there)
  fits_act view (acts.Own name args) h =
      let found = passing (λ (c : OwnCall). nat_eq c.method name && nat_eq c.count (length args)) s.owns h in
      let both = and_parts (nat_eq found.item.method name) (nat_eq found.item.count (length args)) found.passes in
      let there = not-false _ (none_passes (λ (own : OwnCall). not (parts.has_method own.method own.count)) s.owns found.item is_within.owns found.stands) in
      let P : ℕ → Type 0 = λ n. parts.has_method n found.item.count ≡ true in
      let Q : ℕ → Type 0 = λ n. parts.has_method name n ≡ true in
      covers.owns name (length args) (subst Q (eqb-true found.item.count (length args) both.1) (subst P (eqb-true found.item.method name both.0) there))
  fits_act view (acts.Call via name args) h =
      let found = listed_call app parts params s is_within.calls via name (length args) h in
      let stands = some_called app found.call (point_at parts params s.lookups via) found.there in (
        is_there via stands.0 stands.1,
        λ b leads.
            let point = behind via found.call b found.there leads in
            let P : ℕ → Type 0 = λ n. AnswersCalls (machine_tables t) b n found.call.count in
            let Q : ℕ → Type 0 = λ n. AnswersCalls (machine_tables t) b name n in
            subst Q found.takes (subst P found.method (answered entries t tabled ids sound point.point found.call b point.accepted point.resolves)),
      )
  fits_act view (acts.Throw x) h = by (or_cases (list_any (λ y. nat_eq y x) s.throws) (is_thrown x (last_answer view)) h)
    where
      by : (list_any (λ y. nat_eq y x) s.throws ≡ true) ⊎ (is_thrown x (last_answer view) ≡ true) → FitsAct (machine_tables t) site view (acts.Throw x)
      by (inr thrown) = inr thrown
      by (inl e) =
          let found = passing (λ y. nat_eq y x) s.throws e in
          let there = not-false _ (none_passes (λ y. not (is_exception app.deployment y)) s.throws found.item is_within.throws found.stands) in
          let P : ℕ → Type 0 = λ n. is_exception app.deployment n ≡ true in
          inl (exception_text t.deployment texts x (subst P (eqb-true found.item x found.passes) there))
  fits_act view (acts.Find k) h =
      let found = there_at s.lookups k h in
      local_there k found.0 found.1
  fits_act view (acts.Proceed args) h = covers.chained h
  fits_act view (acts.Keep key v) h = covers.chained h
  fits_act view (acts.Peek key) h = covers.chained h
  fits_act view (acts.Read via) h = held_there via h
  fits_act view (acts.Write via v) h = held_there via h
  fits_act view (acts.Fire of qualifiers v) h =
      let found = passing (λ (e : FiredEvent). nat_eq e.class of && same_qualifiers e.qualifiers qualifiers) s.fires h in
      let there = not-false _ (none_passes (λ (e : FiredEvent). not (is_event app.deployment e)) s.fires found.item is_within.fires found.stands) in
      let concrete = (and_parts (is_concrete (class_named app.deployment.classes found.item.class)) (list_all (is_event_qualifier_use app.deployment) found.item.qualifiers) there).0 in
      let P : ℕ → Type 0 = λ n. is_concrete (class_named app.deployment.classes n) ≡ true in
      let named = subst P (eqb-true found.item.class of (and_parts (nat_eq found.item.class of) (same_qualifiers found.item.qualifiers qualifiers) found.passes).0) concrete in
      ap (λ b. b && true) named
  fits_act view (acts.Destroy local) h =
      let found = passing (λ k. nat_eq k local) s.destroys h in
      let below = not-false _ (none_passes (λ k. not (nat_lt k (length s.lookups))) s.destroys found.item is_within.destroys found.stands) in
      let P : ℕ → Type 0 = λ k. nat_lt k (length s.lookups) ≡ true in
      let there = there_at s.lookups local (subst P (eqb-true found.item local found.passes) below) in
      local_there local there.0 there.1
  fits_act view (acts.Give v) h = tt
