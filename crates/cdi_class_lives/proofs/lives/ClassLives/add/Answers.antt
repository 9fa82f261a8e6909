use Rattle.std.proofs.Common.{◌≡◌, ◌∙◌, List, Result, Ok, Err, cond, map, slice_get, ◌++◌, ◌∷◌, [], refl, sym, ap, subst, None, Some, arith}
use Rattle.std.specs.Option.{option_or}
use Rattle.std.specs.Prelude.{OnOk, OnErr}
use Rattle.std.proofs.lemmas.Option.{same_Some}
use Rattle.cdi_class_lives.proofs.Added.{is_added_at}
use Rattle.cdi_class_lives.proofs.Keeping.{are_kept_still, are_kept_with}
use Rattle.cdi_class_lives.specs.ClassLives.{life_from}
use Rattle.cdi_class_lives.specs.Kept.{AreKept, IsKept}
use Rattle.cdi_class_lives.specs.Lives.{inherited}
use Rattle.cdi_class_lives.specs.declared.life.ClassLife.{ClassLife}
use Rattle.cdi_deployment.specs.declared.deployment.Field.{Field}
use Rattle.cdi_machine.specs.declared.step.Step.{Step}
use Rattle.cdi_method_maps.specs.MethodMaps.{IsMap, method_at}
use Rattle.cdi_method_maps.specs.NamedMethods.{is_among, method_named}
use Rattle.cdi_method_maps.specs.declared.method_maps.MethodMaps.{MethodMaps}
use Rattle.cdi_class_lives.proofs.lives.ClassLives.add.Goals as goal
use Rattle.cdi_class_lives.proofs.lives.ClassLives.add.Goals.{then-inherits_methods, else-inherits_methods}

pub invariant_of-self : goal.invariant_of-self
invariant_of-self c =
    let self = c.args.self.now in
    record { kept = are_kept_still self.steps self.steps self.fields c.keep_all.new.kept self.methods self.methods (omega (arith)) c.keep_all.ensures.grown (λ map is. is) self.lives self.kept }

pub invariant_of-self-in-Break-branch-3 : goal.invariant_of-self-in-Break-branch-3
invariant_of-self-in-Break-branch-3 c =
    let self = c.args.self.now in
    record { kept = are_kept_still self.steps c.keep_all-2.new.kept self.fields c.keep_all.new.kept self.methods self.methods c.keep_all-2.ensures.grown c.keep_all.ensures.grown (λ map is. is) self.lives self.kept }

pub invariant_of-self-in-Break-branch-4 : goal.invariant_of-self-in-Break-branch-4
invariant_of-self-in-Break-branch-4 c =
    let self = c.args.self.now in
    record { kept = are_kept_still self.steps c.keep_all-2.new.kept self.fields c.keep_all.new.kept self.methods self.methods c.keep_all-2.ensures.grown c.keep_all.ensures.grown (λ map is. is) self.lives self.kept }

pub invariant_of-self-in-Break-branch-5 : goal.invariant_of-self-in-Break-branch-5
invariant_of-self-in-Break-branch-5 c =
    let self = c.args.self.now in
    record { kept = are_kept_still self.steps c.keep_all-2.new.kept self.fields c.keep_all.new.kept self.methods self.methods c.keep_all-2.ensures.grown c.keep_all.ensures.grown (λ map is. is) self.lives self.kept }

pub invariant_of-self-in-Break-branch-6 : goal.invariant_of-self-in-Break-branch-6
invariant_of-self-in-Break-branch-6 c =
    let self = c.args.self.now in
    record { kept = are_kept_still self.steps c.keep_all-2.new.kept self.fields c.keep_all.new.kept self.methods c.add.new.self c.keep_all-2.ensures.grown c.keep_all.ensures.grown c.add.ensures.kept.maps self.lives self.kept }

-- whether the class was added or not
kept_behind : {V E : Type 0} (steps : List Step) (fields : List Field) (maps : MethodMaps) (lives new : List ClassLife) (life : ClassLife) (result : Result V E)
    → OnOk result (new ≡ lives ++ life ∷ [])
    → OnErr result (new ≡ lives)
    → IsKept steps fields maps life → AreKept steps fields maps lives → AreKept steps fields maps new
kept_behind steps fields maps lives new life (Ok v) with same is are = subst (AreKept steps fields maps) (sym with) (are_kept_with steps fields maps lives life is are)
kept_behind steps fields maps lives new life (Err e) with same is are = subst (AreKept steps fields maps) (sym same) are

pub invariant_of-self-2 : goal.invariant_of-self-2
invariant_of-self-2 c =
    let self = c.args.self.now in
    let fields = c.keep_all.new.kept in
    let steps = c.keep_all-2.new.kept in
    let maps = c.add.new.self in
    let map = c.in_ok-add.field-0 in
    let life : ClassLife = record {
      line = c.in_ok-life.life.line;
      fields = c.keep_all.new.places;
      injections = c.keep_all-2.new.places;
      post_constructs = c.add_codes.new.codes;
      pre_destroys = c.add_codes-2.new.codes;
      methods = Some map;
    } in
    let is : IsKept steps fields maps life = record {
      step_places = c.in_ok-keep_all-2.ensures.below c.in_ok-life.ensures.kept.step_places;
      field_places = c.in_ok-keep_all.ensures.below c.in_ok-life.ensures.kept.field_places;
      map = λ other e. subst (IsMap maps) (same_Some map other e) c.in_ok-add.ensures.added;
    } in
    let are = are_kept_still self.steps steps self.fields fields self.methods maps c.keep_all-2.ensures.grown c.keep_all.ensures.grown c.add.ensures.kept.maps self.lives self.kept in
    record { kept = kept_behind steps fields maps self.lives c.push.new.self life c.push.result c.push.ensures.ok c.push.ensures.err is are }

pub returns : goal.returns
returns c =
    let self = c.args.self.now in
    let own = c.args.own in
    let new = c.keep_all-2.new.kept in
    let all = c.keep_all.new.kept in
    let from_above = life_from self c.args.above in
    let declared = c.as_slice-declared.ensures in
    let got : c.in_ok-life.life ≡ inherited from_above self.steps own.class own.declared =
    c.in_ok-life.ensures.life ∙ ap (λ names. inherited from_above self.steps own.class names) declared in
    let life : ClassLife = record {
      line = c.in_ok-life.life.line;
      fields = c.keep_all.new.places;
      injections = c.keep_all-2.new.places;
      post_constructs = c.add_codes.new.codes;
      pre_destroys = c.add_codes-2.new.codes;
      methods = Some c.in_ok-add.field-0;
    } in
    let origin : c.if-inherits_methods.origin ≡ cond c.args.inherits_methods (inherited from_above self.steps own.class own.declared).methods None =
    elim c.if-inherits_methods.branch [
      | then-inherits_methods w ↦
          w.origin-is ∙ ap (λ (l : ClassLife). l.methods) got
          ∙ sym (ap (λ b. cond b (inherited from_above self.steps own.class own.declared).methods None) w.if-inherits_methods.true)
      | else-inherits_methods w ↦
          w.origin-is
          ∙ sym (ap (λ b. cond b (inherited from_above self.steps own.class own.declared).methods None) w.if-inherits_methods.false)
    ] in
    is_added_at self _ c.args.above c.args.inherits_methods own life c.in_ok-keep_all-2.ensures.kept c.in_ok-keep_all.ensures.kept c.in_ok-push.ensures.ok c.add.ensures.kept c.if-inherits_methods.origin c.in_ok-add.field-0 refl origin c.len-place.result c.len-place.ensures
    (ap (λ (l : ClassLife). l.line) got)
    (c.in_ok-keep_all.ensures.places ∙ ap (λ (l : ClassLife). map (slice_get all) l.fields ++ map Some own.fields) got)
    (c.in_ok-keep_all-2.ensures.places ∙ ap (λ (l : ClassLife). map (slice_get new) l.injections ++ map Some own.injections) got)
    (c.in_ok-add_codes.ensures ∙ ap (λ codes. c.in_ok-life.life.post_constructs ++ codes) c.as_slice.ensures ∙ ap (λ (l : ClassLife). l.post_constructs ++ own.post_constructs) got)
    (c.in_ok-add_codes-2.ensures ∙ ap (λ codes. c.in_ok-life.life.pre_destroys ++ codes) c.as_slice-2.ensures ∙ ap (λ (l : ClassLife). l.pre_destroys ++ own.pre_destroys) got)
    (λ name. c.in_ok-add.ensures.methods name
    ∙ ap (λ names. option_or (method_named name own.methods) (cond (is_among name names) None (method_at self.methods c.if-inherits_methods.origin name))) declared)
