-- What a class has once it is added, and what the others have still.
use Rattle.std.proofs.Common.{ℕ, ◌≡◌, ◌≢◌, ◌∙◌, ◌&&◌, Bool, true, false, not, cond, List, [], ◌∷◌, ◌++◌, length, map, filter, Option, Some, None, slice_get, option_map, refl, sym, ap, subst, arith}
use Rattle.std.proofs.lemmas.List.{map-append}
use Rattle.std.proofs.lemmas.Option.{slice_get_past}
use Rattle.std.specs.Option.{option_or}
use Rattle.cdi_class_lives.proofs.Keeping.{all_there, others_stay, told, told_at}
use Rattle.cdi_class_lives.proofs.Kept.{are_left, are_there_still, is_last}
use Rattle.cdi_class_lives.specs.ClassLives.{IsAdded, KeepsLife, fields_in, injections_in, life_from, life_of, line_in, method_in, post_constructs_in, pre_destroys_in}
use Rattle.cdi_class_lives.specs.Inheriting.{leaves_at, leaves_code, leaves_if_any, leaves_step}
use Rattle.cdi_class_lives.specs.Kept.{are_below}
use Rattle.cdi_class_lives.specs.Lives.{inherited, longer}
use Rattle.cdi_class_lives.specs.declared.life.ClassLife.{ClassLife}
use Rattle.cdi_class_lives.specs.declared.lives.ClassLives.{ClassLives}
use Rattle.cdi_class_lives.specs.declared.own_life.OwnLife.{OwnLife}
use Rattle.cdi_deployment.specs.declared.deployment.Field.{Field}
use Rattle.cdi_machine.specs.declared.step.Step.{Step}
use Rattle.cdi_method_maps.specs.MethodMaps.{IsMap, KeepsMaps, method_at}
use Rattle.cdi_method_maps.specs.NamedMethods.{is_among, method_named}

-- what is kept of a class stands where it is looked for
from_kept : (self : ClassLives) (above : Option ℕ) (life : ClassLife) → life_from self above ≡ Some life → are_below (length self.steps) life.injections ≡ true
from_kept self None life e = absurd cc
from_kept self (Some class) life e = (self.kept class life e).step_places

from_kept_fields : (self : ClassLives) (above : Option ℕ) (life : ClassLife) → life_from self above ≡ Some life → are_below (length self.fields) life.fields ≡ true
from_kept_fields self None life e = absurd cc
from_kept_fields self (Some class) life e = (self.kept class life e).field_places

-- ---- what a class has of the one above it

module _ (old : ClassLives) (class : ℕ) (declared : List ℕ) where
  abbrev has : Option ClassLife → ClassLife
  has above = inherited above old.steps class declared

  line_below : (above : Option ClassLife) → (has above).line ≡ longer (line_in old above) class
  line_below None = refl
  line_below (Some life) = refl

  post_below : (above : Option ClassLife) → (has above).post_constructs ≡ filter (leaves_code declared) (post_constructs_in old above)
  post_below None = refl
  post_below (Some life) = refl

  pre_below : (above : Option ClassLife) → (has above).pre_destroys ≡ filter (leaves_code declared) (pre_destroys_in old above)
  pre_below None = refl
  pre_below (Some life) = refl

  method_below : (above : Option ClassLife) (name : ℕ) → method_at old.methods (has above).methods name ≡ method_in old above name
  method_below None name = refl
  method_below (Some life) name = refl

  steps_below : (own : List Step) (above : Option ClassLife) → ((life : ClassLife) → above ≡ Some life → are_below (length old.steps) life.injections ≡ true)
      → map (slice_get (old.steps ++ own)) (has above).injections ≡ map Some (filter (leaves_step declared) (injections_in old above))
  steps_below own None below = refl
  steps_below own (Some life) below =
      let places = life.injections in
      are_there_still old.steps own (filter (leaves_at declared old.steps) places) (filter (leaves_step declared) (told_at old.steps places))
      (are_left old.steps (leaves_step declared) (leaves_at declared old.steps) (λ place x e. ap (leaves_if_any declared) e) places (told_at old.steps places) (all_there old.steps places (below life refl)))

  fields_below : (own : List Field) (above : Option ClassLife) → ((life : ClassLife) → above ≡ Some life → are_below (length old.fields) life.fields ≡ true)
      → map (slice_get (old.fields ++ own)) (has above).fields ≡ map Some (fields_in old above)
  fields_below own None below = refl
  fields_below own (Some life) below =
      are_there_still old.fields own life.fields (told_at old.fields life.fields) (all_there old.fields life.fields (below life refl))

-- ---- a class more

module _ (old new : ClassLives) (above : Option ℕ) (inherits_methods : Bool) (own : OwnLife) (life : ClassLife)
    (steps : new.steps ≡ old.steps ++ own.injections)
    (fields : new.fields ≡ old.fields ++ own.fields)
    (lives : new.lives ≡ old.lives ++ life ∷ [])
    (kept : KeepsMaps old.methods new.methods)
  where
    abbrev added : ℕ
    added = length old.lives

    here : slice_get new.lives added ≡ Some life
    here = ap (λ all. slice_get all added) lives ∙ is_last old.lives life

    elsewhere : (class : ℕ) → class ≢ added → slice_get new.lives class ≡ slice_get old.lives class
    elsewhere class other = ap (λ all. slice_get all class) lives ∙ others_stay old.lives life class other

    -- another class has what it had
    steps_still : (o : Option ClassLife) → ((life : ClassLife) → o ≡ Some life → are_below (length old.steps) life.injections ≡ true) → injections_in new o ≡ injections_in old o
    steps_still None below = refl
    steps_still (Some life) below =
        ap (λ all. told_at all life.injections) steps
        ∙ told (old.steps ++ own.injections) life.injections (told_at old.steps life.injections)
        (are_there_still old.steps own.injections life.injections (told_at old.steps life.injections) (all_there old.steps life.injections (below life refl)))

    fields_still : (o : Option ClassLife) → ((life : ClassLife) → o ≡ Some life → are_below (length old.fields) life.fields ≡ true) → fields_in new o ≡ fields_in old o
    fields_still None below = refl
    fields_still (Some life) below =
        ap (λ all. told_at all life.fields) fields
        ∙ told (old.fields ++ own.fields) life.fields (told_at old.fields life.fields)
        (are_there_still old.fields own.fields life.fields (told_at old.fields life.fields) (all_there old.fields life.fields (below life refl)))

    method_still : (class : ℕ) (o : Option ClassLife) → slice_get old.lives class ≡ o → (name : ℕ) → method_in new o name ≡ method_in old o name
    method_still class None e name = refl
    method_still class (Some life) e name = by life.methods (old.kept class life e).map
      where
        by : (map : Option ℕ) → ((m : ℕ) → map ≡ Some m → IsMap old.methods m) → method_at new.methods map name ≡ method_at old.methods map name
        by None is = refl
        by (Some m) is = kept.methods m name (is m refl)

    keeps : (class : ℕ) → class ≢ added → KeepsLife old new class
    keeps class other =
        let same = elsewhere class other in
        record {
          line = ap (option_map (λ (l : ClassLife). l.line)) same;
          fields = ap (fields_in new) same ∙ fields_still (life_of old class) (λ l e. (old.kept class l e).field_places);
          injections = ap (injections_in new) same ∙ steps_still (life_of old class) (λ l e. (old.kept class l e).step_places);
          post_constructs = ap (post_constructs_in new) same ∙ codes_still (life_of old class);
          pre_destroys = ap (pre_destroys_in new) same ∙ ends_still (life_of old class);
          methods = λ name. ap (λ o. method_in new o name) same ∙ method_still class (life_of old class) refl name;
        }
      where
        codes_still : (o : Option ClassLife) → post_constructs_in new o ≡ post_constructs_in old o
        codes_still None = refl
        codes_still (Some l) = refl

        ends_still : (o : Option ClassLife) → pre_destroys_in new o ≡ pre_destroys_in old o
        ends_still None = refl
        ends_still (Some l) = refl

    module _ (origin : Option ℕ) (number : ℕ) (is_map : life.methods ≡ Some number)
        (from : origin ≡ cond inherits_methods (inherited (life_from old above) old.steps own.class own.declared).methods None)
      where
        abbrev got : ClassLife
        got = inherited (life_from old above) old.steps own.class own.declared

        choice : (name : ℕ) (i d : Bool) → cond d None (method_at old.methods (cond i got.methods None) name)
            ≡ cond (i && not d) (method_in old (life_from old above) name) None
        choice name true true = refl
        choice name true false = method_below old own.class own.declared (life_from old above) name
        choice name false true = refl
        choice name false false = refl

        is_added : life.line ≡ got.line
            → map (slice_get new.fields) life.fields ≡ map (slice_get new.fields) got.fields ++ map Some own.fields
            → map (slice_get new.steps) life.injections ≡ map (slice_get new.steps) got.injections ++ map Some own.injections
            → life.post_constructs ≡ got.post_constructs ++ own.post_constructs
            → life.pre_destroys ≡ got.pre_destroys ++ own.pre_destroys
            → ((name : ℕ) → method_at new.methods (Some number) name ≡ option_or (method_named name own.methods) (cond (is_among name own.declared) None (method_at old.methods origin name)))
            → IsAdded old above inherits_methods own new added
        is_added line field_places places post pre methods =
            let from_above = life_from old above in
            let left = filter (leaves_step own.declared) (injections_in old from_above) in
            record {
              fresh = ap (option_map (λ (l : ClassLife). l.line)) (slice_get_past old.lives added (omega (arith)));
              line = ap (option_map (λ (l : ClassLife). l.line)) here ∙ ap Some (line ∙ line_below old own.class own.declared from_above);
              fields =
                  ap (fields_in new) here
                  ∙ told new.fields life.fields (fields_in old from_above ++ own.fields)
                  (field_places
                  ∙ ap (λ os. os ++ map Some own.fields)
                  (ap (λ all. map (slice_get all) got.fields) fields ∙ fields_below old own.class own.declared own.fields from_above (from_kept_fields old above))
                  ∙ sym (map-append Some (fields_in old from_above) own.fields));
              injections =
                  ap (injections_in new) here
                  ∙ told new.steps life.injections (left ++ own.injections)
                  (places
                  ∙ ap (λ os. os ++ map Some own.injections)
                  (ap (λ all. map (slice_get all) got.injections) steps ∙ steps_below old own.class own.declared own.injections from_above (from_kept old above))
                  ∙ sym (map-append Some left own.injections));
              post_constructs = ap (post_constructs_in new) here ∙ post ∙ ap (λ cs. cs ++ own.post_constructs) (post_below old own.class own.declared from_above);
              pre_destroys = ap (pre_destroys_in new) here ∙ pre ∙ ap (λ cs. cs ++ own.pre_destroys) (pre_below old own.class own.declared from_above);
              methods = λ name.
                  ap (λ o. method_in new o name) here
                  ∙ ap (λ m. method_at new.methods m name) is_map
                  ∙ methods name
                  ∙ ap (λ o. option_or (method_named name own.methods) (cond (is_among name own.declared) None (method_at old.methods o name))) from
                  ∙ ap (option_or (method_named name own.methods)) (choice name inherits_methods (is_among name own.declared));
              others = keeps;
            }

        pub is_added_at : (place : ℕ) → place ≡ added → life.line ≡ got.line
            → map (slice_get new.fields) life.fields ≡ map (slice_get new.fields) got.fields ++ map Some own.fields
            → map (slice_get new.steps) life.injections ≡ map (slice_get new.steps) got.injections ++ map Some own.injections
            → life.post_constructs ≡ got.post_constructs ++ own.post_constructs
            → life.pre_destroys ≡ got.pre_destroys ++ own.pre_destroys
            → ((name : ℕ) → method_at new.methods (Some number) name ≡ option_or (method_named name own.methods) (cond (is_among name own.declared) None (method_at old.methods origin name)))
            → IsAdded old above inherits_methods own new place
        is_added_at place at line field_places places post pre methods =
            subst (IsAdded old above inherits_methods own new) (sym at) (is_added line field_places places post pre methods)
