-- What classes have for the lives of their instances, and what one more has.
use Rattle.std.specs.Prelude.{ℕ, ◌≡◌, ◌≢◌, ◌++◌, ◌&&◌, Bool, not, List, [], filter, Option, Some, None, option_and_then, option_map, slice_get, if◌then◌else◌}
use Rattle.std.specs.List.{filter_map}
use Rattle.std.specs.Option.{option_or}
use Rattle.cdi_class_lives.specs.Inheriting.{leaves_code, leaves_step}
use Rattle.cdi_class_lives.specs.Lives.{longer}
use Rattle.cdi_class_lives.specs.declared.life.ClassLife.{ClassLife}
use Rattle.cdi_class_lives.specs.declared.lives.ClassLives.{ClassLives}
use Rattle.cdi_class_lives.specs.declared.own_life.OwnLife.{OwnLife}
use Rattle.cdi_deployment.specs.declared.deployment.Field.{Field}
use Rattle.cdi_machine.specs.Tables.{Code}
use Rattle.cdi_machine.specs.declared.member.Method.{Method}
use Rattle.cdi_machine.specs.declared.step.Step.{Step}
use Rattle.cdi_method_maps.specs.MethodMaps.{method_at}
use Rattle.cdi_method_maps.specs.NamedMethods.{is_among, method_named}

-- a class is told by its place
module _ (l : ClassLives) where
  -- what is kept of a class
  abbrev pub life_of : ℕ → Option ClassLife
  life_of class = slice_get l.lives class

  abbrev pub life_from : Option ℕ → Option ClassLife
  life_from class = option_and_then life_of class

  -- the parts of that; without it there are none
  abbrev pub line_in : Option ClassLife → List ℕ
  line_in None = []
  line_in (Some life) = life.line

  abbrev pub fields_in : Option ClassLife → List Field
  fields_in None = []
  fields_in (Some life) = filter_map (slice_get l.fields) life.fields

  abbrev pub injections_in : Option ClassLife → List Step
  injections_in None = []
  injections_in (Some life) = filter_map (slice_get l.steps) life.injections

  abbrev pub post_constructs_in : Option ClassLife → List Code
  post_constructs_in None = []
  post_constructs_in (Some life) = life.post_constructs

  abbrev pub pre_destroys_in : Option ClassLife → List Code
  pre_destroys_in None = []
  pre_destroys_in (Some life) = life.pre_destroys

  abbrev pub method_in : Option ClassLife → ℕ → Option Method
  method_in None name = None
  method_in (Some life) name = method_at l.methods life.methods name

  -- ---- of a class

  abbrev pub line_of : ℕ → Option (List ℕ)
  line_of class = option_map (λ (life : ClassLife). life.line) (life_of class)

  abbrev pub fields_of : ℕ → List Field
  fields_of class = fields_in (life_of class)

  -- the steps that inject fields and run initializers
  abbrev pub injections_of : ℕ → List Step
  injections_of class = injections_in (life_of class)

  abbrev pub post_constructs_of : ℕ → List Code
  post_constructs_of class = post_constructs_in (life_of class)

  abbrev pub pre_destroys_of : ℕ → List Code
  pre_destroys_of class = pre_destroys_in (life_of class)

  abbrev pub method_of : ℕ → ℕ → Option Method
  method_of class name = method_in (life_of class) name

-- another class has what it had
pub record KeepsLife (old new : ClassLives) (class : ℕ) : Type 0 where
  pub line : line_of new class ≡ line_of old class
  pub fields : fields_of new class ≡ fields_of old class
  pub injections : injections_of new class ≡ injections_of old class
  pub post_constructs : post_constructs_of new class ≡ post_constructs_of old class
  pub pre_destroys : pre_destroys_of new class ≡ pre_destroys_of old class
  pub methods : (name : ℕ) → method_of new class name ≡ method_of old class name

-- A class is added at a place where none was: it has what the class above it has that it doesn't override, and behind it what it
-- declares.
pub record IsAdded (old : ClassLives) (above : Option ℕ) (inherits_methods : Bool) (own : OwnLife)
    (new : ClassLives) (class : ℕ) : Type 0 where
  pub fresh : line_of old class ≡ None
  pub line : line_of new class ≡ Some (longer (line_in old (life_from old above)) own.class)
  pub fields : fields_of new class ≡ fields_in old (life_from old above) ++ own.fields
  pub injections :
      injections_of new class
      ≡ filter (leaves_step own.declared) (injections_in old (life_from old above))
      ++ own.injections
  pub post_constructs :
      post_constructs_of new class
      ≡ filter (leaves_code own.declared) (post_constructs_in old (life_from old above))
      ++ own.post_constructs
  pub pre_destroys :
      pre_destroys_of new class
      ≡ filter (leaves_code own.declared) (pre_destroys_in old (life_from old above))
      ++ own.pre_destroys
  pub methods :
      (name : ℕ)
      → method_of new class name
      ≡ option_or (method_named name own.methods)
      (if inherits_methods && not (is_among name own.declared)
      then method_in old (life_from old above) name else None)
  pub others : (other : ℕ) → other ≢ class → KeepsLife old new other
