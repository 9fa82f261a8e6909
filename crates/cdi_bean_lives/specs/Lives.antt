-- What is kept of the classes of a deployment: what they have by its plans, in the words of an instance's life.
use Rattle.std.specs.Prelude.{ℕ, ◌≡◌, Bool, true, false, List, [], ◌∷◌, ◌++◌, map, Option, Some, None, option_map}
use Rattle.std.specs.List.{filter_map}
use Rattle.cdi_base.specs.Maps.{at}
use Rattle.cdi_bean_lives.specs.declared.class.KeptClass.{KeptClass}
use Rattle.cdi_class_lives.specs.ClassLives.{KeepsLife, fields_of, injections_of, line_of, method_of, post_constructs_of, pre_destroys_of}
use Rattle.cdi_class_lives.specs.declared.lives.ClassLives.{ClassLives}
use Rattle.cdi_class_lives.specs.declared.own_life.OwnLife.{OwnLife}
use Rattle.cdi_deployment.specs.Member.{member_name}
use Rattle.cdi_deployment.specs.declared.deployment.Class.{Class}
use Rattle.cdi_machine.specs.Tables as machine
use Rattle.cdi_method_maps.specs.NamedMethods.{method_named}
use Rattle.cdi_method_maps.specs.declared.named_method.NamedMethod.{NamedMethod}
use Rattle.cdi_numbered_plans.specs.Machine.{machine_code, machine_methods}
use Rattle.cdi_numbered_plans.specs.Methods.{method_by}
use Rattle.cdi_numbered_plans.specs.Numbered.{bodies_by, steps_by}
use Rattle.cdi_numbered_plans.specs.declared.numbering.Numbering.{Numbering}
use Rattle.cdi_planner.specs.Codes.{business_method, post_construct, pre_destroy}
use Rattle.cdi_planner.specs.Inherited.{AreMethodsOf}
use Rattle.cdi_planner.specs.Plans.{initial_fields}
use Rattle.cdi_planner.specs.Steps.{injections}
use Rattle.cdi_planner.specs.Tables.{PlanTables}
use Rattle.cdi_plans.specs.Chains.{HaveSameChains}
use Rattle.cdi_plans.specs.declared.plan.BusinessMethod.{BusinessMethod}
use Rattle.cdi_types.specs.Line.{IsLineOf, class_named}
use Rattle.cdi_types.specs.Members.{members_of}

-- the classes of these names
abbrev pub classes_named : List Class → List ℕ → List Class
classes_named classes names = filter_map (class_named classes) names

module _ (t : PlanTables) (n : Numbering) where
  -- the business methods of a bean, by the line of its class
  abbrev pub methods_in : ℕ → List Class → List BusinessMethod
  methods_in bean line = filter_map (business_method t.chains bean) (members_of line)

  -- the one of a name, as the machine is told of it
  abbrev pub method_told : ℕ → List Class → ℕ → Option machine.Method
  method_told bean line name = at (machine_methods (bodies_by n) (methods_in bean line)) name

  -- the class of this name, which is kept at a place, has what the classes of this line give it
  pub record HasLife (l : ClassLives) (place class : ℕ) (line : List Class) : Type 0 where
    pub fields : fields_of l place ≡ initial_fields line
    pub injections : injections_of l place ≡ steps_by n (injections line)
    pub post_constructs :
        post_constructs_of l place
        ≡ map (machine_code (bodies_by n)) (filter_map post_construct (members_of line))
    pub pre_destroys :
        pre_destroys_of l place
        ≡ map (machine_code (bodies_by n)) (filter_map pre_destroy (members_of line))
    pub methods :
        (name : ℕ) → method_of l place name ≡ option_map method_by (method_told class line name)

  -- so has each class of which something is kept; it is the last one of its line
  abbrev pub AreLives : ClassLives → Type 0
  AreLives l =
      (place class : ℕ) (above : List ℕ) → line_of l place ≡ Some (above ++ class ∷ [])
      → HasLife l place class (classes_named t.classes (above ++ class ∷ []))

  -- the methods that a class is given: its own, or all that its bean has
  abbrev pub given_methods : Bool → Class → List BusinessMethod → List BusinessMethod
  given_methods true class all = methods_in class.name (class ∷ [])
  given_methods false class all = all

  -- what a class declares, in the words of an instance's life
  pub record IsOwnLife (class : Class) (inherits_methods : Bool) (own : OwnLife) : Type 0 where
    pub class_is : own.class ≡ class.name
    pub declared : own.declared ≡ map member_name class.members
    pub fields : own.fields ≡ class.fields
    pub injections : own.injections ≡ steps_by n (injections (class ∷ []))
    pub post_constructs :
        own.post_constructs
        ≡ map (machine_code (bodies_by n)) (filter_map post_construct (members_of (class ∷ [])))
    pub pre_destroys :
        own.pre_destroys
        ≡ map (machine_code (bodies_by n)) (filter_map pre_destroy (members_of (class ∷ [])))
    pub all : List BusinessMethod
    pub are_all : inherits_methods ≡ false → AreMethodsOf t class.name all
    pub methods :
        (name : ℕ)
        → method_named name own.methods
        ≡ option_map method_by
        (at (machine_methods (bodies_by n) (given_methods inherits_methods class all)) name)

-- all business methods of a bean, by their names; ids tells the numbers of bodies
pub record AreAllMethods (t : PlanTables) (ids : ℕ → Option ℕ) (bean : ℕ) (named : List NamedMethod)
    : Type 0 where
  pub all : List BusinessMethod
  pub are : AreMethodsOf t bean all
  pub named_so :
      (name : ℕ) → method_named name named ≡ option_map method_by (at (machine_methods ids all) name)

-- ---- a class below another one

-- a class that is kept is the last one of its line
pub record IsKept (l : ClassLives) (class : KeptClass) (above : List ℕ) : Type 0 where
  pub line : line_of l class.place ≡ Some (above ++ class.name ∷ [])

-- it has the methods that it inherits in the chains that they have for a bean of the class above it
abbrev pub InheritsIf : PlanTables → ℕ → Option KeptClass → Bool → Type 0
InheritsIf t class None inherits = Unit {0}
InheritsIf t class (Some above) inherits = inherits ≡ true → HaveSameChains t.chains class above.name

-- the line above a class; the topmost class has none
abbrev pub IsLineAbove : ClassLives → Option KeptClass → List ℕ → Type 0
IsLineAbove l None above = above ≡ []
IsLineAbove l (Some class) above = line_of l class.place ≡ Some above

-- the class above is kept, if there is one
abbrev pub IsKeptIfAny : ClassLives → Option KeptClass → Type 0
IsKeptIfAny l None = Unit {0}
IsKeptIfAny l (Some class) = (above : List ℕ) × IsKept l class above

-- the class is found by its name, and its line is that of the class above with it
pub record IsLineBelow (t : PlanTables) (l : ClassLives) (above : Option KeptClass) (class : Class)
    : Type 0 where
  pub named : class_named t.classes class.name ≡ Some class
  pub line :
      (names : List ℕ) → IsLineAbove l above names
      → IsLineOf t.types t.classes class.name (classes_named t.classes names ++ class ∷ [])

-- a class more is kept, and the others have what they had
pub record IsClassAdded (old : ClassLives) (above : Option KeptClass) (class : ℕ) (new : ClassLives)
    (place : ℕ) : Type 0 where
  pub line :
      (names : List ℕ) → IsLineAbove old above names → line_of new place ≡ Some (names ++ class ∷ [])
  pub fresh : line_of old place ≡ None
  pub others :
      (other : ℕ) (names : List ℕ) → line_of old other ≡ Some names → KeepsLife old new other

-- ---- the line of a class

-- the class of this name is kept at a place, as the last one of its line
pub record IsKeptClass (t : PlanTables) (l : ClassLives) (class place : ℕ) : Type 0 where
  pub above : List ℕ
  pub line : line_of l place ≡ Some (above ++ class ∷ [])
  pub is_line : IsLineOf t.types t.classes class (classes_named t.classes (above ++ class ∷ []))

-- the classes that were kept have what they had
abbrev pub KeepsLives : ClassLives → ClassLives → Type 0
KeepsLives old new =
    (place : ℕ) (line : List ℕ) → line_of old place ≡ Some line → KeepsLife old new place
