-- What is kept of classes, and what a class has of its direct superclass.
use Rattle.std.specs.Prelude.{ℕ, ◌++◌, ◌∷◌, List, [], filter, Option, Some, None}
use Rattle.cdi_class_lives.specs.Inheriting.{leaves_at, leaves_code}
use Rattle.cdi_class_lives.specs.declared.life.ClassLife.{ClassLife}
use Rattle.cdi_machine.specs.declared.step.Step.{Step}

-- the line of a class below these
abbrev pub longer : List ℕ → ℕ → List ℕ
longer line class = line ++ class ∷ []

-- what a class without a superclass has but for what it declares
abbrev pub topmost : ℕ → ClassLife
topmost class =
    record {
      line = class ∷ [];
      fields = [];
      injections = [];
      post_constructs = [];
      pre_destroys = [];
      methods = None;
    }

-- what a class that declares members of these names has of its direct superclass
abbrev pub below : ClassLife → List Step → ℕ → List ℕ → ClassLife
below above kept class declared =
    record {
      line = longer above.line class;
      fields = above.fields;
      injections = filter (leaves_at declared kept) above.injections;
      post_constructs = filter (leaves_code declared) above.post_constructs;
      pre_destroys = filter (leaves_code declared) above.pre_destroys;
      methods = above.methods;
    }

abbrev pub inherited : Option ClassLife → List Step → ℕ → List ℕ → ClassLife
inherited None kept class declared = topmost class
inherited (Some above) kept class declared = below above kept class declared
