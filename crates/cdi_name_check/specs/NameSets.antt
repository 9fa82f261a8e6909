-- Sets of the names that a deployment declares.
use Rattle.std.specs.Prelude.{ℕ, ◌≡◌, ◌&&◌, nat_eq, Bool, List}
use Rattle.std.specs.HashSet.{HashSet, contains}
use Rattle.cdi_deployment.specs.declared.deployment.AnnotationType.{AnnotationType}
use Rattle.cdi_deployment.specs.declared.deployment.Deployment.{Deployment}
use Rattle.cdi_deployment.specs.Lists.{is_declared_class}
use Rattle.cdi_name_check.specs.UnknownName.{is_interface, is_open_class, is_bean_class, is_interceptor, is_declared, has_member}
use Rattle.cdi_name_check.specs.declared.unknown_name.name_sets.AnnotationSets.{AnnotationSets}
use Rattle.cdi_name_check.specs.declared.unknown_name.name_sets.NameSets.{NameSets}

-- a set has the names that pass a test
pub record HasNames {S : Type 0} (test : ℕ → Bool) (set : HashSet ℕ S) : Type 0 where
  pub same : (name : ℕ) → contains nat_eq set name ≡ test name

-- the `==` of pairs of names
abbrev pub same_pair : ℕ × ℕ → ℕ × ℕ → Bool
same_pair x y = nat_eq x.0 y.0 && nat_eq x.1 y.1

-- a set has the pairs of names that pass a test
pub record HasPairs {S : Type 0} (test : ℕ → ℕ → Bool) (set : HashSet (ℕ × ℕ) S) : Type 0 where
  pub same : (owner name : ℕ) → contains same_pair set (owner, name) ≡ test owner name

-- the names of some qualifiers or bindings, and those of their members
pub record HasTypes (types : List AnnotationType) (sets : AnnotationSets) : Type 0 where
  pub names : HasNames (is_declared types) sets.names
  pub members : HasPairs (has_member types) sets.members

-- the names of each kind that a deployment declares
pub record HasDeclared (d : Deployment) (sets : NameSets) : Type 0 where
  pub interfaces : HasNames (is_interface d) sets.interfaces
  pub classes : HasNames (is_declared_class d.classes) sets.classes
  pub open_classes : HasNames (is_open_class d) sets.open_classes
  pub bean_classes : HasNames (is_bean_class d) sets.bean_classes
  pub interceptors : HasNames (is_interceptor d) sets.interceptors
  pub qualifiers : HasTypes d.qualifiers sets.qualifiers
  pub bindings : HasTypes d.bindings sets.bindings
