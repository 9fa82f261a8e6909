-- Which managed beans are enabled (Jakarta CDI 4.0, Enabled and disabled beans).
use Rattle.std.specs.Prelude.{ℕ, ◌≡◌, ◌≢◌, ◌||◌, List, Bool, true, false, not, map, Option, Some, None, option_to_list, slice_get}
use Rattle.cdi_paths.specs.Graph.{IsGraph, ProperPath}
use Rattle.cdi_enable.specs.declared.managed_bean.ManagedBean.{ManagedBean}

-- each bean with the one that it directly specializes
abbrev pub graph_of : List ManagedBean → List (List ℕ)
graph_of beans = map (λ b. option_to_list b.specializes) beans

-- the transitive form of directly specializing
abbrev pub Specializes : List ManagedBean → ℕ → ℕ → Type 0
Specializes beans x y = ProperPath (graph_of beans) x y

-- beans specialize beans, and none itself
pub record IsForest (beans : List ManagedBean) : Type 0 where
  pub known : IsGraph (graph_of beans)
  pub acyclic : (b : ℕ) → Specializes beans b b → ⊥

-- no alternative, or a selected one
abbrev pub is_candidate : Option ManagedBean → Bool
is_candidate None = false
is_candidate (Some b) = not b.alternative || b.selected

abbrev pub may_be_enabled : List ManagedBean → ℕ → Bool
may_be_enabled beans b = is_candidate (slice_get beans b)

-- whether a bean is enabled, from the most derived class upwards: no enabled bean specializes it, and it is no alternative or a
-- selected one
pub data Enabled (beans : List ManagedBean) : ℕ → Bool → Type 0 where
  enabled : {b : ℕ} → may_be_enabled beans b ≡ true
      → ((x : ℕ) → Specializes beans x b → Enabled beans x false) → Enabled beans b true
  not_selected : {b : ℕ} → may_be_enabled beans b ≡ false → Enabled beans b false
  specialized : {x b : ℕ} → Specializes beans x b → Enabled beans x true → Enabled beans b false

-- two enabled beans specialize a bean
pub record IsInconsistent (beans : List ManagedBean) (b : ℕ) : Type 0 where
  pub one : ℕ
  pub other : ℕ
  pub two : one ≢ other
  pub one_specializes : Specializes beans one b
  pub other_specializes : Specializes beans other b
  pub one_enabled : Enabled beans one true
  pub other_enabled : Enabled beans other true
