-- Which beans of a bean list are enabled (Jakarta CDI 4.0, Enabled and disabled beans).
use Rattle.std.specs.Prelude.{ℕ, ◌≡◌, ◌==◌, ◌||◌, Bool, true, false, List, filter, length, map, position, slice_get, slice_index_or, Option, Some, None, is_some, option_and_then, if◌then◌else◌}
use Rattle.std.specs.List.{list_any}
use Rattle.cdi_beans.specs.declared.bean.Bean.{Bean}
use Rattle.cdi_beans.specs.declared.bean.BeanList.{BeanList}
use Rattle.cdi_beans.specs.Kinds.{is_managed}
use Rattle.cdi_enable.specs.Enabled.{Enabled, IsInconsistent as IsInconsistentManaged}
use Rattle.cdi_enable.specs.declared.listed_bean.ListedBean.{ListedBean}
use Rattle.cdi_enable.specs.declared.managed_bean.ManagedBean.{ManagedBean}

-- what of a bean list decides which beans are enabled: the managed beans with their classes, and where each bean is declared
pub record Enablement : Type 0 where
  pub classes : List ℕ
  pub managed : List ManagedBean
  pub beans : List ListedBean

abbrev pub managed_beans : List Bean → List Bean
managed_beans beans = filter (λ b. is_managed b.kind) beans

abbrev pub classes_of : List Bean → List ℕ
classes_of beans = map (λ b. b.class) beans

-- the managed bean of a class, by its index among the managed ones; of several the first one counts
abbrev pub bean_of_class : List ℕ → ℕ → Option ℕ
bean_of_class classes class = position (λ c. c == class) classes

-- it has a priority, or its class is listed
abbrev pub is_selected : List ℕ → Bean → Bool
is_selected selected b = is_some b.priority || list_any (λ c. c == b.class) selected

abbrev pub managed_bean : List ℕ → List ℕ → Bean → ManagedBean
managed_bean classes selected b =
    record {
      specializes = option_and_then (bean_of_class classes) b.specializes;
      alternative = b.alternative;
      selected = is_selected selected b;
    }

abbrev pub listed_bean : Bean → ListedBean
listed_bean b = record { class = b.class; is_managed = is_managed b.kind }

abbrev pub enablement_of : BeanList → Enablement
enablement_of list = record {
  classes = classes_of (managed_beans list.beans);
  managed = map (managed_bean (classes_of (managed_beans list.beans)) list.selected)
      (managed_beans list.beans);
  beans = map listed_bean list.beans;
}

-- what there isn't is not enabled
abbrev pub IsEnabledManaged : List ManagedBean → Option ℕ → Bool → Type 0
IsEnabledManaged managed None r = r ≡ false
IsEnabledManaged managed (Some b) r = Enabled managed b r

-- the managed bean of a class is enabled
abbrev pub IsEnabledClass : Enablement → ℕ → Bool → Type 0
IsEnabledClass e class r = IsEnabledManaged e.managed (bean_of_class e.classes class) r

abbrev pub IsEnabledBean : Enablement → Option ListedBean → Bool → Type 0
IsEnabledBean e None r = r ≡ false
IsEnabledBean e (Some b) r = IsEnabledClass e b.class r

-- a bean of the list is enabled: the managed bean of the class that declares it is
abbrev pub IsEnabled : Enablement → ℕ → Bool → Type 0
IsEnabled e bean r = IsEnabledBean e (slice_get e.beans bean) r

-- a product has no index among the managed beans
abbrev pub managed_index : List ℕ → ListedBean → Option ℕ
managed_index classes b = if b.is_managed then bean_of_class classes b.class else None

abbrev pub IsInconsistentBean : Enablement → Option ℕ → Type 0
IsInconsistentBean e None = ⊥
IsInconsistentBean e (Some b) = IsInconsistentManaged e.managed b

-- two enabled beans specialize a managed bean of the list
abbrev pub IsInconsistent : Enablement → ℕ → Type 0
IsInconsistent e bean =
    IsInconsistentBean e (option_and_then (managed_index e.classes) (slice_get e.beans bean))

-- one flag for each bean of the list, in order: whether it is enabled
pub record AreFlags (e : Enablement) (flags : List Bool) : Type 0 where
  pub len : length flags ≡ length e.beans
  pub each : (bean : ℕ) → IsEnabled e bean (slice_index_or flags bean false)
