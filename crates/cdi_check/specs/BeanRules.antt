-- The problems of beans that are enabled (Jakarta CDI 4.0, Inconsistent specialization; Jakarta Interceptors 2.1, Interceptor
-- Resolution).
use Rattle.std.specs.Prelude.{◌&&◌, Bool, IsTrue}
use Rattle.std.specs.List.{list_any}
use Rattle.cdi_beans.specs.declared.bean.Bean.{Bean}
use Rattle.cdi_plans.specs.Chains.{ChainTables, intercepts}
use Rattle.cdi_enable.specs.Enablement.{Enablement, IsInconsistentBean, bean_of_class}
use Rattle.cdi_live.specs.Enabled.{Enabled}
use Rattle.cdi_resolve.specs.Filters.{is_bean_of}
use Rattle.cdi_problems.specs.Elements.{Element}

-- P19 InconsistentSpecialization: two enabled beans specialize the bean of a class
abbrev pub HasInconsistentSpecialization : Enablement → Element → Type 0
HasInconsistentSpecialization e (Element.AClass i c) =
    IsInconsistentBean e (bean_of_class e.classes c.name)
HasInconsistentSpecialization e _ = ⊥

-- an interceptor stands in a chain of a bean
abbrev pub is_intercepted : ChainTables → Bean → Bool
is_intercepted t b = list_any (intercepts t b) t.interceptors

-- P21 FinalIntercepted: an enabled bean of a final class has an interceptor in one of its chains
abbrev pub HasFinalIntercepted : Enabled → ChainTables → Element → Type 0
HasFinalIntercepted e t (Element.AClass i c) =
    IsTrue (c.is_final && list_any (λ b. is_bean_of c.name b && is_intercepted t b.1) e.beans)
HasFinalIntercepted e t _ = ⊥
