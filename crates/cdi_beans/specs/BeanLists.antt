-- The bean list of a deployment: its beans, and what belongs to them (Jakarta CDI 4.0, Beans).
use Rattle.std.specs.Prelude.{◌≡◌, List, filter}
use Rattle.std.specs.List.{flat_map, AllZip}
use Rattle.cdi_deployment.specs.declared.deployment.Deployment.{Deployment}
use Rattle.cdi_quals.specs.declared.types.QualifierType.{QualifierType}
use Rattle.cdi_bean_check.specs.ManagedBeans.{is_bean}
use Rattle.cdi_beans.specs.Beans.{IsBeanOf, sources_in}
use Rattle.cdi_beans.specs.DisposerMethods.{IsDisposerOf, disposers_in}
use Rattle.cdi_beans.specs.Interceptors.{AreInterceptorsOf}
use Rattle.cdi_beans.specs.ObserverMethods.{AreObserversOf}
use Rattle.cdi_beans.specs.declared.bean.BeanList.{BeanList}

pub record IsBeanListOf (d : Deployment) (qualifiers bindings : List QualifierType)
    (list : BeanList) : Type 0 where
  pub beans : AllZip (IsBeanOf d qualifiers) (flat_map sources_in d.classes) list.beans
  pub selected : list.selected ≡ d.selected
  pub interceptors : AreInterceptorsOf d bindings list.interceptors
  pub observers : AreObserversOf d qualifiers (filter is_bean d.classes) list.observers
  pub disposers :
      AllZip (IsDisposerOf d qualifiers) (flat_map disposers_in (filter is_bean d.classes))
      list.disposers
