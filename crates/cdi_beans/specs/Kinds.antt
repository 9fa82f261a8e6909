-- What kinds of beans there are.
use Rattle.std.specs.Prelude.{Bool, true, false}
use Rattle.cdi_beans.specs.declared.bean.BeanKind.{BeanKind}
use Rattle.cdi_beans.specs.declared.bean.BeanKind.TheVariants as kinds

-- a managed bean, and no product
abbrev pub is_managed : BeanKind → Bool
is_managed kinds.Managed = true
is_managed (kinds.ProducerMethod name) = false
is_managed (kinds.ProducerField name) = false
