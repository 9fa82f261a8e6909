-- The steps by which an instance of a managed bean is created, by what is kept of classes.
use Rattle.std.specs.Prelude.{◌≡◌, ◌++◌, ◌^◌, Bool, true, List, length, nat_lt}
use Rattle.std.specs.List.{list_all}
use Rattle.cdi_bean_lives.specs.declared.bean.BeanLife.{BeanLife}
use Rattle.cdi_bean_lives.specs.declared.kept.KeptBean.{KeptBean}
use Rattle.cdi_bean_lives.specs.declared.kept.KeptBean.TheVariants as kept_beans
use Rattle.cdi_class_lives.specs.ClassLives.{injections_of}
use Rattle.cdi_class_lives.specs.declared.lives.ClassLives.{ClassLives}
use Rattle.cdi_machine.specs.declared.step.Step.{Step}

abbrev pub kept_steps : ClassLives → BeanLife → List Step
kept_steps l life = life.first ++ injections_of l life.class ++ life.last

-- there are fewer than 4,294,967,296; a product has none
abbrev pub has_few_steps : ClassLives → KeptBean → Bool
has_few_steps l (kept_beans.Managed life) = nat_lt (length (kept_steps l life)) (2 ^ 32)
has_few_steps l (kept_beans.Product product) = true

abbrev pub HaveFewSteps : ClassLives → List KeptBean → Type 0
HaveFewSteps l beans = list_all (has_few_steps l) beans ≡ true
