-- What a member is called, and what is injected into it.
use Rattle.std.specs.Prelude.{ℕ, List, []}
use Rattle.cdi_deployment.specs.declared.deployment.Member.{Member}
use Rattle.cdi_deployment.specs.declared.deployment.Member.TheVariants as members
use Rattle.cdi_deployment.specs.declared.deployment.Point.{Point}

abbrev pub member_name : Member → ℕ
member_name (members.Method m) = m.name
member_name (members.Initializer i) = i.name
member_name (members.PostConstruct c) = c.name
member_name (members.PreDestroy c) = c.name
member_name (members.Producer p) = p.name
member_name (members.ProducerField p) = p.name
member_name (members.Disposer d) = d.name
member_name (members.Observer o) = o.name

-- the injected parameters of a member: the disposed parameter and the event parameter are none, and those of a business method
-- are values
abbrev pub member_params : Member → List Point
member_params (members.Initializer i) = i.params
member_params (members.Producer p) = p.params
member_params (members.Disposer d) = d.params
member_params (members.Observer o) = o.params
member_params _ = []
