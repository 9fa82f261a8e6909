-- A name that a deployment with these facts knows is told by a name.
use Rattle.std.proofs.Common.{ℕ, ◌∙◌, [], length, get_or, ap}
use Rattle.std.proofs.lemmas.Option.{slice_get-get_or, unwrap_or-slice_get}
use Rattle.cdi_base.specs.Name.{is_name}
use Rattle.cdi_deployment.specs.KnownNames.{IsKnown, KnowsMember}
use Rattle.cdi_deployment.specs.declared.deployment.Deployment.{Deployment}
use Rattle.cdi_deployment.specs.declared.deployment.Member.{Member}
use Rattle.cdi_deployment.specs.declared.deployment.Member.TheVariants as members
use Rattle.cdi_deployment.specs.Member.{member_name}
use Rattle.cdi_report.specs.PlaceNames.{HasName}
use Rattle.cdi_report.proofs.TrueNames.{name-at}
use Rattle.cdi_report.specs.Facts.{HasFacts}

pub known-named : (d : Deployment) → HasFacts d → (name : ℕ) → IsKnown (length d.names) name → HasName d.names name
known-named d facts name below =
    ap is_name (unwrap_or-slice_get d.names name [])
    ∙ name-at d.names name (get_or d.names name []) facts.texts (slice_get-get_or d.names name [] below)

-- who knows the names in a member knows its name
pub member-known : (count : ℕ) (m : Member) → KnowsMember count m → IsKnown count (member_name m)
member-known count (members.Method m) know = know.0
member-known count (members.Initializer m) know = know.0
member-known count (members.PostConstruct m) know = know.0
member-known count (members.PreDestroy m) know = know.0
member-known count (members.Producer m) know = know.0
member-known count (members.ProducerField m) know = know.0
member-known count (members.Disposer m) know = know.0
member-known count (members.Observer m) know = know.0
