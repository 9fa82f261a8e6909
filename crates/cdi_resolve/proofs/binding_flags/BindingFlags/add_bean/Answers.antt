use Rattle.std.proofs.Common.{◌∙◌, ap}
use Rattle.std.specs.Option.{option_or}
use Rattle.cdi_beans.specs.ManagedQualifiers.{qualifiers_in}
use Rattle.cdi_resolve.specs.BindingFlags.{flags_at, first_flags}
use Rattle.cdi_resolve.proofs.Flags.{goes_on}
use Rattle.cdi_resolve.proofs.binding_flags.BindingFlags.add_bean.Goals as goal

pub returns : goal.returns
returns c = λ name.
    let old = flags_at c.args.self.now name in
    let parts = c.parts-parts.result in
    c.in_ok-add_parts.ensures name
    ∙ goes_on name old (flags_at c.add_all.new.self name) parts.own.now (qualifiers_in parts.specialized.now) _ (c.in_ok-add_all.ensures name)
    (ap (λ qs. option_or old (first_flags name qs)) c.parts-parts.ensures)
