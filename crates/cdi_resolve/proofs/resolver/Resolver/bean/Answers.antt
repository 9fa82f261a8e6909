use Rattle.std.proofs.Common.{◌≡◌, ◌∙◌, true, false, sym, arith}
use Rattle.cdi_resolve.specs.Filters.{is_enabled}
use Rattle.cdi_resolve.proofs.Enabled.{enabled_at, disabled_at}
use Rattle.cdi_resolve.proofs.resolver.Resolver.bean.Goals as goal

pub returns-then-has_flag : goal.returns-then-has_flag
returns-then-has_flag c =
    let flags = c.self.inside.enabled in
    let i = c.args.index in
    let on : is_enabled flags i ≡ true = sym (rw c.as_slice.ensures at c.has_flag.ensures) ∙ c.if-has_flag.true in
    rw (← c.self.view_is) (c.get.ensures ∙ sym (enabled_at flags i on 0 i c.self.inside.beans (omega arith)))

pub returns : goal.returns
returns c =
    let flags = c.self.inside.enabled in
    let i = c.args.index in
    let off : is_enabled flags i ≡ false = sym (rw c.as_slice.ensures at c.has_flag.ensures) ∙ c.if-has_flag.false in
    rw (← c.self.view_is) (sym (disabled_at flags i off 0 c.self.inside.beans))
