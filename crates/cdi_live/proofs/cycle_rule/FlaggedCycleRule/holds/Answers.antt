use Rattle.std.proofs.Common.{◌≡◌, ◌∙◌, ℕ, sym, ap}
use Rattle.cdi_deployment.specs.Member.{member_name}
use Rattle.cdi_live.specs.Cycles.{has_needy_product}
use Rattle.cdi_live.proofs.cycle_rule.FlaggedCycleRule.holds.Goals as goal

pub returns-in-Class : goal.returns-in-Class
returns-in-Class c = rw (c.in-Class.is, c.has_needy_bean.ensures, c.beans.ensures) (λ t. t, λ t. t)

pub returns-in-Member : goal.returns-in-Member
returns-in-Member c =
    let rule = c.args.self.now in
    let told : c.contains.result ≡ has_needy_product rule.flags.now rule.live.now.beans c.in-Member.class.now.name (member_name c.in-Member.member.now) =
    c.contains.ensures ∙ rule.products_are.same c.in-Member.class.now.name c.name.result ∙ ap (λ (n : ℕ). has_needy_product rule.flags.now rule.live.now.beans c.in-Member.class.now.name n) c.name.ensures in
    rw c.in-Member.is (λ t. sym told ∙ t, λ t. told ∙ t)

pub returns-in-Interceptor : goal.returns-in-Interceptor
returns-in-Interceptor c = rw (c.in-Interceptor.is, c.has_needy_interceptor.ensures, c.interceptors.ensures) (λ t. t, λ t. t)
