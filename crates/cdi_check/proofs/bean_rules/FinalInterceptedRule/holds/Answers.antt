use Rattle.cdi_check.proofs.bean_rules.FinalInterceptedRule.holds.Goals as goal

pub returns-then-class : goal.returns-then-class
returns-then-class c = rw (c.in-Class.is, c.if-class.true, c.has_intercepted_bean.ensures, c.beans.ensures) (λ t. t, λ t. t)
