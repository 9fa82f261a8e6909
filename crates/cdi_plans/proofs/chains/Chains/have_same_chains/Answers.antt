use Rattle.std.proofs.Common.{◌≡◌, ◌∙◌, List, true, sym, ap}
use Rattle.std.specs.List.{list_all}
use Rattle.cdi_base.specs.declared.place.InterceptorMethod.TheVariants as methods
use Rattle.cdi_beans.specs.declared.bean.EnabledInterceptor.{EnabledInterceptor}
use Rattle.cdi_plans.specs.Chains.{ChainTables, chain_with, class_level, member_level}
use Rattle.cdi_plans.specs.Meeting.{meet_same}
use Rattle.cdi_plans.proofs.SameChains.{same_chain}
use Rattle.cdi_plans.proofs.SameQualifiers.{qualifiers_decided}
use Rattle.cdi_plans.proofs.chains.Chains.have_same_chains.Goals as goal
use Rattle.cdi_quals.specs.declared.qualifier.Qualifier.{Qualifier}

pub returns-then-eq : goal.returns-then-eq
returns-then-eq c =
    let t = c.args.self.now in
    let decided = qualifiers_decided c.class_level-of_bean.result.now c.class_level-of_other.result.now c.eq.result c.eq.ensures in
    λ e m.
    let same : class_level t c.args.bean ≡ class_level t c.args.other = sym c.class_level-of_bean.ensures ∙ decided.0 e ∙ c.class_level-of_other.ensures in
    ap (λ of_class. chain_with methods.AroundInvoke (member_level t m) of_class t.interceptors) same

pub returns-else-eq : goal.returns-else-eq
returns-else-eq c = λ e m.
    let t = c.args.self.now in
    let some = class_level t c.args.bean in
    let others = class_level t c.args.other in
    let js : c.as_slice.result.now ≡ t.interceptors = c.as_slice.ensures ∙ ap (λ (x : ChainTables). x.interceptors) c.self.view_is in
    let all : list_all (meet_same some others) t.interceptors ≡ true =
    ap (λ (us : List Qualifier). list_all (meet_same us others) t.interceptors) (sym c.class_level-of_bean.ensures)
    ∙ ap (λ (us : List Qualifier). list_all (meet_same c.class_level-of_bean.result.now us) t.interceptors) (sym c.class_level-of_other.ensures)
    ∙ ap (λ (xs : List EnabledInterceptor). list_all (meet_same c.class_level-of_bean.result.now c.class_level-of_other.result.now) xs) (sym js)
    ∙ sym c.meet_same_of_all.ensures
    ∙ e in
    same_chain methods.AroundInvoke some others t.interceptors all (member_level t m)
