use Rattle.std.proofs.Common.{◌≡◌, ◌∙◌, ◌+◌, ◌^◌, true, length, nat_lt, sym, ap}
use Rattle.cdi_base.specs.declared.place.InterceptorMethod.TheVariants as methods
use Rattle.cdi_bean_lives.proofs.Creating.{is_kept}
use Rattle.cdi_bean_lives.specs.Completed.{completed, life_with}
use Rattle.cdi_class_lives.specs.ClassLives.{injections_of}
use Rattle.cdi_bean_lives.proofs.bean.BeanLife.build.Goals as goal

pub returns-clause-life : goal.returns-clause-life
returns-clause-life c =
    let t = c.args.planner.now in
    let l = c.add_line.new.self.lives in
    let b = c.args.bean.now in
    let place = c.in_ok-place.place in
    let fits : nat_lt (length t.chains.interceptors + length (injections_of l place) + 2) (2 ^ 32) ≡ true =
    sym (c.are_few_steps.ensures ∙ ap (λ k. nat_lt (k + c.injection_count.result + 2) (2 ^ 32)) c.interceptor_count.ensures
    ∙ ap (λ k. nat_lt (length t.chains.interceptors + k + 2) (2 ^ 32)) c.injection_count.ensures)
    ∙ c.if-not-are_few_steps.false in
    is_kept t c.args.numbering.now l b
    (record { first = c.in_ok-first_of.field-0; class = place; last = c.in_ok-completed.field-0; pre_destroy = c.in_ok-pre_destroy.pre_destroy })
    c.requires.few c.requires.managed c.in_ok-place.ensures.lives c.in_ok-place.ensures.line fits
    c.in_ok-first_of.ensures.steps
    (c.in_ok-completed.ensures ∙ ap completed (c.in_ok-completion.ensures ∙ ap (life_with t.chains b.class methods.PostConstruct) c.post_constructs.ensures))
    (c.in_ok-pre_destroy.ensures ∙ ap (life_with t.chains b.class methods.PreDestroy) c.pre_destroys.ensures)
