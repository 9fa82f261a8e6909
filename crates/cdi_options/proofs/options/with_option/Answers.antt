use Rattle.std.proofs.Common.{ap, subst, ◌≡◌, ◌∙◌, ◌||◌, Bool, IfOk, false}
use Rattle.std.proofs.lemmas.Result.{IfOk-weaker}
use Rattle.clap.specs.Words.{App, rule_of, with_rule}
use Rattle.cdi_options.specs.Options as spec
use Rattle.cdi_options.proofs.options.with_option.Goals as goal

-- nothing is global if neither what was there is nor what is added
neither : (before added all : Bool) → all ≡ (before || added) → before ≡ false → added ≡ false → all ≡ false
neither before added all e f g = rw (f, g) at e

pub returns : goal.returns
returns c = λ form own is.
    let mode : spec.IsMode form c.in_ok-mode.field-0 = subst (λ m. IfOk m (spec.IsMode form)) c.in_ok-mode.was is in
    IfOk-weaker c.arg.result _ _ (λ app added. record {
      form = added.shape own ∙ ap (λ (a : App). with_rule a (rule_of c.args.option)) mode.form;
      none_global = neither _ _ _ added.globals mode.none_global own;
    }) c.arg.ensures
