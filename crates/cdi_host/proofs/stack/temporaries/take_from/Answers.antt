use Rattle.std.proofs.Common.{◌∙◌, ◌==◌, rules, ap, not}
use Rattle.std.proofs.lemmas.Fn.{filter_same}
use Rattle.cdi_store.specs.Live.{all_but}
use Rattle.cdi_host.proofs.stack.temporaries.take_from.Goals as goal

pub returns : goal.returns
returns c =
    let kept = filter_same _ (λ m. not (m == c.args.number)) _ (λ x b f' k. search rules) _ _ c.retain.ensures.filtered in
    c.new.ensures ∙ kept ∙ ap (all_but c.args.number) (c.into_vec-all.ensures ∙ c.replace.ensures.value)
