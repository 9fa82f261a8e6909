use Rattle.std.proofs.Common.{◌∙◌, ◌==◌, ◌++◌, ◌∷◌, [], rules, ap, not}
use Rattle.std.proofs.lemmas.Fn.{filter_same}
use Rattle.cdi_store.specs.Live.{all_but}
use Rattle.cdi_store.proofs.dependents.put_last.Goals as goal

pub returns-clause-ok : goal.returns-clause-ok
returns-clause-ok c =
    let kept = filter_same _ (λ m. not (m == c.args.number)) _ (λ x b f' k. search rules) _ _ c.retain.ensures.filtered in
    let before = c.reserve.ensures.items ∙ c.into_vec-all.ensures ∙ c.replace.ensures.value in
    c.new-2.ensures ∙ c.push_reserved.ensures.items ∙ ap (λ m. m ++ c.args.number ∷ []) (kept ∙ ap (all_but c.args.number) before)
