use Rattle.std.proofs.Common.{◌≡◌, ◌<◌, ◌∙◌, ℕ, List, Option, [], length, get_or, ap, arith}
use Rattle.std.proofs.lemmas.List.{get_or_default}
use Rattle.std.proofs.lemmas.List.Elements.{All-get_or}
use Rattle.cdi_shared_maps.proofs.Writes.{value_on-set}
use Rattle.cdi_shared_maps.proofs.pages.Pages.set.Goals as goal

pub returns-clause-values : goal.returns-clause-values
returns-clause-values c =
    let pages = c.self.inside.pages.items in
    let row = c.index_mut-page.result.now in
    let within : c.args.page < length pages = omega (arith, ap length c.self.view_is, c.requires.page) in
    let read : row ≡ get_or pages c.args.page [] = c.index_mut-page.ensures.value ∙ get_or_default pages c.args.page row [] within in
    let len : length row ≡ 32 = ap length read ∙ All-get_or (λ (page : List (Option ℕ)). length page ≡ 32) pages c.args.page [] within c.self.invariant in
    let inside : c.args.place < length row = omega (arith, len, c.requires.place) in
    λ n i. rw (← c.self.view_is) (value_on-set pages row c.args.page c.args.place c.args.value within inside read n i)
