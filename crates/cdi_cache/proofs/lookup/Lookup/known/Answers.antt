use Rattle.std.proofs.Common.{◌∙◌, sym, ap}
use Rattle.std.specs.Option.{option_copied}
use Rattle.cdi_resolve.specs.Resolution.{resolution}
use Rattle.lru.proofs.CallerLemmas.{Contains-lookup}
use Rattle.cdi_cache.proofs.lookup.Lookup.known.Goals as goal

pub returns-then-is_of : goal.returns-then-is_of
returns-then-is_of g c =
    let a = c.in_ok-answer.answer.now in
    let beans = g.R.Resolving.enabled c.self.inside.resolver in
    let found = sym c.peek.ensures ∙ ap option_copied c.in_ok-answer.was in
    let there = Contains-lookup _ c.self.inside.answers.entries a found in
    c.self.invariant there.0 a there.1
    ∙ ap (λ t. resolution t a.qualifiers beans) (c.is_of.ensures.ty c.if-is_of.true)
    ∙ ap (λ qs. resolution c.args.ty qs beans) (c.is_of.ensures.qualifiers c.if-is_of.true)
    ∙ ap (λ r. resolution c.args.ty c.args.qualifiers.now (g.R.Resolving.enabled r)) c.self.view_is
