use Rattle.std.proofs.Common.{◌∙◌, sym, ap}
use Rattle.std.specs.Option.{option_copied}
use Rattle.lru.proofs.CallerLemmas.{Contains-lookup}
use Rattle.cdi_run_tables.specs.Machine.{resolution_of}
use Rattle.cdi_run_tables.proofs.asked.CommandAnswers.known.Goals as goal

pub returns-then-is_of : goal.returns-then-is_of
returns-then-is_of c = λ t all.
    let a = c.in_ok-answer.answer.now in
    let found = sym c.peek.ensures ∙ ap option_copied c.in_ok-answer.was in
    let there = Contains-lookup _ c.args.self.now.answers.entries a found in
    all there.0 a there.1
    ∙ ap (λ ty. resolution_of t ty a.qualifiers) (c.is_of.ensures.ty c.if-is_of.true)
    ∙ ap (λ uses. resolution_of t c.args.question.now.ty uses) (c.is_of.ensures.uses c.if-is_of.true)
