use Rattle.std.proofs.Common.{ℕ, Contains, subst}
use Rattle.lru.proofs.CallerLemmas.{Contains-promoted}
use Rattle.lru.specs.LruCache.{LruCache}
use Rattle.cdi_run_tables.specs.declared.asked.CommandAnswer.{CommandAnswer}
use Rattle.cdi_run_tables.proofs.asked.CommandAnswers.promote.Goals as goal

pub returns : goal.returns
returns c = λ t all hash a there.
    all hash a (Contains-promoted _ c.args.self.now.answers.entries (hash, a) (subst (λ (s : LruCache ℕ CommandAnswer). Contains s.entries (hash, a)) c.promote.ensures.entries there))
