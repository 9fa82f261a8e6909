use Rattle.std.proofs.Common.{ℕ, Contains, sym, subst}
use Rattle.cdi_cache.specs.Answers.{IsTold}
use Rattle.cdi_cache.specs.declared.answer.Answer.{Answer}
use Rattle.lru.proofs.CallerLemmas.{Contains-promoted}
use Rattle.lru.specs.LruCache.{LruCache}
use Rattle.cdi_cache.proofs.lookup.Lookup.find.Goals as goal

pub invariant_of-self : goal.invariant_of-self
invariant_of-self g c = λ hash a there.
    c.self.invariant hash a (Contains-promoted _ c.self.inside.answers.entries (hash, a) (subst (λ (s : LruCache ℕ Answer). Contains s.entries (hash, a)) c.promote.ensures.entries there))

pub invariant_of-self-2 : goal.invariant_of-self-2
invariant_of-self-2 g c = λ hash a there.
    subst (λ beans. IsTold beans a) (sym c.ask-told.ensures.kept) (c.self.invariant hash a there)
