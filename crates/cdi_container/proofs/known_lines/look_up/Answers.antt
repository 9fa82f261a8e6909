use Rattle.std.proofs.Common.{ℕ, Contains, subst}
use Rattle.lru.proofs.CallerLemmas.{Contains-promoted}
use Rattle.lru.specs.LruCache.{LruCache}
use Rattle.cdi_container.specs.declared.known_lines.KnownLine.{KnownLine}
use Rattle.cdi_container.proofs.known_lines.look_up.Goals as goal

pub returns-clause-kept : goal.returns-clause-kept
returns-clause-kept c = λ names tables all hash known there.
    all hash known (Contains-promoted _ c.args.lines.now.entries (hash, known) (subst (λ (s : LruCache ℕ KnownLine). Contains s.entries (hash, known)) c.promote.ensures.entries there))
