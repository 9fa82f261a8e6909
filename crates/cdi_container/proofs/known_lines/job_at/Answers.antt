use Rattle.std.proofs.Common.{◌∙◌, sym, ap, subst}
use Rattle.std.specs.Option.{option_copied}
use Rattle.lru.proofs.CallerLemmas.{Contains-lookup}
use Rattle.cdi_container.specs.KnownLines.{Asks}
use Rattle.cdi_container.proofs.KeptLines.{asked_by_copy}
use Rattle.cdi_container.proofs.known_lines.job_at.Goals as goal

pub returns : goal.returns
returns c = λ names tables all.
    let known = c.in_ok-known.known.now in
    let there = Contains-lookup _ c.args.lines.now.entries known (sym c.peek.ensures ∙ ap option_copied c.in_ok-known.was) in
    let asks = subst (λ line. Asks names tables line known.job) (c.is_line.ensures c.if-not-is_line.false) (all there.0 known there.1) in
    asked_by_copy names tables c.args.line.now known.job asks c.copy_of_job.result c.copy_of_job.ensures.command c.copy_of_job.ensures.rightly c.ok.result c.ok.ensures.value
