use Rattle.std.proofs.Common.{◌∙◌, sym}
use Rattle.std.proofs.lemmas.Bool.Decides.{Decides-eqb}
use Rattle.cdi_cache.proofs.SameUses.{uses_decided}
use Rattle.cdi_cache.proofs.written.WrittenQuestion.is_same.Goals as goal

pub returns-then-eq : goal.returns-then-eq
returns-then-eq c =
    let a = c.args.self.now in
    let b = c.args.other.now in
    let types = Decides-eqb a.ty b.ty in
    let uses = uses_decided a.uses.now b.uses.now c.eq-then-eq.result c.eq-then-eq.ensures in (
      λ e. record { ty = types.0 (sym c.eq.ensures ∙ c.if-eq.true); uses = uses.0 e },
      λ same. uses.1 same.uses,
    )
