use Rattle.std.proofs.Common.{sym, ◌≢◌, ◌∙◌, subst, refl, ℕ}
use Rattle.std.proofs.lemmas.Bool.{eqb-true, eqb-false}
use Rattle.cdi_types.specs.Subtype.{object, IsSubtype}
use Rattle.cdi_types.proofs.Order.{below_other, declared_above}
use Rattle.cdi_types.proofs.table.TypeTable.is_subtype_from.Goals as goal

pub returns-then-eq : goal.returns-then-eq
returns-then-eq c = λ is there.
    let P : ℕ → Type 0 = λ b. IsSubtype c.args.self.now c.args.name b in
    (λ _. subst P (eqb-true _ _ (sym c.if-eq.ensures)) IsSubtype.itself, λ _. refl)

pub returns-then-eq-2 : goal.returns-then-eq-2
returns-then-eq-2 c = λ is there.
    let P : ℕ → Type 0 = λ b. IsSubtype c.args.self.now c.args.name b in
    (λ _. subst P (sym (eqb-true _ _ (sym c.if-eq-2.ensures) ∙ c.name.ensures.number)) IsSubtype.object_above, λ _. refl)

pub returns : goal.returns
returns c = λ is there.
    let apart = sym (rw c.name.ensures.number at c.if-eq-2.ensures) in
    let other : c.args.above ≢ object = eqb-false _ _ apart in
    let ne = eqb-false _ _ (sym c.if-eq.ensures) in
    let graph = c.self.inside.graph in
    let told = c.is_below_from.ensures c.args.name c.args.above (rw (← c.self.view_is) at is) (rw (← c.self.view_is) at there) in
    rw (← c.self.view_is) (
      λ h. IsSubtype.below_it (told.0 h).1,
      λ s. told.1 (declared_above graph c.self.invariant.known c.args.name c.args.above ne apart s, below_other graph c.args.name c.args.above ne other s),
    )
