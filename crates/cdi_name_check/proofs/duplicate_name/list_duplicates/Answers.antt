use Rattle.std.proofs.Common.{[], ◌∷◌, ◌++◌, List, take, refl, sym, ◌∙◌, subst}
use Rattle.cdi_name_check.specs.Claims.{HasClaims}
use Rattle.cdi_name_check.specs.DuplicateName.{claims_after, ListDuplicates}
use Rattle.cdi_name_check.proofs.Duplicates.{next_shown, is_duplicate, is_none, claimed_more, keep_duplicate, skip_duplicate}
use Rattle.cdi_problems.specs.Elements.{Element, element_of, place_of, shown}
use Rattle.cdi_types.specs.ListsThose.{ListsThose}
use Rattle.cdi_name_check.proofs.duplicate_name.list_duplicates.Goals as goal
use Rattle.cdi_name_check.proofs.duplicate_name.list_duplicates.Goals.{then-again+in_ok-push, else-again}

pub loop-element-init : goal.loop-element-init
loop-element-init c = record {
  claimed = c.in_ok-claims.ensures;
  listed = rw c.empty-found.ensures (record { those = []; listed = ListsThose.none; are = refl });
}

pub loop-element-preserved : goal.loop-element-preserved
loop-element-preserved c =
    let i = c.loop-element in
    let e = c.element-item.result in
    let before = shown (take i.element-index c.args.elements.now) in
    let next = next_shown c.args.elements.now i.element-index e c.loop-element-test.true c.element-item.is in
    record {
      claimed = (
          let P : List Element → Type 0 = λ es. HasClaims (claims_after es) c.claim.new.self in
          subst P next (claimed_more before (element_of e) i.claims i.invariant.claimed c.claim.new.self c.in_ok-again.ensures.added)
          );
      listed = (
          elim c.if-again.branch [
            | then-again+in_ok-push w ↦ (
                let P : List Element → Type 0 = λ es. ListDuplicates es (i.found ++ place_of (element_of e) ∷ []) in
                rw (w.found-is, w.in_ok-push.ensures.ok, w.place.ensures) (subst P next (keep_duplicate before (element_of e) i.found i.invariant.listed (is_duplicate before (element_of e) i.claims i.invariant.claimed (sym c.in_ok-again.ensures.again ∙ w.if-again.true))))
                )
            | else-again w ↦ (
                let P : List Element → Type 0 = λ es. ListDuplicates es i.found in
                rw w.found-is (subst P next (skip_duplicate before (element_of e) i.found i.invariant.listed (is_none before (element_of e) i.claims i.invariant.claimed (sym c.in_ok-again.ensures.again ∙ w.if-again.false))))
                )
          ]
          );
    }
