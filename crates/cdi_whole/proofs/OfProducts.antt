-- A read that isn't refused is of a product.
use Rattle.std.proofs.Common.{ℕ, ◌≡◌, ◌∙◌, List, [], ◌∷◌, ◌++◌, Bool, true, false, not, Some, None, Option, refl, ap, subst}
use Rattle.cdi_base.specs.declared.reply.Refusal.{Refusal}
use Rattle.cdi_base.specs.declared.reply.Refusal.TheVariants as refusals
use Rattle.cdi_contexts.specs.Refusals.{first_that_holds}
use Rattle.cdi_machine.specs.Commands.{Command}
use Rattle.cdi_machine.specs.Container.{bean_of, read_refusals, refused_by_contexts, refused_by_tables}
use Rattle.cdi_machine.specs.Tables.{Bean, Kind, Product, Tables}
use Rattle.cdi_machine.proofs.Refused.{past_any}
use Rattle.cdi_whole.specs.Replies.{ReadsProducts}

-- past what comes before
past : (xs ys : List (Bool × Refusal)) → first_that_holds (xs ++ ys) ≡ None → first_that_holds ys ≡ None
past [] ys e = e
past ((true, r) ∷ xs) ys e = absurd (cc)
past ((false, r) ∷ xs) ys e = past xs ys e

of_product : (bean : Bean) → first_that_holds (read_refusals (Some bean)) ≡ None → (p : Product) × (bean.kind ≡ Kind.Producer p)
of_product bean h = by bean.kind refl h
  where
    by : (kind : Kind) → bean.kind ≡ kind → first_that_holds (elim kind as (λ _. List (Bool × Refusal)) [
      | Kind.Class c ↦ (true, refusals.NoMethod) ∷ []
      | Kind.Producer p ↦ []
    ]) ≡ None → (p : Product) × (bean.kind ≡ Kind.Producer p)
    by (Kind.Class c) e q = absurd (cc)
    by (Kind.Producer p) e q = (p, e)

pub reads_products : (t : Tables) → ReadsProducts t
reads_products t s request asked e b bean resolves known =
    let c = Command.Read request asked in
    let y = past (refused_by_contexts s.world.contexts c) (refused_by_tables t c) (past_any t s c e) in
    let z = past ((not (t.is_known asked), refusals.UnknownName) ∷ []) (read_refusals (bean_of t (t.resolve asked))) y in
    of_product bean (subst (λ o. first_that_holds (read_refusals o) ≡ None) (ap (bean_of t) resolves ∙ known) z)
