use Rattle.std.proofs.Common.{◌≡◌, ◌∙◌, ℕ, List, Option, Some, None, IfSome, sym, ap, subst}
use Rattle.std.specs.Prelude.{slice_get}
use Rattle.std.specs.Option.{option_copied}
use Rattle.std.proofs.lemmas.Option.{slice_get_within, get_or_from_slice_get}
use Rattle.cdi_deployment.specs.declared.deployment.Point.{Point}
use Rattle.cdi_resolve.specs.Filters.{enabled_of}
use Rattle.cdi_resolve.specs.declared.resolution.Resolution.{Resolution}
use Rattle.cdi_live.specs.ResolvedPoints.{Resolving, resolved_by, IsTold, AreTold}
use Rattle.cdi_live.proofs.resolved_points.ResolvedPoints.known.Goals as goal

told_there : (r : Resolving) (points : List (Point × Resolution)) (place : ℕ) (p : Point × Resolution) → AreTold r points → slice_get points place ≡ Some p → IsTold r p
told_there r points place p all there =
    let P : Point × Resolution → Type 0 = IsTold r in
    subst P (get_or_from_slice_get points place p p there) (all place p (slice_get_within points place p there))

if_some : {X : Type 0} (P Q : X → Type 0) (o : Option X) → ((x : X) → P x → Q x) → IfSome o P → IfSome o Q
if_some P Q None f h = h
if_some P Q (Some x) f h = f x h

pub returns : goal.returns
returns c =
    let p = c.in_ok-point.point.now in
    let asked = c.args.question.now in
    let r : Resolving = record { qualifiers = c.self.inside.qualifiers.now; enabled = enabled_of c.self.inside.resolver.now } in
    let there : slice_get c.self.inside.points c.in_ok-place.place ≡ Some p = sym c.get-2.ensures ∙ ap option_copied c.in_ok-point.was in
    let is : IsTold r p = told_there r c.self.inside.points c.in_ok-place.place p c.self.invariant there in
    if_some _ _ c.told_to.result
    (λ told h. h.0 ∙ is ∙ ap (λ (q : Point). resolved_by r q.ty q.quals) h.1 ∙ ap (λ (s : Resolving). resolved_by s asked.ty asked.uses.now) c.self.view_is)
    c.told_to.ensures
