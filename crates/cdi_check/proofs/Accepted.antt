-- Where no problem is told, none holds.
use Rattle.std.proofs.Common.{◌≡◌, ◌∙◌, ℕ, ◌<◌, Bool, true, false, ◌&&◌, List, [], ◌∷◌, ◌++◌, length, get_or, map, fold, Option, Some, None, is_none, IsTrue, IsSome, refl, sym, subst, if◌then◌else◌}
use Rattle.std.proofs.lemmas.List.{get_or_default}
use Rattle.std.proofs.lemmas.List.Elements.{All-nil, All-cons}
use Rattle.std.specs.List.{All}
use Rattle.cdi_base.specs.declared.place.Place.{Place}
use Rattle.cdi_beans.specs.Problems.{AreAllProblemsOf}
use Rattle.cdi_bodies.specs.declared.shape.Shape.{Shape}
use Rattle.cdi_body_check.specs.Sites.{Site, sites_of, is_live, body_of}
use Rattle.cdi_body_check.specs.UnknownBody.{HasUnknownBody}
use Rattle.cdi_live.specs.OwnPoints.{Inventory}
use Rattle.cdi_deployment.specs.declared.deployment.Deployment.{Deployment}
use Rattle.cdi_deployment.specs.declared.deployment.Point.{Point}
use Rattle.cdi_enable.specs.Enablement.{Enablement, enablement_of}
use Rattle.cdi_live.specs.Enabled.{Enabled}
use Rattle.cdi_live.specs.PointProblems.{resolved, HasPointProblem}
use Rattle.cdi_live.specs.Points.{points_of, IsLive}
use Rattle.cdi_live.specs.declared.point_problem.PointProblem.TheVariants as points
use Rattle.cdi_problems.specs.Elements.{Element, elements_of}
use Rattle.cdi_problems.specs.Findings.{ArePlacesWhere}
use Rattle.cdi_problems.specs.Places.{once, with_place}
use Rattle.cdi_problems.specs.Words.{problems_at}
use Rattle.cdi_problems.specs.declared.problem.ProblemKind.{ProblemKind}
use Rattle.cdi_quals.specs.declared.types.QualifierType.{QualifierType}
use Rattle.cdi_types.specs.ListsThose.{ListsThose}
use Rattle.cdi_resolve.specs.declared.resolution.Resolution.{Resolution}
use Rattle.cdi_resolve.specs.declared.resolution.Resolution.TheVariants.{One, Nothing, Many}
use Rattle.cdi_check.specs.Accepted.{HoldsOfNone, IsResolved, AreResolved, IsRegistered, AreBodiesSound, ArePointsSound, AreBeansSound, IsAccepted}
use Rattle.cdi_check.specs.Late.{AreBodyProblems, ArePointProblems, AreEnabledProblems, AreProblemsIn, AreLateProblems, setting_of}
use Rattle.cdi_check.specs.Problems.{AreProblemsOf}

-- ---- lists of what was found that are empty

pub append_none : {X : Type 0} (xs ys : List X) → [] ≡ xs ++ ys → ([] ≡ xs) × ([] ≡ ys)
append_none [] ys e = (refl, e)
append_none (x ∷ xs) ys e = absurd cc

pub map_none : {X Y : Type 0} (f : X → Y) (xs : List X) → [] ≡ map f xs → xs ≡ []
map_none f [] e = refl
map_none f (x ∷ xs) e = absurd cc

one_behind : (listed : List Place) (p : Place) (b : Bool) → (if b then listed else listed ++ p ∷ []) ≡ [] → listed ≡ []
one_behind listed p true e = e
one_behind listed p false e = sym (append_none listed (p ∷ []) (sym e)).0

-- keeping each place once loses none of those before
kept_none : (listed places : List Place) → fold with_place listed places ≡ [] → listed ≡ []
kept_none listed [] e = e
kept_none listed (p ∷ ps) e = one_behind listed p _ (kept_none (with_place listed p) ps e)

pub no_places : {X : Type 0} (place : X → Place) (those : List X) → [] ≡ once (map place those) → those ≡ []
no_places place [] e = refl
no_places place (x ∷ xs) e = absurd (full (kept_none (place x ∷ []) (map place xs) (sym e)))
  where
    full : place x ∷ [] ≡ [] → ⊥
    full h = cc

module _ {X : Type 0} (P : X → Type 0) where
  of_none : (items : List X) → ListsThose P items [] → HoldsOfNone P items
  of_none [] h = All-nil (λ x. P x → ⊥)
  of_none (x ∷ xs) (ListsThose.skip not rest) = All-cons (λ y. P y → ⊥) x xs not (of_none xs rest)

  none_found : (place : X → Place) (items : List X) (found : List Place) → found ≡ [] → ArePlacesWhere P place items found → HoldsOfNone P items
  none_found place items found e w =
      let Q : List X → Type 0 = λ those. ListsThose P items those in
      of_none items (subst Q (no_places place w.those (sym e ∙ w.are)) w.listed)

  pub none_told : (place : X → Place) (items : List X) (kind : ProblemKind) (found : List Place) → [] ≡ problems_at kind found → ArePlacesWhere P place items found → HoldsOfNone P items
  none_told place items kind found e = none_found place items found (map_none _ found e)

-- ---- bodies, points and beans

registered : (e : Enabled) (shape_of : ℕ → Option Shape) (s : Site) → (HasUnknownBody e shape_of s → ⊥) → IsRegistered e shape_of s
registered e shape_of s not live = by (is_live e s) (shape_of (body_of s)) not live
  where
    by : (b : Bool) (o : Option Shape) → (IsTrue (b && is_none o) → ⊥) → IsTrue b → IsSome o
    by true None not live = absurd (not live)
    by true (Some shape) not live = refl
    by false o not live = absurd (never live)
      where
        never : IsTrue false → ⊥
        never h = cc

all_registered : (e : Enabled) (shape_of : ℕ → Option Shape) (sites : List Site) → HoldsOfNone (HasUnknownBody e shape_of) sites → All (IsRegistered e shape_of) sites
all_registered e shape_of sites none = λ k d lt. registered e shape_of (get_or sites k d) (none k d lt)

points_resolve : (qualifiers : List QualifierType) (e : Enabled) (x : Element) → (HasPointProblem points.Unsatisfied qualifiers e x → ⊥) → (HasPointProblem points.Ambiguous qualifiers e x → ⊥) → AreResolved qualifiers e x
points_resolve qualifiers e x satisfied unambiguous live = λ k d lt. at k (get_or (points_of x) k d) lt (get_or_default (points_of x) k _ d lt)
  where
    at : (k : ℕ) (p : Point) → k < length (points_of x) → get_or (points_of x) k p ≡ p → IsResolved qualifiers e p
    at k p lt is = by (resolved qualifiers e p) refl
      where
        by : (r : Resolution) → resolved qualifiers e p ≡ r → IsResolved qualifiers e p
        by (One bean) h = (bean, h)
        by Nothing h = absurd (satisfied (record { live = live; point = (k, p, lt, is, h) }))
        by Many h = absurd (unambiguous (record { live = live; point = (k, p, lt, is, h) }))

pub bodies_sound : (d : Deployment) (shape_of : ℕ → Option Shape) (s : Inventory) (problems : List _) → [] ≡ problems → AreBodyProblems d shape_of s problems → AreBodiesSound d shape_of s
bodies_sound d shape_of s problems e h =
    let all = append_none _ _ (e ∙ h.are) in
    let three = append_none _ _ all.0 in
    let two = append_none _ _ three.0 in
    record {
      registered = all_registered s.enabled shape_of (sites_of d) (none_told _ _ (sites_of d) _ h.unknown two.0 h.are_unknown);
      in_shape = none_told _ _ (sites_of d) _ h.outside two.1 h.are_outside;
      none_proceeds = none_told _ _ (sites_of d) _ h.proceeding three.1 h.are_proceeding;
      none_checked = none_told _ _ (sites_of d) _ h.checked all.1 h.are_checked;
    }

points_sound : (d : Deployment) (s : Inventory) (problems : List _) → [] ≡ problems → ArePointProblems d s problems → ArePointsSound d s
points_sound d s problems e h =
    let all = append_none _ _ (e ∙ h.are) in
    let two = append_none _ _ all.0 in
    let satisfied = none_told _ _ (elements_of d) _ h.unsatisfied two.0 h.are_unsatisfied in
    let unambiguous = none_told _ _ (elements_of d) _ h.ambiguous two.1 h.are_ambiguous in
    record {
      resolved = λ k x lt. points_resolve s.qualifiers s.enabled (get_or (elements_of d) k x) (satisfied k x lt) (unambiguous k x lt);
      proxyable = none_told _ _ (elements_of d) _ h.unproxyable all.1 h.are_unproxyable;
    }

beans_sound : (d : Deployment) (e : Enablement) (s : Inventory) (problems : List _) → [] ≡ problems → AreEnabledProblems d e s problems → AreBeansSound d e s
beans_sound d e s problems none h =
    let all = append_none _ _ (none ∙ h.are) in
    let two = append_none _ _ all.0 in
    record {
      consistent = none_told _ _ (elements_of d) _ h.inconsistent two.0 h.are_inconsistent;
      acyclic = none_told _ _ (elements_of d) _ h.cyclic two.1 h.are_cyclic;
      interceptable = none_told _ _ (elements_of d) _ h.intercepted all.1 h.are_intercepted;
    }

late_accepted : (d : Deployment) (shape_of : ℕ → Option Shape) → AreLateProblems d shape_of [] → IsAccepted d shape_of
late_accepted d shape_of h =
    let s = setting_of d h.list h.flags h.qualifiers h.bindings in
    let all = append_none _ _ h.are.are in
    let two = append_none _ _ all.0 in
    record {
      list = h.list;
      made = h.made;
      qualifiers = h.qualifiers;
      are_qualifiers = h.are_qualifiers;
      bindings = h.bindings;
      are_bindings = h.are_bindings;
      flags = h.flags;
      are_flags = h.are_flags;
      bodies = bodies_sound d shape_of s h.are.of_bodies two.0 h.are.are_of_bodies;
      points = points_sound d s h.are.of_points two.1 h.are.are_of_points;
      beans = beans_sound d (enablement_of h.list) s h.are.of_enabled all.1 h.are.are_of_enabled;
    }

pub accepted : (d : Deployment) (shape_of : ℕ → Option Shape) → AreProblemsOf d shape_of [] → IsAccepted d shape_of
accepted d shape_of (AreProblemsOf.early h) = absurd (h.some refl)
accepted d shape_of (AreProblemsOf.late h) = late_accepted d shape_of h
