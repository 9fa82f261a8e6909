-- What the destroy act finds idle isn't busy.
use Rattle.std.proofs.Common.{ℕ, zero, suc, ◌≡◌, ◌≤◌, List, [], ◌∷◌, ◌⊎◌, inl, inr, Bool, true, false, not, Option, Some, None, refl, sym, ap, ◌∙◌, subst, arith, nat_eq}
use Rattle.std.specs.Prelude.{◌||◌}
use Rattle.cdi_store.specs.declared.instance.Owner.{Owner}
use Rattle.cdi_store.specs.declared.instance.Owner.TheVariants as owners
use Rattle.cdi_store.specs.declared.instance.Phase.{Phase}
use Rattle.cdi_store.specs.declared.instance.Phase.TheVariants as phases
use Rattle.cdi_store.specs.declared.instance.Instance.{Instance}
use Rattle.cdi_store.proofs.Numbers.{equal_or_not}
use Rattle.cdi_machine.specs.World.{World, Invocation, instance_at}
use Rattle.cdi_machine.specs.Contexts.{stays}
use Rattle.cdi_machine.specs.DestroyAct.{dependent_of, belongs, any_belongs, any_target, is_idle}
use Rattle.cdi_ledger.specs.Whose.{IsIn}
use Rattle.cdi_ledger.proofs.Cores.{Core, core_at, is_there}
use Rattle.cdi_ledger.proofs.Homes.{Inv, Chain, Busy, IsStaying, targets}

or_left : (a b : Bool) → a ≡ true → (a || b) ≡ true
or_left true b e = refl
or_left false b e = absurd (cc)

or_right : (a b : Bool) → b ≡ true → (a || b) ≡ true
or_right true b e = refl
or_right false b e = e

-- the first step of a chain
record Step (w : World) (b n : ℕ) : Type 0 where
  core : Core
  owner : ℕ
  there : core_at b w.instances ≡ Some core
  stays : IsStaying core.phase
  owned : core.owner ≡ owners.Instance owner
  rest : Chain w.instances owner n

first_step : (w : World) (b n : ℕ) → Chain w.instances b n → (b ≡ n) ⊎ Step w b n
first_step w b n Chain.here = inl refl
first_step w b n (Chain.up {d = d} {c = c} q e s o) = elim (first_step w b d q) [
  | inl p ↦ inr (record { core = c; owner = n; there = subst (λ z. core_at z w.instances ≡ Some c) (sym p) e; stays = s; owned = o; rest = Chain.here })
  | inr p ↦ inr (record { core = p.core; owner = p.owner; there = p.there; stays = p.stays; owned = p.owned; rest = Chain.up p.rest e s o })
]

depends : (w : World) (b m : ℕ) (c : Core) → core_at b w.instances ≡ Some c → IsStaying c.phase → c.owner ≡ owners.Instance m → dependent_of (instance_at w b) ≡ Some m
depends w b m c e s o =
    let x = is_there b w.instances c e in
    ap dependent_of x.1 ∙ by x.0 x.0.owner x.0.phase refl refl (ap (λ (z : Core). z.owner) x.2 ∙ o) (subst IsStaying (ap (λ (z : Core). z.phase) (sym x.2)) s)
  where
    stay : (x : Instance) (p : Phase) → x.phase ≡ p → IsStaying p → stays (Some x) ≡ true
    stay x phases.New e s = ap (λ z. elim z as (λ _. Bool) [ phases.New ↦ true | phases.Ready ↦ true | phases.Leaving ↦ false ]) e
    stay x phases.Ready e s = ap (λ z. elim z as (λ _. Bool) [ phases.New ↦ true | phases.Ready ↦ true | phases.Leaving ↦ false ]) e
    stay x phases.Leaving e s = absurd s

    then : (b : Bool) (k : ℕ) → b ≡ true → elim b as (λ _. Option ℕ) [ true ↦ Some k | false ↦ None ] ≡ Some k
    then true k e = refl
    then false k e = absurd (cc)

    by : (x : Instance) (ow : Owner) (p : Phase) → x.owner ≡ ow → x.phase ≡ p → ow ≡ owners.Instance m → IsStaying p → dependent_of (Some x) ≡ Some m
    by x ow p q r f s =
        ap (λ z. elim z as (λ _. Option ℕ) [ owners.Context c ↦ None | owners.Instance k ↦ elim (stays (Some x)) as (λ _. Option ℕ) [ true ↦ Some k | false ↦ None ] | owners.Borrower ↦ None ]) (q ∙ f) ∙ then (stays (Some x)) m (stay x p r s)

belongs_by : (w : World) (g : Inv w) (k b n : ℕ) → b ≤ k → Chain w.instances b n → belongs k w b n ≡ true
belongs_by w g zero b n l q = elim (equal_or_not b n) [
  | inl s ↦ s.0
  | inr s ↦ elim (first_step w b n q) [ inl p ↦ absurd (s.1 p) | inr p ↦ let y = g.smaller b p.owner p.core p.there p.owned in absurd (omega arith) ]
]
belongs_by w g (suc k) b n l q = elim (equal_or_not b n) [
  | inl s ↦ or_left (nat_eq b n) _ s.0
  | inr s ↦ elim (first_step w b n q) [
    | inl p ↦ absurd (s.1 p)
    | inr p ↦ let y = g.smaller b p.owner p.core p.there p.owned in
        or_right (nat_eq b n) _ (ap (λ z. elim z as (λ _. Bool) [ None ↦ false | Some o ↦ belongs k w o n ]) (depends w b p.owner p.core p.there p.stays p.owned) ∙ belongs_by w g k p.owner n (omega (arith, y, l)) p.rest)
  ]
]

bodies_belong : (w : World) (g : Inv w) (n b : ℕ) (ms : List ℕ) → IsIn b ms → Chain w.instances b n → any_belongs w ms n ≡ true
bodies_belong w g n b [] h q = absurd h
bodies_belong w g n b (m ∷ ms) (inl e) q = or_left (belongs m w m n) _ (belongs_by w g m m n (omega arith) (subst (λ z. Chain w.instances z n) (sym e) q))
bodies_belong w g n b (m ∷ ms) (inr h) q = or_right (belongs m w m n) _ (bodies_belong w g n b ms h q)

targets_belong : (w : World) (g : Inv w) (n b : ℕ) (vs : List Invocation) → IsIn b (targets vs) → Chain w.instances b n → any_target w vs n ≡ true
targets_belong w g n b [] h q = absurd h
targets_belong w g n b (v ∷ vs) (inl e) q = or_left (belongs v.target w v.target n) _ (belongs_by w g v.target v.target n (omega arith) (subst (λ z. Chain w.instances z n) (sym e) q))
targets_belong w g n b (v ∷ vs) (inr h) q = or_right (belongs v.target w v.target n) _ (targets_belong w g n b vs h q)

pub idle_is : (w : World) (g : Inv w) (n : ℕ) → is_idle w n ≡ true → Busy w n → ⊥
idle_is w g n e q = by (any_target w w.invocations n) (any_belongs w w.bodies n) refl refl e q.1
  where
    by : (a b : Bool) → any_target w w.invocations n ≡ a → any_belongs w w.bodies n ≡ b → not (a || b) ≡ true → IsIn q.0 w.bodies ⊎ IsIn q.0 (targets w.invocations) → ⊥
    by true b e1 e2 f h = cc
    by false true e1 e2 f h = cc
    by false false e1 e2 f (inl h) = let t = bodies_belong w g n q.0 w.bodies h q.2 in let s : true ≡ false = sym t ∙ e2 in cc
    by false false e1 e2 f (inr h) = let t = targets_belong w g n q.0 w.invocations h q.2 in let s : true ≡ false = sym t ∙ e1 in cc
