-- Where each instance stands, what a task leaves as it was, what is busy (a running body or the target of an invocation, and
-- what owns one), and whose the parameters of bodies are.
use Rattle.std.proofs.Common.{ℕ, zero, suc, ◌≡◌, ◌<◌, ◌≤◌, List, [], ◌∷◌, ◌⊎◌, inl, inr, Some, None, refl, sym, ◌∙◌, subst, arith}
use Rattle.std.specs.Prelude.{map, slice_get}
use Rattle.cdi_store.specs.declared.instance.Component.{Component}
use Rattle.cdi_store.specs.declared.instance.Component.TheVariants as components
use Rattle.cdi_store.specs.declared.instance.Context.{Context}
use Rattle.cdi_store.specs.declared.instance.Owner.{Owner}
use Rattle.cdi_store.specs.declared.instance.Owner.TheVariants as owners
use Rattle.cdi_store.specs.declared.instance.Phase.{Phase}
use Rattle.cdi_store.specs.declared.instance.Phase.TheVariants as phases
use Rattle.cdi_store.specs.declared.references.Reference.{Reference}
use Rattle.cdi_store.specs.declared.references.Reference.TheVariants.{Direct}
use Rattle.cdi_store.specs.Live.{Instances}
use Rattle.cdi_contexts.specs.Contexts.{context_at}
use Rattle.cdi_machine.specs.Tables.{Code}
use Rattle.cdi_machine.specs.World.{World, Invocation, below}
use Rattle.cdi_ledger.specs.Whose.{IsIn, IsHeld}
use Rattle.cdi_ledger.proofs.Lists.{IsAmong}
use Rattle.cdi_ledger.proofs.Holdings.{IsMaking, AllHeld}
use Rattle.cdi_ledger.proofs.Cores.{Core, core_at, deps_at}

-- ---- what is busy

abbrev pub targets : List Invocation → List ℕ
targets vs = map (λ v. v.target) vs

-- the bodies at the chains' ends
abbrev pub codes : List Invocation → List (List Code)
codes vs = map (λ v. v.members) vs

-- the target of each, and what its bodies have for their parameters
abbrev pub provisions : List Invocation → List (ℕ × List Reference)
provisions vs = map (λ v. (v.target, v.references)) vs

abbrev pub lower_provisions : List Invocation → List (ℕ × List Reference)
lower_provisions vs = provisions (below vs)

abbrev pub OnStack : World → ℕ → Type 0
OnStack w b = IsIn b w.bodies ⊎ IsIn b (targets w.invocations)

abbrev pub IsStaying : Phase → Type 0
IsStaying phases.New = Unit {0}
IsStaying phases.Ready = Unit {0}
IsStaying phases.Leaving = ⊥

-- n is b, or owns it, directly or through others that stay
pub data Chain (m : Instances) (b : ℕ) : ℕ → Type 0 where
  here : Chain m b b
  up : {d n : ℕ} {c : Core} → Chain m b d → core_at d m ≡ Some c → IsStaying c.phase → c.owner ≡ owners.Instance n → Chain m b n

abbrev pub Busy : World → ℕ → Type 0
Busy w n = (b : ℕ) × OnStack w b × Chain w.instances b n

-- what a task doesn't end
abbrev pub IsFixed : World → ℕ → Core → Type 0
IsFixed w n c = (c.phase ≡ phases.New) ⊎ ((c.phase ≡ phases.Leaving) ⊎ Busy w n)

pub chain_map : (m1 m : Instances) (b n : ℕ) → ((d : ℕ) (c : Core) → core_at d m1 ≡ Some c → IsStaying c.phase → Chain m b d → core_at d m ≡ Some c) → Chain m1 b n → Chain m b n
chain_map m1 m b n f Chain.here = Chain.here
chain_map m1 m b n f (Chain.up {d = d} {c = c} q e s o) = let p = chain_map m1 m b d f q in Chain.up p (f d c e s p) s o

-- owners have smaller numbers
pub chain_small : (m : Instances) (b n : ℕ) → ((d k : ℕ) (c : Core) → core_at d m ≡ Some c → c.owner ≡ owners.Instance k → k < d) → Chain m b n → n ≤ b
chain_small m b n f Chain.here = omega arith
chain_small m b n f (Chain.up {d = d} {c = c} q e s o) = let l = chain_small m b d f q in let k = f d n c e o in omega arith

-- ---- temporaries

-- each list has what it had, or what was made since
abbrev pub Grown : ℕ → List (List ℕ) → List (List ℕ) → Type 0
Grown k [] [] = Unit {0}
Grown k (xs ∷ ts) (ys ∷ us) = ((n : ℕ) → IsIn n ys → IsIn n xs ⊎ (k ≤ n)) × Grown k ts us
Grown k _ _ = ⊥

pub grown_self : (k : ℕ) (ts : List (List ℕ)) → Grown k ts ts
grown_self k [] = tt
grown_self k (xs ∷ ts) = (λ n h. inl h, grown_self k ts)

pub grown_then : (j k : ℕ) (ts us vs : List (List ℕ)) → j ≤ k → Grown j ts us → Grown k us vs → Grown j ts vs
grown_then j k [] [] [] l a b = tt
grown_then j k [] [] (v ∷ vs) l a b = b
grown_then j k [] (u ∷ us) vs l a b = absurd a
grown_then j k (t ∷ ts) [] vs l a b = absurd a
grown_then j k (t ∷ ts) (u ∷ us) [] l a b = absurd b
grown_then j k (t ∷ ts) (u ∷ us) (v ∷ vs) l a b = (λ n h. elim (b.0 n h) [ inl q ↦ a.0 n q | inr q ↦ inr (omega arith) ], grown_then j k ts us vs l a.1 b.1)

-- ---- what a task leaves

-- of the provisions those that P tells
pub record Along (P : List Invocation → List (ℕ × List Reference)) (w v : World) : Type 0 where
  pub next : w.next ≤ v.next
  pub bodies : v.bodies ≡ w.bodies
  pub targets : targets v.invocations ≡ targets w.invocations
  pub members : codes v.invocations ≡ codes w.invocations
  pub provisions : P v.invocations ≡ P w.invocations
  pub lists : Grown w.next w.temporaries v.temporaries
  pub old : (k : ℕ) (c : Core) → k < w.next → core_at k v.instances ≡ Some c → core_at k w.instances ≡ Some c
  pub new : (k : ℕ) (c : Core) → w.next ≤ k → core_at k v.instances ≡ Some c → c.phase ≡ phases.Ready
  pub stay : (k : ℕ) (c : Core) → core_at k w.instances ≡ Some c → IsFixed w k c → core_at k v.instances ≡ Some c
  pub making : (c : Context) (b : ℕ) → IsMaking (context_at w.contexts c) b → IsMaking (context_at v.contexts c) b
  pub absent : (c : Context) → context_at w.contexts c ≡ None → context_at v.contexts c ≡ None

abbrev pub Rel : World → World → Type 0
Rel w v = Along provisions w v

-- as it is left inside an invocation, which may provide parameters itself
abbrev pub Inside : World → World → Type 0
Inside w v = Along lower_provisions w v

-- ---- whose a body's parameters are

abbrev pub IsNewAt : ℕ → World → Type 0
IsNewAt n w = (c : Core) × (core_at n w.instances ≡ Some c) × (c.phase ≡ phases.New)

-- of n itself, of a product that is being made, or for the time of an invocation
abbrev pub MayOwn : ℕ → Owner → World → Type 0
MayOwn n owner w = (owner ≡ owners.Instance n) ⊎ (((t : ℕ) × (owner ≡ owners.Instance t) × IsNewAt t w) ⊎ (owner ≡ owners.Borrower))

-- it was given a number, and is somebody's who may own what a body on n has
abbrev pub IsParameterOf : ℕ → ℕ → World → Type 0
IsParameterOf n m w = (m < w.next) × ((c : Core) → core_at m w.instances ≡ Some c → MayOwn n c.owner w)

-- what they refer to themselves
abbrev pub AreParameters : ℕ → List Reference → World → Type 0
AreParameters n rs w = (k m : ℕ) → slice_get rs k ≡ Some (Direct m) → IsParameterOf n m w

abbrev pub AreProvided : List (ℕ × List Reference) → World → Type 0
AreProvided ps w = (n : ℕ) (rs : List Reference) → IsIn (n, rs) ps → AreParameters n rs w

-- an invocation has a direct reference to it
pub record IsReferred (m : ℕ) (ps : List (ℕ × List Reference)) : Type 0 where
  pub target : ℕ
  pub references : List Reference
  pub among : IsIn (target, references) ps
  pub place : ℕ
  pub direct : slice_get references place ≡ Some (Direct m)

abbrev pub IsReadyOf : World → ℕ → Owner → Type 0
IsReadyOf w n owner = (component : Component) × (core_at n w.instances ≡ Some (record { component = component; owner = owner; phase = phases.Ready }))

abbrev pub Placed : World → ℕ → Component → Owner → Type 0
Placed w n component (owners.Context c) = IsHeld (context_at w.contexts c) component n
Placed w n component (owners.Instance m) = IsIn n (deps_at m w.instances)
Placed w n component owners.Borrower = IsAmong n w.temporaries

-- one that is being made for a context
abbrev pub being : ℕ → Context → Core
being b x = record { component = components.Bean b; owner = owners.Context x; phase = phases.New }

abbrev pub HeldIn : World → Context → ℕ → ℕ → Type 0
HeldIn w c b n = core_at n w.instances ≡ Some (record { component = components.Bean b; owner = owners.Context c; phase = phases.Ready })

pub record Inv (w : World) : Type 0 where
  pub below : (k : ℕ) (c : Core) → core_at k w.instances ≡ Some c → k < w.next
  pub smaller : (k m : ℕ) (c : Core) → core_at k w.instances ≡ Some c → c.owner ≡ owners.Instance m → m < k
  pub stack : (b : ℕ) → OnStack w b → b < w.next
  pub depends : (m k : ℕ) → IsIn k (deps_at m w.instances) → IsReadyOf w k (owners.Instance m)
  pub borrowed : (k : ℕ) → IsAmong k w.temporaries → IsReadyOf w k owners.Borrower
  pub held : (c : Context) → AllHeld (HeldIn w c) (context_at w.contexts c)
  pub placed : (k : ℕ) (c : Core) → core_at k w.instances ≡ Some c → c.phase ≡ phases.Ready → Placed w k c.component c.owner
  pub made : (k : ℕ) (x : Context) (b : ℕ) → core_at k w.instances ≡ Some (being b x) → IsMaking (context_at w.contexts x) b
  pub one : (j k : ℕ) (x : Context) (b : ℕ) → core_at j w.instances ≡ Some (being b x) → core_at k w.instances ≡ Some (being b x) → j ≡ k
  pub provided : AreProvided (provisions w.invocations) w

-- ---- from world to world

pub on_stack : (w v : World) (b : ℕ) → v.bodies ≡ w.bodies → targets v.invocations ≡ targets w.invocations → OnStack v b → OnStack w b
on_stack w v b p q (inl h) = inl (subst (IsIn b) p h)
on_stack w v b p q (inr h) = inr (subst (IsIn b) q h)

pub stack_on : {P : List Invocation → List (ℕ × List Reference)} (w v : World) (b : ℕ) → Along P w v → OnStack w b → OnStack v b
stack_on w v b r (inl h) = inl (subst (IsIn b) (sym r.bodies) h)
stack_on w v b r (inr h) = inr (subst (IsIn b) (sym r.targets) h)

-- what was busy is
pub busy_then : {P : List Invocation → List (ℕ × List Reference)} (w v : World) (n : ℕ) → Along P w v → Busy w n → Busy v n
busy_then w v n r q = let b = q.0 in (b, stack_on w v b r q.1, along n q.2)
  where
    along : (k : ℕ) → Chain w.instances q.0 k → Chain v.instances q.0 k
    along k Chain.here = Chain.here
    along k (Chain.up {d = d} {c = c} p e s o) = Chain.up (along d p) (r.stay d c e (inr (inr (q.0, q.1, p)))) s o

-- what is busy and was there was busy
pub was_busy : (w v : World) (n : ℕ) → Inv w → Rel w v → Busy v n → Busy w n × (n < w.next)
was_busy w v n g r q =
    let b = q.0 in
    let on = on_stack w v b r.bodies r.targets q.1 in
    let c = along b on n q.2 in
    ((b, on, c.0), c.1)
  where
    along : (b : ℕ) → OnStack w b → (k : ℕ) → Chain v.instances b k → Chain w.instances b k × (k < w.next)
    along b on k Chain.here = (Chain.here, g.stack b on)
    along b on k (Chain.up {d = d} {c = c} p e s o) =
        let a = along b on d p in
        let f = r.old d c a.1 e in
        let l = g.smaller d k c f o in
        (Chain.up a.0 f s o, omega (arith, a.1))

pub fixed_then : {P : List Invocation → List (ℕ × List Reference)} (w v : World) (n : ℕ) (c : Core) → Along P w v → IsFixed w n c → IsFixed v n c
fixed_then w v n c r (inl e) = inl e
fixed_then w v n c r (inr (inl e)) = inr (inl e)
fixed_then w v n c r (inr (inr b)) = inr (inr (busy_then w v n r b))

pub rel_self : (w : World) → Inv w → Rel w w
rel_self w g = record {
  next = omega arith;
  bodies = refl;
  targets = refl;
  members = refl;
  provisions = refl;
  lists = grown_self w.next w.temporaries;
  old = λ k c l e. e;
  new = λ k c l e. (let b = g.below k c e in absurd (omega arith));
  stay = λ k c e f. e;
  making = λ c b h. h;
  absent = λ c e. e;
}

pub lt_or : (k n : ℕ) → (k < n) ⊎ (n ≤ k)
lt_or k zero = inr (omega arith)
lt_or zero (suc n) = inl (omega arith)
lt_or (suc k) (suc n) = elim (lt_or k n) [ inl l ↦ inl (omega (arith, l)) | inr l ↦ inr (omega (arith, l)) ]

pub along_then : {P : List Invocation → List (ℕ × List Reference)} (w v u : World) → Along P w v → Along P v u → Along P w u
along_then w v u a b = record {
  next = (let x = a.next in let y = b.next in omega arith);
  bodies = b.bodies ∙ a.bodies;
  targets = b.targets ∙ a.targets;
  members = b.members ∙ a.members;
  provisions = b.provisions ∙ a.provisions;
  lists = grown_then w.next v.next w.temporaries v.temporaries u.temporaries a.next a.lists b.lists;
  old = λ k c l e. a.old k c l (b.old k c (let x = a.next in omega arith) e);
  new = λ k c l e. elim (lt_or k v.next) [ inl q ↦ a.new k c l (b.old k c q e) | inr q ↦ b.new k c q e ];
  stay = λ k c e f. b.stay k c (a.stay k c e f) (fixed_then w v k c a f);
  making = λ c n h. b.making c n (a.making c n h);
  absent = λ c e. b.absent c (a.absent c e);
}

pub rel_then : (w v u : World) → Rel w v → Rel v u → Rel w u
rel_then w v u a b = along_then w v u a b

lower_alike : (us vs : List Invocation) → provisions vs ≡ provisions us → lower_provisions vs ≡ lower_provisions us
lower_alike [] [] e = refl
lower_alike [] (v ∷ vs) e = absurd (cc)
lower_alike (u ∷ us) [] e = absurd (cc)
lower_alike (u ∷ us) (v ∷ vs) e = let q : provisions vs ≡ provisions us = cc in q

pub rel_inside : (w v : World) → Rel w v → Inside w v
rel_inside w v r = record {
  next = r.next;
  bodies = r.bodies;
  targets = r.targets;
  members = r.members;
  provisions = lower_alike w.invocations v.invocations r.provisions;
  lists = r.lists;
  old = r.old;
  new = r.new;
  stay = r.stay;
  making = r.making;
  absent = r.absent;
}

-- ---- parameters, later

pub new_then : {P : List Invocation → List (ℕ × List Reference)} (w v : World) (n : ℕ) → Along P w v → IsNewAt n w → IsNewAt n v
new_then w v n r a = (a.0, r.stay n a.0 a.1 (inl a.2), a.2)

pub may_then : {P : List Invocation → List (ℕ × List Reference)} (w v : World) (n : ℕ) (owner : Owner) → Along P w v → MayOwn n owner w → MayOwn n owner v
may_then w v n owner r (inl e) = inl e
may_then w v n owner r (inr (inl a)) = inr (inl (a.0, a.1, new_then w v a.0 r a.2))
may_then w v n owner r (inr (inr e)) = inr (inr e)

pub parameters_then : {P : List Invocation → List (ℕ × List Reference)} (w v : World) (n : ℕ) (rs : List Reference) → Along P w v → AreParameters n rs w → AreParameters n rs v
parameters_then w v n rs r a k m e =
    let p = a k m e in
    ((let l = p.0 in let x = r.next in omega arith), λ c f. may_then w v n c.owner r (p.1 c (r.old m c p.0 f)))

-- in a world with the same instances
pub parameters_same : (w v : World) (n : ℕ) (rs : List Reference) → v.next ≡ w.next → ((k : ℕ) → core_at k v.instances ≡ core_at k w.instances) → AreParameters n rs w → AreParameters n rs v
parameters_same w v n rs x i a k m e =
    let p = a k m e in
    (subst (λ z. m < z) (sym x) p.0, λ c f. may c.owner (p.1 c (sym (i m) ∙ f)))
  where
    may : (owner : Owner) → MayOwn n owner w → MayOwn n owner v
    may owner (inl e) = inl e
    may owner (inr (inl a)) = inr (inl (a.0, a.1, (a.2.0, i a.0 ∙ a.2.1, a.2.2)))
    may owner (inr (inr e)) = inr (inr e)

pub no_parameters : (n : ℕ) (w : World) → AreParameters n [] w
no_parameters n w k m e = absurd (cc)

pub referred_below : (w : World) (m : ℕ) → Inv w → IsReferred m (provisions w.invocations) → m < w.next
referred_below w m g q = (g.provided q.target q.references q.among q.place m q.direct).0
