-- What each task asks of a world, and what it leaves.
use Rattle.std.proofs.Common.{ℕ, ◌≡◌, ◌<◌, List, [], ◌∷◌, ◌⊎◌, inl, inr, Some, sym, ap, subst, ◌∙◌, refl, arith}
use Rattle.cdi_store.specs.declared.instance.Owner.{Owner}
use Rattle.cdi_store.specs.declared.instance.Owner.TheVariants as owners
use Rattle.cdi_store.specs.declared.instance.Phase.TheVariants as phases
use Rattle.cdi_contexts.specs.Contexts.{context_at}
use Rattle.cdi_store.specs.declared.references.Reference.{Reference}
use Rattle.cdi_store.specs.declared.references.Reference.TheVariants.{Direct}
use Rattle.std.specs.Prelude.{map, slice_get}
use Rattle.cdi_base.specs.Maps.{at}
use Rattle.cdi_base.specs.declared.place.Place.{Place}
use Rattle.cdi_base.specs.declared.place.Place.TheVariants as places
use Rattle.cdi_base.specs.declared.place.InterceptorMethod.{InterceptorMethod}
use Rattle.cdi_base.specs.declared.place.InterceptorMethod.TheVariants as roles
use Rattle.cdi_store.specs.declared.instance.Component.TheVariants as components
use Rattle.cdi_machine.specs.Tables.{Tables, Bean, Code, Managed, Kind, Interceptor, Observer}
use Rattle.cdi_machine.specs.World.{World, Change, Invocation}
use Rattle.cdi_ledger.proofs.Judge.{Changing, Running, Asked}
use Rattle.cdi_machine.specs.Programs.{Running as Body, Task, Given, Completion, Gave, Threw}
use Rattle.cdi_ledger.specs.Ledger.{Item, fate}
use Rattle.cdi_ledger.proofs.Past.{Past}
use Rattle.cdi_ledger.specs.Whose.{IsIn}
use Rattle.cdi_ledger.specs.Ends.{Suits, IsOwn}
use Rattle.cdi_ledger.specs.Callbacks.{IsOrdinary, IsMark, IsProceed}
use Rattle.cdi_ledger.proofs.Lists.{HasTop, TopEmpty}
use Rattle.cdi_ledger.proofs.Holdings.{IsFree, NoneHeld}
use Rattle.cdi_ledger.proofs.Cores.{Core, core_at, deps_at}
use Rattle.cdi_ledger.proofs.Homes.{AreParameters, IsNewAt, Along, parameters_then, Rel, Busy, IsFixed, IsStaying, OnStack, fixed_then, targets, lt_or, Chain}

-- it is there, and no task ends it
abbrev pub Anchored : World → ℕ → Type 0
Anchored w n = (c : Core) × (core_at n w.instances ≡ Some c) × IsFixed w n c

abbrev pub CanOwn : World → ℕ → Owner → Type 0
CanOwn w b (owners.Context x) = IsFree (context_at w.contexts x) b
CanOwn w b (owners.Instance m) = Anchored w m
CanOwn w b owners.Borrower = HasTop w.temporaries

-- it is ready, and nothing that runs is it or its
abbrev pub IsIdle : World → ℕ → Type 0
IsIdle w n = (c : Core) × (core_at n w.instances ≡ Some c) × (c.phase ≡ phases.Ready) × (Busy w n → ⊥)

-- nothing that runs is its dependents'
abbrev pub IsFreeBelow : World → ℕ → Type 0
IsFreeBelow w n = (d : ℕ) (x : Core) → core_at d w.instances ≡ Some x → IsStaying x.phase → x.owner ≡ owners.Instance n → Busy w d → ⊥

abbrev pub IsTop : ℕ → List (List ℕ) → Type 0
IsTop n [] = ⊥
IsTop n (ns ∷ more) = IsIn n ns

-- the bean's scope lets the owner have an instance of it
abbrev pub IsSuited : Tables → ℕ → Owner → Type 0
IsSuited tables b owner = (x : Bean) → tables.bean b ≡ Some x → Suits x.scope owner

-- it is there, and its destruction hasn't begun
abbrev pub IsUsable : ℕ → World → Type 0
IsUsable n w = (c : Core) × (core_at n w.instances ≡ Some c) × IsStaying c.phase

abbrev pub IsThere : ℕ → World → Type 0
IsThere n w = (c : Core) × (core_at n w.instances ≡ Some c)

-- each of the bodies is a pre-destroy callback of the class
pub record AreParting (tables : Tables) (c : Core) (members : List Code) : Type 0 where
  pub index : ℕ
  pub is : c.component ≡ components.Bean index
  pub bean : Bean
  pub known : tables.bean index ≡ Some bean
  pub class : Managed
  pub kind : bean.kind ≡ Kind.Class class
  pub same : members ≡ class.pre_destroy.callbacks
  pub all : (place : Place) → IsIn place (map (λ m. m.place) members) → IsIn place (map (λ m. m.place) class.pre_destroy.callbacks)

-- the body is of a method of the class, and was called right before
pub record IsOwnOf (tables : Tables) (c : Core) (place : Place) (h : List Item) : Type 0 where
  pub index : ℕ
  pub is : c.component ≡ components.Bean index
  pub bean : Bean
  pub known : tables.bean index ≡ Some bean
  pub class : Managed
  pub kind : bean.kind ≡ Kind.Class class
  pub own : IsOwn class place h

-- it is the target of the innermost invocation, and the body one of that
abbrev pub IsMember : ℕ → Place → List Invocation → Type 0
IsMember n place [] = ⊥
IsMember n place (v ∷ vs) = (v.target ≡ n) × IsIn place (map (λ m. m.place) v.members)

abbrev pub MayEnter : Tables → ℕ → List Code → World → Type 0
MayEnter tables n members w = (c : Core) → core_at n w.instances ≡ Some c → c.phase ≡ phases.Leaving → AreParting tables c members

abbrev pub MayRun : Tables → ℕ → Place → World → List Item → Type 0
MayRun tables n place w h = (c : Core) → core_at n w.instances ≡ Some c → c.phase ≡ phases.Leaving → IsMember n place w.invocations ⊎ IsOwnOf tables c place h

-- its destruction is under way
abbrev pub IsLeavingAt : ℕ → World → Type 0
IsLeavingAt n w = (c : Core) × (core_at n w.instances ≡ Some c) × (c.phase ≡ phases.Leaving)

-- the bodies of an invocation that is no destruction's
abbrev pub AreOrdinary : Tables → InterceptorMethod → List Code → Type 0
AreOrdinary tables role members = (role ≡ roles.PreDestroy → ⊥) × ((m : Code) → IsIn m members → IsOrdinary tables m.place)

abbrev pub EntersSo : Tables → ℕ → InterceptorMethod → List Code → World → List Item → Type 0
EntersSo tables n role members w h = (IsLeavingAt n w × Past (fate n h)) ⊎ AreOrdinary tables role members

-- ---- the innermost invocation, if its target is leaving

-- the core is of a bean of the class
pub record IsClassOf (tables : Tables) (c : Core) (class : Managed) : Type 0 where
  pub index : ℕ
  pub is : c.component ≡ components.Bean index
  pub bean : Bean
  pub known : tables.bean index ≡ Some bean
  pub kind : bean.kind ≡ Kind.Class class

abbrev pub InFarewell : Tables → (ℕ → Managed → Type 0) → List Invocation → World → Type 0
InFarewell tables P [] w = Unit {0}
InFarewell tables P (v ∷ vs) w = (k : Core) (c : Managed) → core_at v.target w.instances ≡ Some k → k.phase ≡ phases.Leaving → IsClassOf tables k c → P v.target c

-- the one is an end of the other
abbrev pub IsEndOf : List ℕ → List ℕ → Type 0
IsEndOf rest [] = rest ≡ []
IsEndOf rest (i ∷ chain) = (rest ≡ i ∷ chain) ⊎ IsEndOf rest chain

abbrev pub behind_first : List ℕ → List ℕ
behind_first [] = []
behind_first (i ∷ chain) = chain

abbrev pub LeftSo : List ℕ → ℕ → Managed → Type 0
LeftSo rest n c = IsEndOf rest (behind_first c.pre_destroy.chain)

abbrev pub StartsSo : List ℕ → List Item → ℕ → Managed → Type 0
StartsSo chain h n c = ((chain ≡ c.pre_destroy.chain) × IsMark n h) ⊎ (IsEndOf chain (behind_first c.pre_destroy.chain) × IsProceed h)

-- what is left of the chain for a body
abbrev pub Within : Tables → List ℕ → World → Type 0
Within tables rest w = InFarewell tables (LeftSo rest) w.invocations w

-- the chain is begun right behind the mark, or what is left of it right behind a `did proceed`
abbrev pub CanStart : Tables → List ℕ → World → List Item → Type 0
CanStart tables chain w h = InFarewell tables (StartsSo chain h) w.invocations w

-- the place is that of the first member, which is begun so, or of a further one
abbrev pub AtMember : Tables → Place → List Code → World → List Item → Type 0
AtMember tables place [] w h = ⊥
AtMember tables place (m ∷ ms) w h = ((m.place ≡ place) × CanStart tables [] w h) ⊎ IsIn place (map (λ m. m.place) ms)

abbrev pub IsMemberAt : Tables → ℕ → Place → World → List Item → List Invocation → Type 0
IsMemberAt tables n place w h [] = ⊥
IsMemberAt tables n place w h (v ∷ vs) = (v.target ≡ n) × AtMember tables place v.members w h

-- an interceptor's instance, whose body has its place by the role of the invocation of its owner
pub record IsAttendant (tables : Tables) (m : ℕ) (place : Place) (w : World) (h : List Item) (v : Invocation) : Type 0 where
  pub index : ℕ
  pub interceptor : Interceptor
  pub known : tables.interceptor index ≡ Some interceptor
  pub rest : List ℕ
  pub starts : CanStart tables (index ∷ rest) w h
  pub stands : place ≡ places.Interceptor interceptor.name v.role
  pub core : Core
  pub there : core_at m w.instances ≡ Some core
  pub of : core.component ≡ components.Interceptor index
  pub owner : core.owner ≡ owners.Instance v.target
  pub target : Core
  pub lives : core_at v.target w.instances ≡ Some target

abbrev pub IsAttending : Tables → ℕ → Place → World → List Item → List Invocation → Type 0
IsAttending tables m place w h [] = ⊥
IsAttending tables m place w h (v ∷ vs) = IsAttendant tables m place w h v

-- where a body comes from
abbrev pub IsKnown : Tables → ℕ → Place → World → List Item → Type 0
IsKnown tables n place w h = IsOrdinary tables place ⊎ (IsMemberAt tables n place w h w.invocations ⊎ IsAttending tables n place w h w.invocations)

-- whoever has the number is the owner's
abbrev pub IsOwned : Owner → ℕ → World → Type 0
IsOwned owner m w = (m < w.next) × ((c : Core) → core_at m w.instances ≡ Some c → c.owner ≡ owner)

-- what a reference may be to
abbrev pub RefersTo : Owner → Reference → World → Type 0
RefersTo owner r w = (m : ℕ) → r ≡ Direct m → IsOwned owner m w

abbrev pub AllReferTo : Owner → List Reference → World → Type 0
AllReferTo owner rs w = (k m : ℕ) → slice_get rs k ≡ Some (Direct m) → IsOwned owner m w

-- what a body's locals refer to directly is its own instance's
abbrev pub OwnLocals : Body → World → Type 0
OwnLocals r w = (k m : ℕ) → at r.locals k ≡ Some (Direct m) → IsOwned (owners.Instance r.instance) m w

-- what a body has for its parameters is somebody's who may own it
abbrev pub Receives : Body → World → Type 0
Receives r w = AreParameters r.instance r.references w

-- what is left of the chain for a body, what it has looked up, and what it was given
abbrev pub IsLeft : Tables → Body → World → Type 0
IsLeft tables r w = Within tables r.rest w × (OwnLocals r w × Receives r w)

-- a body is under way
abbrev pub IsSet : Tables → Body → World → Type 0
IsSet tables r w = Anchored w r.instance × IsLeft tables r w

abbrev pub Ok : Tables → Asked
Ok tables (Running n place) w h = MayRun tables n place w h × (IsKnown tables n place w h × IsThere n w)
Ok tables (Changing (Change.Refer n field r)) w h = RefersTo (owners.Instance n) r w
Ok tables (Changing (Change.Enter i)) w h = MayEnter tables i.target i.members w × EntersSo tables i.target i.role i.members w h
Ok tables (Changing (Change.Leave n)) w h = OnStack w n → ⊥
Ok tables (Changing _) w h = Unit {0}

abbrev pub Pre : Tables → Task → World → List Item → Type 0
Pre tables (Task.Create b owner) w h = CanOwn w b owner × IsSuited tables b owner
Pre tables (Task.Intercept i n) w h = Anchored w n
Pre tables (Task.Body r) w h = (MayRun tables r.instance r.place w h × IsKnown tables r.instance r.place w h) × IsLeft tables r w
Pre tables (Task.Rest chain) w h = CanStart tables chain w h
Pre tables (Task.Acts r) w h = IsSet tables r w
Pre tables (Task.Destroy n) w h = IsIdle w n
Pre tables (Task.Release n) w h = (c : Core) × (core_at n w.instances ≡ Some c) × ((c.phase ≡ phases.New) ⊎ (c.phase ≡ phases.Leaving)) × IsFreeBelow w n
Pre tables (Task.Notify os x) w h = (o : Observer) → IsIn o os → IsOrdinary tables o.member.code.place
Pre tables Task.Dismiss w h = HasTop w.temporaries × ((d : ℕ) → IsTop d w.temporaries → Busy w d → ⊥)
Pre tables (Task.Clear x) w h = (b : ℕ) → OnStack w b → ⊥
Pre tables _ w h = Unit {0}

abbrev pub IsGiven : Completion Given → Type 0
IsGiven (Gave g) = Unit {0}
IsGiven (Threw x) = ⊥

abbrev pub IsNumbered : Given → World → Type 0
IsNumbered (Given.Number n) w = IsUsable n w
IsNumbered _ w = Unit {0}

abbrev pub AreNumbered : Completion Given → World → Type 0
AreNumbered (Gave g) w = IsNumbered g w
AreNumbered (Threw x) w = Unit {0}

-- it lives, and is ready and its
abbrev pub IsMadeFor : Owner → Given → World → Type 0
IsMadeFor owner (Given.Number n) w = (c : Core) × (core_at n w.instances ≡ Some c) × (c.owner ≡ owner) × (c.phase ≡ phases.Ready)
IsMadeFor owner _ w = Unit {0}

abbrev pub AreMadeFor : Owner → Completion Given → World → Type 0
AreMadeFor owner (Gave g) w = IsMadeFor owner g w
AreMadeFor owner (Threw x) w = Unit {0}

abbrev pub Post : Task → World → List Item → Completion Given → World → List Item → Type 0
Post (Task.Obtain b) w h c v k = Rel w v × AreNumbered c v
Post (Task.Create b owner) w h c v k = Rel w v × AreMadeFor owner c v
Post (Task.Intercept i n) w h c v k = Rel w v × Unit {0}
Post (Task.Rest chain) w h c v k = Rel w v × Unit {0}
Post (Task.Body r) w h c v k = Rel w v × Unit {0}
Post (Task.Acts r) w h c v k = Rel w v × Unit {0}
Post (Task.Destroy n) w h c v k = Rel w v × IsGiven c
Post (Task.Release n) w h c v k = Rel w v × IsGiven c × ((j : ℕ) → IsIn j (deps_at n v.instances) → ⊥)
Post (Task.Fire class qualifiers x) w h c v k = Rel w v × Unit {0}
Post (Task.Notify os x) w h c v k = Rel w v × Unit {0}
Post Task.Dismiss w h c v k = Rel w v × IsGiven c × TopEmpty v.temporaries
Post (Task.Clear x) w h c v k = Rel w v × IsGiven c × NoneHeld (context_at v.contexts x)

pub post_rel : (t : Task) (w v : World) (h k : List Item) (c : Completion Given) → Post t w h c v k → Rel w v
post_rel (Task.Obtain b) w v h k c p = p.0
post_rel (Task.Create b owner) w v h k c p = p.0
post_rel (Task.Intercept i n) w v h k c p = p.0
post_rel (Task.Rest chain) w v h k c p = p.0
post_rel (Task.Body r) w v h k c p = p.0
post_rel (Task.Acts r) w v h k c p = p.0
post_rel (Task.Destroy n) w v h k c p = p.0
post_rel (Task.Release n) w v h k c p = p.0
post_rel (Task.Fire class qualifiers x) w v h k c p = p.0
post_rel (Task.Notify os x) w v h k c p = p.0
post_rel Task.Dismiss w v h k c p = p.0
post_rel (Task.Clear x) w v h k c p = p.0

pub anchored_then : (w v : World) (n : ℕ) → Rel w v → Anchored w n → Anchored v n
anchored_then w v n r a = (a.0, r.stay n a.0 a.1 a.2, fixed_then w v n a.0 r a.2)

pub usable_enters : (tables : Tables) (n : ℕ) (members : List Code) (w : World) → IsUsable n w → MayEnter tables n members w
usable_enters tables n members w u c e l =
    let q : Some u.0 ≡ Some c = sym u.1 ∙ e in
    let y : u.0 ≡ c = cc in
    absurd (subst IsStaying (ap (λ (z : Core). z.phase) y ∙ l) u.2)

pub usable_runs : (tables : Tables) (n : ℕ) (place : Place) (w : World) (h : List Item) → IsUsable n w → MayRun tables n place w h
usable_runs tables n place w h u c e l =
    let q : Some u.0 ≡ Some c = sym u.1 ∙ e in
    let y : u.0 ≡ c = cc in
    absurd (subst IsStaying (ap (λ (z : Core). z.phase) y ∙ l) u.2)

pub new_usable : (w : World) (n : ℕ) → IsNewAt n w → IsUsable n w
new_usable w n a = (a.0, a.1, subst IsStaying (sym a.2) tt)

-- the one body of an invocation
pub one_ordinary : (tables : Tables) (role : InterceptorMethod) (m : Code) → (role ≡ roles.PreDestroy → ⊥) → IsOrdinary tables m.place → AreOrdinary tables role (m ∷ [])
one_ordinary tables role m f q = (f, λ k i. elim i [ inl e ↦ subst (λ (z : Code). IsOrdinary tables z.place) e q | inr z ↦ absurd z ])

-- ---- what is asked of the innermost invocation

pub in_farewell : (tables : Tables) (P : ℕ → Managed → Type 0) (vs : List Invocation) (w : World) (n : ℕ) (ts : List ℕ) → targets vs ≡ n ∷ ts → ((k : Core) (c : Managed) → core_at n w.instances ≡ Some k → k.phase ≡ phases.Leaving → IsClassOf tables k c → P n c) → InFarewell tables P vs w
in_farewell tables P [] w n ts e f = tt
in_farewell tables P (v ∷ vs) w n ts e f = λ k c q l i. (let y : v.target ≡ n = cc in subst (λ z. P z c) (sym y) (f k c (subst (λ z. core_at z w.instances ≡ Some k) y q) l i))

pub farewell_map : (tables : Tables) (P Q : ℕ → Managed → Type 0) (vs : List Invocation) (w : World) → ((n : ℕ) (c : Managed) → P n c → Q n c) → InFarewell tables P vs w → InFarewell tables Q vs w
farewell_map tables P Q [] w f p = tt
farewell_map tables P Q (v ∷ vs) w f p = λ k c e l i. f v.target c (p k c e l i)

-- what holds of it holds later
pub farewell_then : (tables : Tables) (P : ℕ → Managed → Type 0) (w v : World) → Rel w v → InFarewell tables P w.invocations w → InFarewell tables P v.invocations v
farewell_then tables P w v r p = by w.invocations v.invocations r.targets p
  where
    was : (n : ℕ) (k : Core) → core_at n v.instances ≡ Some k → k.phase ≡ phases.Leaving → core_at n w.instances ≡ Some k
    was n k e l = elim (lt_or n w.next) [
      | inl a ↦ r.old n k a e
      | inr a ↦ absurd (let y : phases.Leaving ≡ phases.Ready = sym l ∙ r.new n k a e in cc)
    ]

    by : (us vs : List Invocation) → targets vs ≡ targets us → InFarewell tables P us w → InFarewell tables P vs v
    by us [] e p = tt
    by [] (x ∷ vs) e p = absurd (cc)
    by (u ∷ us) (x ∷ vs) e p = λ k c q l i. (let y : x.target ≡ u.target = cc in subst (λ z. P z c) (sym y) (p k c (was u.target k (subst (λ z. core_at z v.instances ≡ Some k) y q) l) l i))

-- nothing is asked if the target stays
pub farewell_none : {R : List Invocation → List (ℕ × List Reference)} (tables : Tables) (P : ℕ → Managed → Type 0) (u w : World) (n : ℕ) (ts : List ℕ) → Along R u w → targets u.invocations ≡ n ∷ ts → IsUsable n u → InFarewell tables P w.invocations w
farewell_none tables P u w n ts r e l = in_farewell tables P w.invocations w n ts (r.targets ∙ e) (λ k c q p i. absurd (
    let y : Some l.0 ≡ Some k = sym (r.stay n l.0 l.1 (inr (inr (n, inr (subst (IsIn n) (sym e) (inl refl)), Chain.here)))) ∙ q in
    let z : l.0 ≡ k = cc in
    subst IsStaying (ap (λ (x : Core). x.phase) z ∙ p) l.2))

pub end_nil : (chain : List ℕ) → IsEndOf [] chain
end_nil [] = refl
end_nil (i ∷ chain) = inr (end_nil chain)

pub end_self : (chain : List ℕ) → IsEndOf chain chain
end_self [] = refl
end_self (i ∷ chain) = inl refl

-- what is behind the first of an end is one
pub end_behind : (i : ℕ) (rest chain : List ℕ) → IsEndOf (i ∷ rest) chain → IsEndOf rest chain
end_behind i rest [] e = absurd (cc)
end_behind i rest (j ∷ chain) (inl e) = let y : rest ≡ chain = cc in inr (subst (λ z. IsEndOf z chain) (sym y) (end_self chain))
end_behind i rest (j ∷ chain) (inr e) = inr (end_behind i rest chain e)

pub within_none : (tables : Tables) (w : World) → Within tables [] w
within_none tables w = by w.invocations
  where
    by : (vs : List Invocation) → InFarewell tables (LeftSo []) vs w
    by [] = tt
    by (v ∷ vs) = λ k c e l i. end_nil (behind_first c.pre_destroy.chain)

-- what is left for the first body of a chain
pub within_first : (tables : Tables) (i : ℕ) (chain : List ℕ) (w : World) (h : List Item) → CanStart tables (i ∷ chain) w h → Within tables chain w
within_first tables i chain w h s = farewell_map tables (StartsSo (i ∷ chain) h) (LeftSo chain) w.invocations w (λ n c q. elim q [
  | inl z ↦ subst (λ l. IsEndOf chain (behind_first l)) z.0 (end_self chain)
  | inr z ↦ end_behind i chain (behind_first c.pre_destroy.chain) z.0
]) s

pub owned_then : (owner : Owner) (m : ℕ) (w v : World) → Rel w v → IsOwned owner m w → IsOwned owner m v
owned_then owner m w v r o = ((let l = r.next in let k = o.0 in omega arith), λ c e. o.1 c (r.old m c o.0 e))

pub locals_then : (r : Body) (w v : World) → Rel w v → OwnLocals r w → OwnLocals r v
locals_then r w v q f k m e = owned_then (owners.Instance r.instance) m w v q (f k m e)

pub set_then : (tables : Tables) (r : Body) (w v : World) → Rel w v → IsSet tables r w → IsSet tables r v
set_then tables r w v q s = (anchored_then w v r.instance q s.0, (farewell_then tables (LeftSo r.rest) w v q s.1.0, (locals_then r w v q s.1.1.0, parameters_then w v r.instance r.references q s.1.1.1)))

-- no destruction's chain is begun where the target stays
pub none_start : {R : List Invocation → List (ℕ × List Reference)} (tables : Tables) (chain : List ℕ) (u w : World) (h : List Item) (n : ℕ) (ts : List ℕ) → Along R u w → targets u.invocations ≡ n ∷ ts → IsUsable n u → CanStart tables chain w h
none_start tables chain u w h n ts r e l = farewell_none tables (StartsSo chain h) u w n ts r e l

pub usable_same : (w u : World) (n : ℕ) → u.instances ≡ w.instances → IsUsable n w → IsUsable n u
usable_same w u n i l = (l.0, subst (λ z. core_at n z ≡ Some l.0) (sym i) l.1, l.2)

-- a core is of one class
pub one_class : (tables : Tables) (k : Core) (b : ℕ) (x : Bean) (c d : Managed) → k.component ≡ components.Bean b → tables.bean b ≡ Some x → x.kind ≡ Kind.Class c → IsClassOf tables k d → c ≡ d
one_class tables k b x c d e f y i =
    let z : components.Bean b ≡ components.Bean i.index = sym e ∙ i.is in
    let u : b ≡ i.index = cc in
    let v : Some x ≡ Some i.bean = sym f ∙ subst (λ j. tables.bean j ≡ Some i.bean) (sym u) i.known in
    let q : x ≡ i.bean = cc in
    let r : Kind.Class c ≡ Kind.Class d = sym y ∙ (ap (λ (z : Bean). z.kind) q ∙ i.kind) in
    cc

pub farewell_same : (tables : Tables) (P : ℕ → Managed → Type 0) (vs : List Invocation) (w u : World) → u.instances ≡ w.instances → InFarewell tables P vs w → InFarewell tables P vs u
farewell_same tables P [] w u i p = tt
farewell_same tables P (v ∷ vs) w u i p = λ k c e l j. p k c (subst (λ z. core_at v.target z ≡ Some k) i e) l j
