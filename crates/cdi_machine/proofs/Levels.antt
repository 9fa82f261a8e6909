-- Each task leaves as many invocations, bodies and lists of temporaries as it found.
use Rattle.std.proofs.Common.{ℕ, zero, suc, ◌≡◌, List, [], ◌∷◌, length, refl, sym, ap, subst, arith, Option, Some, None}
use Rattle.std.specs.Prelude.{map}
use Rattle.cdi_base.specs.declared.act.Act.{Act}
use Rattle.cdi_base.specs.declared.reply.Cause.{Cause}
use Rattle.cdi_store.specs.declared.instance.Component.{Component}
use Rattle.cdi_store.specs.declared.instance.Owner.{Owner}
use Rattle.cdi_store.specs.declared.instance.Owner.TheVariants as owners
use Rattle.cdi_store.specs.declared.instance.Instance.{Instance}
use Rattle.cdi_store.specs.Live.{all_but}
use Rattle.cdi_machine.specs.Words.{Name}
use Rattle.cdi_machine.specs.Tables.{Tables, written_act}
use Rattle.cdi_machine.specs.World.{World, Change, after_change, instance_at, for_instance, with_making, with_owned, without_owned, without_making, on_top, below}
use Rattle.cdi_machine.specs.Programs.{Task, Given, Completion, Prog, ret, throw, cut, miss, see, change, tick, mark, act, choose, nested, handle}
use Rattle.cdi_machine.specs.Machine.{machine}
use Rattle.cdi_machine.specs.Runs.{Legal, Ends as Completes, Cut, Runs}

pub record Height : Type 0 where
  pub invocations : ℕ
  pub bodies : ℕ
  pub temporaries : ℕ

abbrev pub height : World → Height
height w = record { invocations = length w.invocations; bodies = length w.bodies; temporaries = length w.temporaries }

abbrev pub less : ℕ → ℕ
less zero = zero
less (suc n) = n

abbrev pub shift : Change → Height → Height
shift (Change.Enter i) h = record h { invocations = suc h.invocations }
shift Change.Exit h = record h { invocations = less h.invocations }
shift (Change.Start n) h = record h { bodies = suc h.bodies }
shift Change.Stop h = record h { bodies = less h.bodies }
shift Change.Borrow h = record h { temporaries = suc h.temporaries }
shift Change.Return h = record h { temporaries = less h.temporaries }
shift _ h = h

-- the program ends at the one height, begun at the other
abbrev pub Steady : {A : Type 0} → Height → Height → Prog A → Type 0
Steady e h (ret a) = h ≡ e
Steady e h (throw x) = h ≡ e
Steady e h (cut cause) = Unit {0}
Steady e h (miss p) = Steady e h p
Steady e h (see k) = (t : Tables) (w : World) → Steady e h (k t w)
Steady e h (change g p) = Steady e (shift g h) p
Steady e h (tick x p) = Steady e h p
Steady e h (mark n p) = Steady e h p
Steady e h (act b fields view k) = (a : Act) → Steady e h (k a)
Steady e h (choose n k) = (i : ℕ) → Steady e h (k i)
Steady e h (nested t k) = (c : Completion Given) → Steady e h (k c)

pub steady : {A B : Type 0} (m e h : Height) (p : Prog A) (f : A → Prog B) (g : Name → Prog B) → Steady m h p → ((a : A) → Steady e m (f a)) → ((x : Name) → Steady e m (g x)) → Steady e h (handle p f g)
steady m e h (ret a) f g q qf qg = subst (λ z. Steady e z (f a)) (sym q) (qf a)
steady m e h (throw x) f g q qf qg = subst (λ z. Steady e z (g x)) (sym q) (qg x)
steady m e h (cut cause) f g q qf qg = tt
steady m e h (miss p) f g q qf qg = steady m e h p f g q qf qg
steady m e h (see k) f g q qf qg = λ t w. steady m e h (k t w) f g (q t w) qf qg
steady m e h (change x p) f g q qf qg = steady m e (shift x h) p f g q qf qg
steady m e h (tick x p) f g q qf qg = steady m e h p f g q qf qg
steady m e h (mark n p) f g q qf qg = steady m e h p f g q qf qg
steady m e h (act b fields view k) f g q qf qg = λ a. steady m e h (k a) f g (q a) qf qg
steady m e h (choose n k) f g q qf qg = λ i. steady m e h (k i) f g (q i) qf qg
steady m e h (nested t k) f g q qf qg = λ c. steady m e h (k c) f g (q c) qf qg

-- ---- a change shifts the height

record Same (w v : World) : Type 0 where
  pub invocations : length v.invocations ≡ length w.invocations
  pub bodies : length v.bodies ≡ length w.bodies
  pub temporaries : length v.temporaries ≡ length w.temporaries

top_length : {X : Type 0} (f : X → X) (xs : List X) → length (on_top f xs) ≡ length xs
top_length f [] = refl
top_length f (x ∷ xs) = refl

map_length : {X Y : Type 0} (f : X → Y) (xs : List X) → length (map f xs) ≡ length xs
map_length f [] = refl
map_length f (x ∷ xs) = let h = map_length f xs in omega arith

below_length : {X : Type 0} (xs : List X) → length (below xs) ≡ less (length xs)
below_length [] = refl
below_length (x ∷ xs) = refl

making_same : (component : Component) (owner : Owner) (w : World) → height (with_making component owner w) ≡ height w
making_same component (owners.Context c) w = refl
making_same component (owners.Instance m) w = refl
making_same component owners.Borrower w = refl

owned_same : (n : ℕ) (component : Component) (owner : Owner) (w : World) → height (with_owned n component owner w) ≡ height w
owned_same n component (owners.Context c) w = refl
owned_same n component (owners.Instance m) w = refl
owned_same n component owners.Borrower w = ap (λ t. record { invocations = length w.invocations; bodies = length w.bodies; temporaries = t }) (top_length _ w.temporaries)

left_same : (n : ℕ) (component : Component) (owner : Owner) (w : World) → height (without_owned n component owner w) ≡ height w
left_same n component (owners.Context c) w = refl
left_same n component (owners.Instance m) w = refl
left_same n component owners.Borrower w = ap (λ t. record { invocations = length w.invocations; bodies = length w.bodies; temporaries = t }) (map_length (all_but n) w.temporaries)

failed_same : (component : Component) (owner : Owner) (w : World) → height (without_making component owner w) ≡ height w
failed_same component (owners.Context c) w = refl
failed_same component (owners.Instance m) w = refl
failed_same component owners.Borrower w = refl

for_same : (w : World) (o : Option Instance) (f : Instance → World) → ((x : Instance) → height (f x) ≡ height w) → height (for_instance w o f) ≡ height w
for_same w None f h = refl
for_same w (Some x) f h = h x

pub shifted : (g : Change) (w : World) → height (after_change g w) ≡ shift g (height w)
shifted (Change.Make component owner fields) w = making_same component owner _
shifted (Change.Settle n) w = for_same w (instance_at w n) _ λ o. owned_same n o.component o.owner _
shifted (Change.Discard n) w = for_same w (instance_at w n) _ λ o. failed_same o.component o.owner _
shifted (Change.Leave n) w = for_same w (instance_at w n) _ λ o. left_same n o.component o.owner _
shifted (Change.Remove n) w = refl
shifted (Change.Assign n field v) w = refl
shifted (Change.Refer n field r) w = refl
shifted (Change.Hold n v) w = refl
shifted (Change.BeginRequest name session) w = refl
shifted (Change.BeginSession name) w = refl
shifted (Change.Finish c) w = refl
shifted (Change.Close c) w = refl
shifted (Change.Mark s) w = refl
shifted (Change.Stand e) w = refl
shifted (Change.Enter i) w = refl
shifted (Change.Provide rs) w = ap (λ i. record { invocations = i; bodies = length w.bodies; temporaries = length w.temporaries }) (top_length _ w.invocations)
shifted (Change.Replace vs) w = ap (λ i. record { invocations = i; bodies = length w.bodies; temporaries = length w.temporaries }) (top_length _ w.invocations)
shifted (Change.Keep key v) w = ap (λ i. record { invocations = i; bodies = length w.bodies; temporaries = length w.temporaries }) (top_length _ w.invocations)
shifted Change.Reach w = ap (λ i. record { invocations = i; bodies = length w.bodies; temporaries = length w.temporaries }) (top_length _ w.invocations)
shifted Change.Exit w = ap (λ i. record { invocations = i; bodies = length w.bodies; temporaries = length w.temporaries }) (below_length w.invocations)
shifted (Change.Start n) w = refl
shifted Change.Stop w = ap (λ b. record { invocations = length w.invocations; bodies = b; temporaries = length w.temporaries }) (below_length w.bodies)
shifted Change.Borrow w = refl
shifted Change.Return w = ap (λ t. record { invocations = length w.invocations; bodies = length w.bodies; temporaries = t }) (below_length w.temporaries)
shifted Change.Down w = refl

abbrev pub TasksLevel : Type 0
TasksLevel = (t : Task) (h : Height) → Steady h h (machine t)

module _ (tables : Tables) (legal : Legal) (tasks : TasksLevel) where
  pub ends_at : {p : Prog Given} {w v : World} {c : Completion Given} (e : Height) → Runs tables legal ⊥ p w (Completes c) v → Steady e (height w) p → height v ≡ e
  ends_at e Runs.returns q = q
  ends_at e Runs.throws q = q
  ends_at e (Runs.misses r) q = ends_at e r q
  ends_at {w = w} e (Runs.sees r) q = ends_at e r (q tables w)
  ends_at {w = w} e (Runs.changes {g = g} {p = p} r) q = ends_at e r (subst (λ z. Steady e z p) (sym (shifted g w)) q)
  ends_at e (Runs.writes h r) q = ends_at e r q
  ends_at e (Runs.marks r) q = ends_at e r q
  ends_at e (Runs.does a h r) q = ends_at e r (q (written_act tables a))
  ends_at e (Runs.picks i l c r) q = ends_at e r (q i)
  ends_at {w = w} e (Runs.calls {t = t} {k = k} {u = u} {o1 = Completes d} r1 r) q =
      let a : height u ≡ height w = ends_at (height w) r1 (tasks t (height w)) in
      ends_at e r (subst (λ z. Steady e z (k d)) (sym a) (q d))
  ends_at e (Runs.calls {o1 = Cut cause} r1 r) q = cut_ends r
    where
      cut_ends : {cause : Cause} {u v : World} {c : Completion Given} → Runs tables legal ⊥ (cut cause) u (Completes c) v → height v ≡ e
      cut_ends r = elim r [ ]
