-- The instances in the slots of a map's numbers, and what a change of one slot is to them.
use Rattle.std.proofs.Common.{◌≡◌, ◌≢◌, ℕ, ◌+◌, ◌<◌, ◌^◌, ◌==◌, Bool, true, false, [], ◌∷◌, ◌++◌, cond, length, map, Option, Some, None, IsSome, is_some, not, inl, inr, refl, sym, ap, ◌∙◌, arith}
use Rattle.std.specs.Option.{option_map}
use Rattle.slab.specs.Slab.{Slab, get, Updates, SameValues}
use Rattle.std.specs.List.{AllByRecursion}
use Rattle.std.proofs.lemmas.Map.Views.{exact_unsigned_eq}
use Rattle.cdi_base.specs.Maps.{Map, at, adjusted, without}
use Rattle.cdi_store.specs.declared.instance.Instance.{Instance}
use Rattle.cdi_store.specs.declared.key.Key.{Key}
use Rattle.cdi_store.specs.Live.{Instances, Kept, is_slot, is_live}
use Rattle.cdi_store.specs.Slots.{Slots, slot_at, preceded, instances_in, kept_in, AreApart, AreOccupied, IsSound, Changes}
use Rattle.cdi_store.proofs.Numbers.{equal_or_not, All-at, All-weaker, All-both, All-last, All-without, rising-last, apart-last, rising-without, apart-without, slot-without}

-- ---- what lies in the slots

-- the instance in a slot, if there is a slot
abbrev pub lying : Slots → Option ℕ → Option Instance
lying slots None = None
lying slots (Some slot) = slot_at slots slot

at-preceded : (n m : ℕ) (o : Option Instance) (live : Instances) → IsSome o → at (preceded m o live) n ≡ cond (n == m) o (at live n)
at-preceded n m None live h = absurd (cc)
at-preceded n m (Some x) live h = refl

lying-cond : (slots : Slots) (b : Bool) (slot : ℕ) (o : Option ℕ) → cond b (slot_at slots slot) (lying slots o) ≡ lying slots (cond b (Some slot) o)
lying-cond slots true slot o = refl
lying-cond slots false slot o = refl

pub at-instances_in : (slots : Slots) (m : Map ℕ) (n : ℕ) → AreOccupied slots m → at (instances_in slots m) n ≡ lying slots (at m n)
at-instances_in slots [] n h = refl
at-instances_in slots (p ∷ more) n h =
    at-preceded n p.0 (slot_at slots p.1) (instances_in slots more) h.0
    ∙ ap (cond (n == p.0) (slot_at slots p.1)) (at-instances_in slots more n h.1)
    ∙ lying-cond slots (n == p.0) p.1 (at more n)

lying-some : (slots : Slots) (m : Map ℕ) (n : ℕ) → AreOccupied slots m → (o : Option ℕ) → at m n ≡ o → is_some o ≡ is_some (lying slots o)
lying-some slots m n h None e = refl
lying-some slots m n h (Some slot) e = sym (All-at (λ p. IsSome (slot_at slots p.1)) m n slot h e)

-- a number has an instance exactly if it has a slot
pub is_some-instances_in : (slots : Slots) (m : Map ℕ) (n : ℕ) → AreOccupied slots m → is_some (at m n) ≡ is_some (at (instances_in slots m) n)
is_some-instances_in slots m n h = lying-some slots m n h (at m n) refl ∙ ap is_some (sym (at-instances_in slots m n h))

length-preceded : (n : ℕ) (o : Option Instance) (live : Instances) → IsSome o → length (preceded n o live) ≡ length live + 1
length-preceded n None live h = absurd (cc)
length-preceded n (Some x) live h = omega arith

pub length-instances_in : (slots : Slots) (m : Map ℕ) → AreOccupied slots m → length (instances_in slots m) ≡ length m
length-instances_in slots [] h = refl
length-instances_in slots (p ∷ more) h =
    omega (arith, length-preceded p.0 (slot_at slots p.1) (instances_in slots more) h.0, length-instances_in slots more h.1)

numbers-preceded : (n : ℕ) (o : Option Instance) (live : Instances) → IsSome o → map (λ p. p.0) (preceded n o live) ≡ n ∷ map (λ p. p.0) live
numbers-preceded n None live h = absurd (cc)
numbers-preceded n (Some x) live h = refl

pub numbers-instances_in : (slots : Slots) (m : Map ℕ) → AreOccupied slots m → map (λ p. p.0) (instances_in slots m) ≡ map (λ p. p.0) m
numbers-instances_in slots [] h = refl
numbers-instances_in slots (p ∷ more) h =
    numbers-preceded p.0 (slot_at slots p.1) (instances_in slots more) h.0 ∙ ap (λ r. p.0 ∷ r) (numbers-instances_in slots more h.1)

-- ---- live keys

slot_of : (o : Option ℕ) (slot : ℕ) → is_slot o slot ≡ true → o ≡ Some slot
slot_of None slot h = absurd (cc)
slot_of (Some s) slot h = ap (λ n. Some n) (exact_unsigned_eq s slot h)

-- the number of a live key has its slot
pub slot_of_live : (slots : Slots) (m : Map ℕ) (next : ℕ) (key : Key) (s : Kept) → kept_in slots m next ≡ s → true ≡ is_live s key → at m key.number ≡ Some key.slot
slot_of_live slots m next key s view h = slot_of (at m key.number) key.slot (ap (λ k. is_live k key) view ∙ sym h)

-- and an instance in it
pub occupied_at : (slots : Slots) (m : Map ℕ) (n slot : ℕ) → AreOccupied slots m → at m n ≡ Some slot → IsSome (slot_at slots slot)
occupied_at slots m n slot h e = All-at (λ p. IsSome (slot_at slots p.1)) m n slot h e

pub at-kept : (slots : Slots) (m : Map ℕ) (n slot next : ℕ) (s : Kept) → kept_in slots m next ≡ s → AreOccupied slots m → at m n ≡ Some slot → at s.instances n ≡ slot_at slots slot
at-kept slots m n slot next s view h e = ap (λ k. at k.instances n) (sym view) ∙ at-instances_in slots m n h ∙ ap (lying slots) e

pub instance_at : (slots : Slots) (m : Map ℕ) (n slot next : ℕ) (o : Instance) (s : Kept) → kept_in slots m next ≡ s → AreOccupied slots m → at m n ≡ Some slot → slot_at slots slot ≡ Some o → at s.instances n ≡ Some o
instance_at slots m n slot next o s view h e is =
    at-kept slots m n slot next s view h e ∙ is

-- ---- slots that stay

abbrev pub Others : Slots → Slots → ℕ → Type 0
Others old new slot = (other : ℕ) → other ≢ slot → slot_at new other ≡ slot_at old other

instances_in-others : (old new : Slots) (m : Map ℕ) (slot : ℕ) → Others old new slot → AllByRecursion (λ p. p.1 ≢ slot) m → instances_in new m ≡ instances_in old m
instances_in-others old new [] slot stay h = refl
instances_in-others old new (p ∷ more) slot stay h =
    rw (stay p.1 h.0) (ap (preceded p.0 (slot_at old p.1)) (instances_in-others old new more slot stay h.1))

occupied-others : (old new : Slots) (m : Map ℕ) (slot : ℕ) → Others old new slot → AllByRecursion (λ p. p.1 ≢ slot) m → AreOccupied old m → AreOccupied new m
occupied-others old new m slot stay apart h =
    All-both (λ p. p.1 ≢ slot) (λ p. IsSome (slot_at old p.1)) (λ p. IsSome (slot_at new p.1)) m (λ p a o. rw (stay p.1 a) o) apart h

-- ---- a slot whose instance changes

adjusted-preceded : (f : Instance → Instance) (n m : ℕ) (o : Option Instance) (live : Instances) → IsSome o → (n == m) ≡ true → preceded m (option_map f o) live ≡ adjusted n f (preceded m o live)
adjusted-preceded f n m None live h e = absurd (cc)
adjusted-preceded f n m (Some x) live h e = rw e refl

adjusted-after : (f : Instance → Instance) (n m : ℕ) (o : Option Instance) (live : Instances) → (n == m) ≡ false → preceded m o (adjusted n f live) ≡ adjusted n f (preceded m o live)
adjusted-after f n m None live e = refl
adjusted-after f n m (Some x) live e = rw e refl

pub instances_in-changed : (f : Instance → Instance) (old new : Slots) (m : Map ℕ) (n slot : ℕ) → slot_at new slot ≡ option_map f (slot_at old slot) → Others old new slot → AreOccupied old m → AreApart m → at m n ≡ Some slot → instances_in new m ≡ adjusted n f (instances_in old m)
instances_in-changed f old new [] n slot changed stay h apart e = refl
instances_in-changed f old new (p ∷ more) n slot changed stay h apart e = elim (equal_or_not n p.0) [
  | inl s ↦
      let t : Some p.1 ≡ Some slot = rw s.0 at e in
      let u : p.1 ≡ slot = cc in
      let here : slot_at new p.1 ≡ option_map f (slot_at old p.1) = rw u changed in
      let later : AllByRecursion (λ q. q.1 ≢ slot) more = rw (← u) apart.0 in
      rw (here, instances_in-others old new more slot stay later) (adjusted-preceded f n p.0 (slot_at old p.1) (instances_in old more) h.0 s.0)
  | inr s ↦
      let t : at more n ≡ Some slot = rw s.0 at e in
      let differs : p.1 ≢ slot = λ u. All-at (λ q. q.1 ≢ p.1) more n slot apart.0 t (sym u) in
      rw (stay p.1 differs, instances_in-changed f old new more n slot changed stay h.1 apart.1 t) (adjusted-after f n p.0 (slot_at old p.1) (instances_in old more) s.0)
]

some_mapped : (f : Instance → Instance) (o : Option Instance) → IsSome o → IsSome (option_map f o)
some_mapped f None h = h
some_mapped f (Some x) h = refl

pub occupied-changed : (f : Instance → Instance) (old new : Slots) (m : Map ℕ) (slot : ℕ) → slot_at new slot ≡ option_map f (slot_at old slot) → Others old new slot → AreOccupied old m → AreOccupied new m
occupied-changed f old new m slot changed stay h =
    All-weaker (λ p. IsSome (slot_at old p.1)) (λ p. IsSome (slot_at new p.1)) m
    (λ p o. elim (equal_or_not p.1 slot) [
      | inl s ↦ rw (s.1, changed) (some_mapped f (slot_at old slot) (rw s.1 at o))
      | inr s ↦ rw (stay p.1 s.1) o
    ]) h

-- what contracts see, where the instance of a live number changes
pub kept-changed : (f : Instance → Instance) (old new : Slab Instance) (m : Map ℕ) (n slot next : ℕ) (s : Kept) → kept_in old.slots m next ≡ s → IsSound old.slots m next → at m n ≡ Some slot → Changes old new slot f → kept_in new.slots m next ≡ record s { instances = adjusted n f s.instances }
kept-changed f old new m n slot next s view sound e changes =
    rw (instances_in-changed f old.slots new.slots m n slot changes.changed changes.others sound.occupied sound.apart e) (ap (λ k. let is : Kept = record k { instances = adjusted n f k.instances } in is) view)

sound-by : (old new : Slots) (m : Map ℕ) (next : ℕ) → IsSound old m next → AreOccupied new m → IsSound new m next
sound-by old new m next s h = record { rising = s.rising; below = s.below; from_one = s.from_one; apart = s.apart; occupied = h; positive = s.positive; most = s.most }

pub sound-changed : (f : Instance → Instance) (old new : Slab Instance) (m : Map ℕ) (slot next : ℕ) → Changes old new slot f → IsSound old.slots m next → IsSound new.slots m next
sound-changed f old new m slot next changes s =
    sound-by old.slots new.slots m next s (occupied-changed f old.slots new.slots m slot changes.changed changes.others s.occupied)

-- ---- slots that all stay

pub instances_in-same : (old new : Slab Instance) (m : Map ℕ) → SameValues old new → instances_in new.slots m ≡ instances_in old.slots m
instances_in-same old new [] same = refl
instances_in-same old new (p ∷ more) same =
    rw (same p.1) (ap (preceded p.0 (slot_at old.slots p.1)) (instances_in-same old new more same))

pub kept-same : (old new : Slab Instance) (m : Map ℕ) (next : ℕ) (s : Kept) → kept_in old.slots m next ≡ s → SameValues old new → kept_in new.slots m next ≡ s
kept-same old new m next s view same = rw (instances_in-same old new m same) view

pub sound-same : (old new : Slab Instance) (m : Map ℕ) (next : ℕ) → SameValues old new → IsSound old.slots m next → IsSound new.slots m next
sound-same old new m next same s =
    sound-by old.slots new.slots m next s (All-weaker (λ p. IsSome (slot_at old.slots p.1)) (λ p. IsSome (slot_at new.slots p.1)) m (λ p o. rw (same p.1) o) s.occupied)

-- ---- a slot that is taken

append-preceded : (n : ℕ) (o : Option Instance) (live more : Instances) → preceded n o live ++ more ≡ preceded n o (live ++ more)
append-preceded n None live more = refl
append-preceded n (Some x) live more = refl

instances_in-append : (slots : Slots) (m more : Map ℕ) → instances_in slots (m ++ more) ≡ instances_in slots m ++ instances_in slots more
instances_in-append slots [] more = refl
instances_in-append slots (p ∷ m) more =
    ap (preceded p.0 (slot_at slots p.1)) (instances_in-append slots m more) ∙ sym (append-preceded p.0 (slot_at slots p.1) (instances_in slots m) (instances_in slots more))

vacant-others : (slots : Slots) (m : Map ℕ) (slot : ℕ) → slot_at slots slot ≡ None → AreOccupied slots m → AllByRecursion (λ p. p.1 ≢ slot) m
vacant-others slots m slot vacant h =
    All-weaker (λ p. IsSome (slot_at slots p.1)) (λ p. p.1 ≢ slot) m (λ p o u. let none : slot_at slots p.1 ≡ None = rw u vacant in let both : IsSome {T = Instance} None = rw none at o in absurd (cc)) h

pub instances_in-taken : (old new : Slots) (m : Map ℕ) (n slot : ℕ) (o : Instance) → slot_at old slot ≡ None → slot_at new slot ≡ Some o → Others old new slot → AreOccupied old m → instances_in new (m ++ (n, slot) ∷ []) ≡ instances_in old m ++ (n, o) ∷ []
instances_in-taken old new m n slot o vacant taken stay h =
    instances_in-append new m ((n, slot) ∷ [])
    ∙ rw (taken, instances_in-others old new m slot stay (vacant-others old m slot vacant h)) refl

pub sound-taken : (old new : Slots) (m : Map ℕ) (n slot : ℕ) (o : Instance) → slot_at old slot ≡ None → slot_at new slot ≡ Some o → Others old new slot → n < 2 ^ 32 → IsSound old m n → IsSound new (m ++ (n, slot) ∷ []) (n + 1)
sound-taken old new m n slot o vacant taken stay left s =
    let apart = vacant-others old m slot vacant s.occupied in
    record {
      rising = rising-last m n slot s.below s.rising;
      below = All-last (λ p. p.0 < n + 1) m (n, slot) (All-weaker (λ p. p.0 < n) (λ p. p.0 < n + 1) m (λ p b. omega arith) s.below) (omega arith);
      from_one = All-last (λ p. 0 < p.0) m (n, slot) s.from_one s.positive;
      apart = apart-last m n slot apart s.apart;
      occupied = All-last (λ p. IsSome (slot_at new p.1)) m (n, slot) (occupied-others old new m slot stay apart s.occupied) (rw taken refl);
      positive = omega arith;
      most = omega arith;
    }

-- a number and a slot are taken
pub record Taking (old new : Slots) (m m' : Map ℕ) (n slot : ℕ) (o : Instance) : Type 0 where
  pub entries : m' ≡ m ++ (n, slot) ∷ []
  pub vacant : slot_at old slot ≡ None
  pub taken : slot_at new slot ≡ Some o
  pub others : Others old new slot

pub taking : (old between new : Slab Instance) (m m' : Map ℕ) (number n key slot : ℕ) (o : Instance) → between.slots ≡ old.slots → m' ≡ m ++ (number, key) ∷ [] → number ≡ n → key ≡ slot → get between slot ≡ None → Updates between new slot (Some o) → Taking old.slots new.slots m m' n slot o
taking old between new m m' number n key slot o same put number-is key-is vacant updates = record {
  entries = put ∙ rw (number-is, key-is) refl;
  vacant = sym (ap (λ s. slot_at s slot) same) ∙ vacant;
  taken = updates.changed;
  others = λ other differs. updates.others other differs ∙ ap (λ s. slot_at s other) same;
}

-- ---- a slot that is left

without-preceded : (n m : ℕ) (o : Option Instance) (live : Instances) (b : Bool) → (n == m) ≡ b → without n (preceded m o live) ≡ cond (not b) (preceded m o (without n live)) (without n live)
without-preceded n m None live true e = refl
without-preceded n m None live false e = refl
without-preceded n m (Some x) live true e = rw e refl
without-preceded n m (Some x) live false e = rw e refl

instances_in-cond : (slots : Slots) (b : Bool) (p : ℕ × ℕ) (m : Map ℕ) → cond b (preceded p.0 (slot_at slots p.1) (instances_in slots m)) (instances_in slots m) ≡ instances_in slots (cond b (p ∷ m) m)
instances_in-cond slots true p m = refl
instances_in-cond slots false p m = refl

without-instances_in : (slots : Slots) (m : Map ℕ) (n : ℕ) → without n (instances_in slots m) ≡ instances_in slots (without n m)
without-instances_in slots [] n = refl
without-instances_in slots (p ∷ more) n =
    without-preceded n p.0 (slot_at slots p.1) (instances_in slots more) (n == p.0) refl
    ∙ rw (without-instances_in slots more n) (instances_in-cond slots (not (n == p.0)) p (without n more))

pub instances_in-left : (old new : Slots) (m : Map ℕ) (n slot : ℕ) → Others old new slot → AreApart m → at m n ≡ Some slot → instances_in new (without n m) ≡ without n (instances_in old m)
instances_in-left old new m n slot stay apart e =
    instances_in-others old new (without n m) slot stay (slot-without m n slot apart e) ∙ sym (without-instances_in old m n)

pub sound-left : (old new : Slots) (m : Map ℕ) (n slot next : ℕ) → Others old new slot → at m n ≡ Some slot → IsSound old m next → IsSound new (without n m) next
sound-left old new m n slot next stay e s = record {
  rising = rising-without m n s.rising;
  below = All-without (λ p. p.0 < next) m n s.below;
  from_one = All-without (λ p. 0 < p.0) m n s.from_one;
  apart = apart-without m n s.apart;
  occupied = occupied-others old new (without n m) slot stay (slot-without m n slot s.apart e) (All-without (λ p. IsSome (slot_at old p.1)) m n s.occupied);
  positive = s.positive;
  most = s.most;
}
