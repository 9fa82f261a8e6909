-- What is true of every store, and what contracts see of it, through its changes.
use Rattle.std.proofs.Common.{◌≡◌, ℕ, ◌+◌, ◌<◌, ◌≤◌, ◌^◌, ◌∷◌, [], List, Option, Some, None, IfSome, IsSome, IsTrue, inl, inr, refl, sym, ap, ◌∙◌, arith}
use Rattle.std.specs.Option.{option_map}
use Rattle.slab.specs.Slab.{Slab, SameValues}
use Rattle.cdi_base.specs.Maps.{Map, at, adjusted, without}
use Rattle.cdi_base.specs.declared.value.Value.{Value}
use Rattle.cdi_store.specs.declared.instance.Component.{Component}
use Rattle.cdi_store.specs.declared.instance.Owner.{Owner}
use Rattle.cdi_store.specs.declared.instance.Owner.TheVariants as owners
use Rattle.cdi_store.specs.declared.instance.Instance.{Instance}
use Rattle.cdi_store.specs.declared.key.Key.{Key}
use Rattle.cdi_store.specs.Live.{Kept, is_live, all_but, newborn, without_dependent, for_owner, with_owner, owner_at}
use Rattle.cdi_store.specs.Slots.{Slots, slot_at, instances_in, kept_in, AreBelow, IsSound, IsKept, Changes, ChangesAt}
use Rattle.cdi_store.proofs.Numbers.{equal_or_not, All-at}
use Rattle.cdi_store.proofs.Owners.{taken_from, leaves-taken}
use Rattle.cdi_store.proofs.Owned.{put_last, relisted, owned_now, owned-same, owned-joined, owned-taken, owned-released, owned-adopted, owned-born, owned-gone, owned-none}
use Rattle.cdi_store.proofs.Slots.{Others, Taking, lying, at-instances_in, slot_of_live, occupied_at, instances_in-changed, instances_in-same, instances_in-taken, instances_in-left, sound-changed, sound-same, sound-taken, sound-left}

-- ---- no instance

pub begun-kept : (slots : Slots) (m : Map ℕ) (next : ℕ) → m ≡ [] → 0 < next → next ≤ 2 ^ 32 → IsKept slots m next
begun-kept slots m next none positive most = rw none (record {
  sound = record { rising = tt; below = tt; from_one = tt; apart = tt; occupied = tt; positive = positive; most = most };
  owned = owned-none next;
})

-- ---- a change that leaves lists and owners

pub still-kept : (f : Instance → Instance) (old new : Slab Instance) (m : Map ℕ) (n slot next : ℕ) → ((o : Instance) → (f o).dependents ≡ o.dependents) → ((o : Instance) → (f o).owner ≡ o.owner) → Changes old new slot f → at m n ≡ Some slot → IsKept old.slots m next → IsKept new.slots m next
still-kept f old new m n slot next list owner changes e k = record {
  sound = sound-changed f old new m slot next changes k.sound;
  owned = rw (instances_in-changed f old.slots new.slots m n slot changes.changed changes.others k.sound.occupied k.sound.apart e) (owned-same (instances_in old.slots m) next n f list owner k.owned);
}

-- ---- who has a slot

below-next : (slots : Slots) (m : Map ℕ) (n slot next : ℕ) → IsSound slots m next → at m n ≡ Some slot → (0 < n) × (n < next)
below-next slots m n slot next s e =
    (All-at (λ p. 0 < p.0) m n slot s.from_one e, All-at (λ p. p.0 < next) m n slot s.below e)

some-is : (o : Option Instance) → IsSome o → (x : Instance) × (o ≡ Some x)
some-is None h = absurd (cc)
some-is (Some x) h = (x, refl)

there : (slots : Slots) (m : Map ℕ) (n slot next : ℕ) → IsSound slots m next → at m n ≡ Some slot → (x : Instance) × (at (instances_in slots m) n ≡ Some x)
there slots m n slot next s e =
    let x = some-is (slot_at slots slot) (occupied_at slots m n slot s.occupied e) in
    (x.0, at-instances_in slots m n s.occupied ∙ ap (lying slots) e ∙ x.1)

-- ---- an instance joins the list of its owner

pub joined-kept : (old new : Slab Instance) (m : Map ℕ) (n slot next : ℕ) (owner : Key) → Changes old new owner.slot (relisted (put_last n)) → at m owner.number ≡ Some owner.slot → at m n ≡ Some slot → Some owner.number ≡ owner_at n (instances_in old.slots m) → IsKept old.slots m next → IsKept new.slots m next
joined-kept old new m n slot next owner changes e there is k = record {
  sound = sound-changed (relisted (put_last n)) old new m owner.slot next changes k.sound;
  owned = rw (instances_in-changed (relisted (put_last n)) old.slots new.slots m owner.number owner.slot changes.changed changes.others k.sound.occupied k.sound.apart e) (owned-joined (instances_in old.slots m) next n owner.number is (below-next old.slots m n slot next k.sound there) k.owned);
}

-- ---- an instance leaves the list of its owner

-- the key is that of a number with a slot
abbrev pub HasSlot : Map ℕ → Key → Type 0
HasSlot m key = at m key.number ≡ Some key.slot

abbrev pub numbered : Option Key → Option ℕ
numbered o = option_map (λ k. k.number) o

-- a live key has a slot, if there is one
pub slots-of-live : (slots : Slots) (m : Map ℕ) (next : ℕ) (s : Kept) (o : Option Key) → kept_in slots m next ≡ s → IfSome o (λ k. IsTrue (is_live s k)) → IfSome o (HasSlot m)
slots-of-live slots m next s None view h = h
slots-of-live slots m next s (Some key) view h = slot_of_live slots m next key s view (sym h)

instances-taken : (old new : Slab Instance) (m : Map ℕ) (n next : ℕ) (o : Option Key) → IfSome o (HasSlot m) → ChangesAt old new o (relisted (all_but n)) → IsSound old.slots m next → instances_in new.slots m ≡ taken_from (numbered o) n (instances_in old.slots m)
instances-taken old new m n next None e same s = instances_in-same old new m same
instances-taken old new m n next (Some key) e changes s =
    instances_in-changed (relisted (all_but n)) old.slots new.slots m key.number key.slot changes.changed changes.others s.occupied s.apart e

sound-at : (old new : Slab Instance) (m : Map ℕ) (n next : ℕ) (o : Option Key) → ChangesAt old new o (relisted (all_but n)) → IsSound old.slots m next → IsSound new.slots m next
sound-at old new m n next None same s = sound-same old new m next same s
sound-at old new m n next (Some key) changes s = sound-changed (relisted (all_but n)) old new m key.slot next changes s

pub left-kept : (old new : Slab Instance) (m : Map ℕ) (n slot next : ℕ) (o : Option Key) → IfSome o (HasSlot m) → ChangesAt old new o (relisted (all_but n)) → at m n ≡ Some slot → numbered o ≡ owner_at n (instances_in old.slots m) → IsKept old.slots m next → IsKept new.slots m next
left-kept old new m n slot next o e changes there is k = record {
  sound = sound-at old new m n next o changes k.sound;
  owned = rw (instances-taken old new m n next o e changes k.sound) (owned-taken (instances_in old.slots m) next n (numbered o) is (below-next old.slots m n slot next k.sound there) k.owned);
}

pub left-view : (old new : Slab Instance) (m : Map ℕ) (n next : ℕ) (o : Option Key) (s : Kept) → kept_in old.slots m next ≡ s → IfSome o (HasSlot m) → ChangesAt old new o (relisted (all_but n)) → numbered o ≡ owner_at n s.instances → IsSound old.slots m next → kept_in new.slots m next ≡ record s { instances = for_owner (at s.instances n) (without_dependent n) s.instances }
left-view old new m n next o s view e changes is sound =
    rw (instances-taken old new m n next o e changes sound, leaves-taken n s.instances, ← is)
    (ap (λ k. let r : Kept = record k { instances = taken_from (numbered o) n k.instances } in r) view)

-- ---- an instance leaves the list of any owner

pub released-kept : (old new : Slab Instance) (m : Map ℕ) (n slot next : ℕ) (owner : Key) → Changes old new owner.slot (relisted (all_but n)) → at m owner.number ≡ Some owner.slot → at m n ≡ Some slot → IsKept old.slots m next → IsKept new.slots m next
released-kept old new m n slot next owner changes e there_is k =
    let x = there old.slots m n slot next k.sound there_is in
    let y = there old.slots m owner.number owner.slot next k.sound e in
    record {
      sound = sound-changed (relisted (all_but n)) old new m owner.slot next changes k.sound;
      owned = rw (instances_in-changed (relisted (all_but n)) old.slots new.slots m owner.number owner.slot changes.changed changes.others k.sound.occupied k.sound.apart e) (owned-released (instances_in old.slots m) next n owner.number x.0 y.0 x.1 y.1 (below-next old.slots m n slot next k.sound there_is) k.owned);
    }

-- ---- an instance gets an owner

pub record Adopting (old put new : Slab Instance) (m : Map ℕ) (owner key : Key) : Type 0 where
  pub joins : Changes old put owner.slot (relisted (put_last key.number))
  pub owned : Changes put new key.slot (owned_now (owners.Instance owner.number))
  pub owner_there : HasSlot m owner
  pub there : HasSlot m key

module _ (old put new : Slab Instance) (m : Map ℕ) (next : ℕ) (owner key : Key) (a : Adopting old put new m owner key) (s : IsSound old.slots m next) where
  sound-put : IsSound put.slots m next
  sound-put = sound-changed (relisted (put_last key.number)) old put m owner.slot next a.joins s

  sound-adopted : IsSound new.slots m next
  sound-adopted = sound-changed (owned_now (owners.Instance owner.number)) put new m key.slot next a.owned sound-put

  instances-adopted : instances_in new.slots m ≡ with_owner key.number (owners.Instance owner.number) (instances_in old.slots m)
  instances-adopted =
      let n = key.number in
      let w = owners.Instance owner.number in
      let first = instances_in-changed (relisted (put_last n)) old.slots put.slots m owner.number owner.slot a.joins.changed a.joins.others s.occupied s.apart a.owner_there in
      let second = instances_in-changed (owned_now w) put.slots new.slots m n key.slot a.owned.changed a.owned.others sound-put.occupied sound-put.apart a.there in
      second ∙ ap (adjusted n (owned_now w)) first

pub adopted-kept : (old put new : Slab Instance) (m : Map ℕ) (next : ℕ) (owner key : Key) → Adopting old put new m owner key → None ≡ owner_at key.number (instances_in old.slots m) → IsKept old.slots m next → IsKept new.slots m next
adopted-kept old put new m next owner key a alone k =
    let x = there old.slots m key.number key.slot next k.sound a.there in
    let y = there old.slots m owner.number owner.slot next k.sound a.owner_there in
    record {
      sound = sound-adopted old put new m next owner key a k.sound;
      owned = rw (instances-adopted old put new m next owner key a k.sound) (owned-adopted (instances_in old.slots m) next key.number owner.number x.0 y.0 x.1 y.1 alone (below-next old.slots m key.number key.slot next k.sound a.there) k.owned);
    }

pub adopted-view : (old put new : Slab Instance) (m : Map ℕ) (next : ℕ) (owner key : Key) (s : Kept) → kept_in old.slots m next ≡ s → Adopting old put new m owner key → IsSound old.slots m next → kept_in new.slots m next ≡ record s { instances = with_owner key.number (owners.Instance owner.number) s.instances }
adopted-view old put new m next owner key s view a sound =
    rw (instances-adopted old put new m next owner key a sound)
    (ap (λ k. let r : Kept = record k { instances = with_owner key.number (owners.Instance owner.number) k.instances } in r) view)

-- ---- an instance comes, or goes

at-none : (m : Map ℕ) (n : ℕ) → AreBelow n m → at m n ≡ None
at-none [] n h = refl
at-none (p ∷ more) n h = elim (equal_or_not n p.0) [
  | inl s ↦ absurd (let below = h.0 in omega (arith, s.1))
  | inr s ↦ rw s.0 (at-none more n h.1)
]

pub born-kept : (old new : Slots) (m m' : Map ℕ) (n slot : ℕ) (o : Instance) (component : Component) (owner : Owner) (fields : List (ℕ × Value)) → o ≡ newborn component owner fields → Taking old new m m' n slot o → n < 2 ^ 32 → IsKept old m n → IsKept new m' (n + 1)
born-kept old new m m' n slot o component owner fields is t left k =
    let absent : at (instances_in old m) n ≡ None = at-instances_in old m n k.sound.occupied ∙ ap (lying old) (at-none m n k.sound.below) in
    let all = instances_in-taken old new m n slot o t.vacant t.taken t.others k.sound.occupied in
    rw t.entries (record {
      sound = sound-taken old new m n slot o t.vacant t.taken t.others left k.sound;
      owned = rw (all, is) (owned-born (instances_in old m) n component owner fields absent k.owned);
    })

pub gone-kept : (old new : Slots) (m : Map ℕ) (n slot next : ℕ) → Others old new slot → at m n ≡ Some slot → IsKept old m next → IsKept new (without n m) next
gone-kept old new m n slot next others e k = record {
  sound = sound-left old new m n slot next others e k.sound;
  owned = rw (instances_in-left old new m n slot others k.sound.apart e) (owned-gone (instances_in old m) next n k.owned);
}

-- ---- slots that all stay

pub same-kept : (old new : Slab Instance) (m : Map ℕ) (next : ℕ) → SameValues old new → IsKept old.slots m next → IsKept new.slots m next
same-kept old new m next same k = record {
  sound = sound-same old new m next same k.sound;
  owned = rw (instances_in-same old new m same) k.owned;
}
