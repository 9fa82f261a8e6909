-- What was taken from an input so far.
use Rattle.std.proofs.Common.{◌≡◌, ℕ, ◌+◌, ◌-◌, ◌≤◌, List, [], ◌∷◌, ◌++◌, length, Option, append-nil, length-append, subst, arith}
use Rattle.std.proofs.KnownBytes.{Consumes-kept, Consumes-nil, Consumes-trans}
use Rattle.std.specs.Io.KnownBytes.{Consumes, IsAtEnd, Keeps}
use Rattle.cdi_program.specs.Taken.{TakesFront, TakesSome}

-- these bytes were taken, and so many may still be
pub record Taking (most left : ℕ) (unread unread_after : Option (List ℕ)) (bytes : List ℕ) : Type 0 where
  pub front : Consumes unread unread_after bytes
  pub counted : length bytes + left ≡ most

pub taking_none : (most : ℕ) (a : Option (List ℕ)) (bytes : List ℕ) → bytes ≡ [] → Taking most most a a bytes
taking_none most a bytes none = rw none (record { front = Consumes-nil a; counted = omega arith })

pub taking_more : (most left : ℕ) (a b c : Option (List ℕ)) (bytes piece all : List ℕ) (count : ℕ) → Taking most left a b bytes → Consumes b c piece
    → count ≡ length piece → count ≤ left → all ≡ bytes ++ piece → Taking most (left - count) a c all
taking_more most left a b c bytes piece all count so came counts within is = record {
  front = rw is (Consumes-trans a b c bytes piece so.front came);
  counted = let sum = length-append bytes piece in let whole = so.counted in rw is (omega arith);
}

-- the read failed
pub taken_kept : (most left : ℕ) (a b c : Option (List ℕ)) (bytes : List ℕ) → Taking most left a b bytes → Keeps b c → TakesSome most a c
taken_kept most left a b c bytes so keeps = record {
  part = bytes;
  few = let whole = so.counted in omega arith;
  front = Consumes-kept a b c bytes so.front keeps;
}

pub taken_some : (most left : ℕ) (a b : Option (List ℕ)) (bytes : List ℕ) → Taking most left a b bytes → TakesSome most a b
taken_some most left a b bytes so = record { part = bytes; few = let whole = so.counted in omega arith; front = so.front }

-- no more came
pub taken_whole : (most left : ℕ) (a b : Option (List ℕ)) (bytes : List ℕ) → Taking most left a b bytes → IsAtEnd b → TakesFront most a b bytes
taken_whole most left a b bytes so end = record { few = let whole = so.counted in omega arith; front = so.front; whole = λ _. end }

-- a read gave nothing
pub taken_end : (most left : ℕ) (a b c : Option (List ℕ)) (bytes piece : List ℕ) (count : ℕ) → Taking most left a b bytes → Consumes b c piece
    → count ≡ length piece → count ≡ 0 → IsAtEnd c → TakesFront most a c bytes
taken_end most left a b c bytes [] count so came counts none end =
    taken_whole most left a c bytes (record { front = subst (Consumes a c) (append-nil bytes) (Consumes-trans a b c bytes [] so.front came); counted = so.counted }) end
taken_end most left a b c bytes (x ∷ piece) count so came counts none end = absurd cc

-- no more may
pub taken_most : (most left : ℕ) (a b : Option (List ℕ)) (bytes : List ℕ) → Taking most left a b bytes → left ≡ 0 → TakesFront most a b bytes
taken_most most left a b bytes so none = record {
  few = let whole = so.counted in omega arith;
  front = so.front;
  whole = λ less. let whole = so.counted in absurd (omega arith);
}
