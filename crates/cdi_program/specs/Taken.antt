-- What is taken from an input.
use Rattle.std.specs.Prelude.{ℕ, ◌≤◌, ◌<◌, List, length, Option, Result, Ok, Err}
use Rattle.std.specs.Io.KnownBytes.{Consumes, IsAtEnd}
use Rattle.cdi_lines.specs.declared.fault.ServeFault.{ServeFault}

-- the known bytes lose their first ones, up to a count, and fewer only where no more come
pub record TakesFront (most : ℕ) (unread unread_after : Option (List ℕ)) (bytes : List ℕ)
    : Type 0 where
  pub few : length bytes ≤ most
  pub front : Consumes unread unread_after bytes
  pub whole : length bytes < most → IsAtEnd unread_after

-- they lose some of their first ones, and no more than so many
pub record TakesSome (most : ℕ) (unread unread_after : Option (List ℕ)) : Type 0 where
  pub part : List ℕ
  pub few : length part ≤ most
  pub front : Consumes unread unread_after part

-- taking the front of known bytes came to this
abbrev pub Takes : ℕ → Result (List ℕ) ServeFault → Option (List ℕ) → Option (List ℕ) → Type 0
Takes most (Ok bytes) unread unread_after = TakesFront most unread unread_after bytes
Takes most (Err fault) unread unread_after = TakesSome most unread unread_after
