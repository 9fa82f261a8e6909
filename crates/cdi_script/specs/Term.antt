-- The expressions of scripts, as contracts see them.
use Rattle.std.specs.Prelude.{ℕ, ℤ, ◌+◌, List}

pub data Term : Type 0 where
  null : Term
  whole : ℤ → Term
  text : List ℕ → Term
  field : ℕ → Term
  argument : ℕ → Term
  answer : ℕ → Term
  last : Term
  sum : Term → Term → Term

abbrev pub size_of : Term → ℕ
size_of null = 1
size_of (whole n) = 1
size_of (text s) = 1
size_of (field name) = 1
size_of (argument k) = 1
size_of (answer k) = 1
size_of last = 1
size_of (sum a b) = size_of a + size_of b + 1
