-- The number of a registered body is that of an entry.
use Rattle.std.proofs.Common.{◌≡◌, ℕ, ◌<◌, Bool, true, false, cond, List, length, Option, Some, None, refl, arith}
use Rattle.std.specs.Bool.{nat_lt}
use borrow.Author.Tests.{ltb-true}
use Rattle.cdi_bodies.specs.Gives.{place_of}
use Rattle.cdi_bodies.specs.declared.entry.Entry.{Entry}

within : (place count body : ℕ) → cond (nat_lt place count) (Some place) None ≡ Some body → body < count
within place count body e = by (nat_lt place count) refl e
  where
    by : (b : Bool) → nat_lt place count ≡ b → cond b (Some place) None ≡ Some body → body < count
    by true t h = let q : place ≡ body = cc in omega (arith, ltb-true place count t)
    by false t h = absurd cc

pub place_within : {X : Type 0} {F : X → Type 0} {g : _} (entries : List (Entry X F g)) (name : ℕ) (body : ℕ) → place_of entries name ≡ Some body → body < length entries
place_within entries name body e = within _ _ body e
