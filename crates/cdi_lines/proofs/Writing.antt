-- Writing all of some bytes, where a front part of them is taken.
use Rattle.std.proofs.Common.{◌≡◌, ◌≢◌, ◌⊎◌, refl, ℕ, List, [], ◌∷◌, drop, Option, Some, None, Result, Ok, Err}
use Rattle.cdi_lines.specs.Calls.{WritesOut}
use Rattle.cdi_lines.specs.declared.sink.WriteFailed.{WriteFailed}

-- whatever comes of writing the rest is what comes of writing all
abbrev pub Continues : {W : Type 0} → (W → List ℕ → Option ℕ → W → Type 0) → W → List ℕ → W → List ℕ → Type 0
Continues {W} writes start all now rest =
    (result : Result (Unit {0}) WriteFailed) → (new : W) → WritesOut writes now rest result new → WritesOut writes start all result new

module _ {W : Type 0} (writes : W → List ℕ → Option ℕ → W → Type 0) where
  pub Continues-taken : (start now mid : W) (all rest : List ℕ) (n : ℕ) → Continues writes start all now rest → rest ≢ [] → n ≢ 0
      → writes now rest (Some n) mid → Continues writes start all mid (drop n rest)
  Continues-taken start now mid all rest n more some any taken = λ result new out. more result new (n ∷ out.0, (mid, some, any, taken, out.1))

  pub Continues-done : (start now : W) (all rest : List ℕ) (done : Unit {0}) → Continues writes start all now rest → rest ≡ [] → WritesOut writes start all (Ok done) now
  Continues-done start now all rest done more none = more (Ok done) now ([], (none, refl))

  pub Continues-fails : (start now new : W) (all rest : List ℕ) (failed : WriteFailed) → Continues writes start all now rest → rest ≢ []
      → writes now rest (Some 0) new ⊎ writes now rest None new → WritesOut writes start all (Err failed) new
  Continues-fails start now new all rest failed more some asked = more (Err failed) new ([], (some, asked))
