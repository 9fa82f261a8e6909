-- What comes of a file.
use Rattle.std.specs.Prelude.{◌≡◌, ℕ, ◌≤◌, List, length, take, Option, IfSome}
use Rattle.cdi_program.specs.declared.files.HostFiles.{HostFiles}

-- these are the first bytes of what is still to come, up to a count
pub record IsFrontOf (remaining : Option (List ℕ)) (most : ℕ) (bytes : List ℕ) : Type 0 where
  pub few : length bytes ≤ most
  pub front : IfSome remaining (λ whole. bytes ≡ take most whole)

-- the file at a path was opened, and these are the first of its bytes
pub record GivesFront {F R : Type 0} (opens : F → List ℕ → R → Type 0)
    (remaining : R → Option (List ℕ)) (files : HostFiles F) (path : List ℕ) (most : ℕ) (bytes : List ℕ)
    : Type 0 where
  pub file : R
  pub opened : opens files.opener.now path file
  pub front : IsFrontOf (remaining file) most bytes
