-- The lines on standard error.
use Rattle.std.specs.Prelude.{◌≡◌, ℕ, List, ◌++◌, codes, Option, IfSome}
use Rattle.cdi_program.specs.Shown.{shown_name}

-- the line that names a cause
abbrev pub cause_line : List ℕ → List ℕ
cause_line cause = codes "cdi: " ++ (cause ++ codes "\n")

-- the line that names a cause that lies in a file, or in a word
abbrev pub file_line : List ℕ → List ℕ → List ℕ
file_line file cause =
    codes "cdi: " ++ (shown_name file ++ (codes ": " ++ (cause ++ codes "\n")))

-- the line that names such a cause, which is written so if it is known how
pub record IsFileLine (file : List ℕ) (cause : Option (List ℕ)) (line : List ℕ) : Type 0 where
  pub words : List ℕ
  pub is_cause : IfSome cause (λ bytes. words ≡ bytes)
  pub is : line ≡ file_line file words
