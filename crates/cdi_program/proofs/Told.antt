-- Texts that are written one after the other.
use Rattle.std.proofs.Common.{◌≡◌, sym, ap, ◌∙◌, ℕ, List, ◌++◌, Option, Result, Ok, Err, OnOk, IsTrue, append_assoc}
use Rattle.std.specs.Io.KnownBytes.{Appends}
use Rattle.std.proofs.KnownBytes.{Appends-trans}
use Rattle.cdi_lines.specs.Ends.{Tells, WritesAll}
use Rattle.cdi_lines.specs.declared.sink.WriteFailed.{WriteFailed}
use Rattle.cdi_program.specs.Streams.{Output}
use Rattle.cdi_program.specs.Telling.{PassesOn}

-- a front part of a text is one of what is longer
pub front_more : (old new : Option (List ℕ)) (a b : List ℕ) → (part : List ℕ) × (rest : List ℕ) × (part ++ rest ≡ a) × Appends old new part
    → (part : List ℕ) × (rest : List ℕ) × (part ++ rest ≡ a ++ b) × Appends old new part
front_more old new a b x =
    let (part, rest, split, grown) = x in
    (part, rest ++ b, sym (append_assoc part rest b) ∙ ap (λ (l : List ℕ). l ++ b) split, grown)

pub front_then : (old mid new : Option (List ℕ)) (a b : List ℕ) → Appends old mid a
    → (part : List ℕ) × (rest : List ℕ) × (part ++ rest ≡ b) × Appends mid new part
    → (part : List ℕ) × (rest : List ℕ) × (part ++ rest ≡ a ++ b) × Appends old new part
front_then old mid new a b p q =
    let (part, rest, split, grown) = q in
    (a ++ part, rest, append_assoc a part rest ∙ ap (λ (l : List ℕ). a ++ l) split, Appends-trans old mid new a part p grown)

pub writes_then : {T E : Type 0} (old mid new : Option (List ℕ)) (a b : List ℕ) (result : Result T E)
    → Appends old mid a → WritesAll mid new result b → WritesAll old new result (a ++ b)
writes_then old mid new a b (Ok x) p q = Appends-trans old mid new a b p q
writes_then old mid new a b (Err x) p q = front_then old mid new a b p q

pub passes : (text : List ℕ) (result : Result (Unit {0}) WriteFailed) (old new : Output) → WritesAll old.held new.held result text
    → Tells result old.has_failed new.has_failed → OnOk result (IsTrue new.is_passed_on) → PassesOn text old new
passes text result old new w t p = (result, record { written = w; failed = t; passed_on = p })
