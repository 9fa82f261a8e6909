-- The streams of the program, before and after.
use Rattle.std.specs.Prelude.{◌≡◌, ℕ, Bool, List, Option}

-- an input: the bytes that are still to come, where that is known, and whether it has failed
pub record Input : Type 0 where
  pub unread : Option (List ℕ)
  pub has_failed : Bool

-- an output: the bytes that were written to it, where that is known, whether it has failed, and whether it has passed all
-- on
pub record Output : Type 0 where
  pub held : Option (List ℕ)
  pub has_failed : Bool
  pub is_passed_on : Bool

-- the input, the output, and the output of errors
pub record Ends : Type 0 where
  pub input : Input
  pub input_after : Input
  pub output : Output
  pub output_after : Output
  pub errors : Output
  pub errors_after : Output

-- nothing is read
abbrev pub IsUnread : Ends → Type 0
IsUnread ends = ends.input_after ≡ ends.input

-- nothing is read or written, but for what is told on the output of errors
pub record IsUntouched (ends : Ends) : Type 0 where
  pub input : ends.input_after ≡ ends.input
  pub output : ends.output_after ≡ ends.output

-- ---- what a clause reads of a source and of a sink

abbrev pub input_of : {R : Type 0} → (R → Option (List ℕ)) → (R → Bool) → R → Input
input_of unread has_failed source = record {
  unread = unread source;
  has_failed = has_failed source;
}

abbrev pub output_of : {W : Type 0} → (W → Option (List ℕ)) → (W → Bool) → (W → Bool) → W → Output
output_of written has_failed is_passed_on sink = record {
  held = written sink;
  has_failed = has_failed sink;
  is_passed_on = is_passed_on sink;
}

abbrev pub ends_of : {R W E : Type 0} → (R → Input) → (W → Output) → (E → Output)
    → R → R → W → W → E → E → Ends
ends_of input output errors source source_after sink sink_after errors_sink errors_sink_after = record {
  input = input source;
  input_after = input source_after;
  output = output sink;
  output_after = output sink_after;
  errors = errors errors_sink;
  errors_after = errors errors_sink_after;
}
