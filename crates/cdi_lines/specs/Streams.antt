-- What a clause reads of a reader as a source, and of a writer as a sink.
use Rattle.std.specs.Prelude.{◌==◌, ◌&&◌, ℕ, Bool, List, length, Option}
use Rattle.std.specs.Io.Buffered.{writer_buffer, writer_contents, writer_inner}
use Rattle.cdi_lines.specs.declared.buffered.Buffered.{Buffered}
use Rattle.cdi_lines.specs.declared.input.Input.{Input}
use Rattle.cdi_lines.specs.declared.output.Output.{Output}

abbrev pub reader_of : {R : Type 0} → Input R → R
reader_of input = input.reader

abbrev pub has_read_failed : {R : Type 0} → Input R → Bool
has_read_failed input = input.has_failed

abbrev pub writer_of : {W : Type 0} → Output W → W
writer_of output = output.writer

abbrev pub has_write_failed : {W : Type 0} → Output W → Bool
has_write_failed output = output.has_failed

-- nothing was written since its writer flushed
abbrev pub is_flushed : {W : Type 0} → Output W → Bool
is_flushed output = output.is_flushed

-- and the writer holds nothing back
abbrev pub is_all_passed_on : {W : Type 0} → (W → Bool) → Output W → Bool
is_all_passed_on holds_nothing output = output.is_flushed && holds_nothing output.writer

-- what the writer holds and then the buffer, where that is known
abbrev pub buffered_contents : {W : Type 0} → (W → Option (List ℕ)) → Buffered W → Option (List ℕ)
buffered_contents contents buffered = writer_contents contents buffered.writer

abbrev pub buffered_inner : {W : Type 0} → Buffered W → W
buffered_inner buffered = writer_inner buffered.writer

-- its buffer is empty
abbrev pub is_buffer_empty : {W : Type 0} → Buffered W → Bool
is_buffer_empty buffered = length (writer_buffer buffered.writer) == 0
