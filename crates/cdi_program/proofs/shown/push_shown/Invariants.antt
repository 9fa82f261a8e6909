use Rattle.std.proofs.Common.{◌≡◌, ◌++◌, string_bytes}
use Rattle.std.specs.Str.{IsUtf8}
use Rattle.std.specs.Str.Iter.{chars_rest}
use Rattle.cdi_program.specs.Shown as spec
use Rattle.cdi_program.proofs.shown.push_shown.Given as goal

abbrev pub invariant-loop-c : goal.invariant-loop-c
invariant-loop-c l =
    IsUtf8 (chars_rest l.c-iterator)
    × (string_bytes l.line ++ spec.shown_name (chars_rest l.c-iterator) ≡ string_bytes l.fn.line ++ spec.shown_name l.fn.text)
