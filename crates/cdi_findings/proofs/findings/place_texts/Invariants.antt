use Rattle.std.proofs.Common.{◌≡◌, map, take, string_bytes}
use Rattle.cdi_problems.specs.Places.{place_text}
use Rattle.cdi_findings.proofs.findings.place_texts.Given as goal

abbrev pub invariant-loop-place : goal.invariant-loop-place
invariant-loop-place l = map string_bytes l.texts.items ≡ map (place_text l.names) (take l.place-index l.places)
