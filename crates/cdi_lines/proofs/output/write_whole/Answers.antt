use Rattle.std.proofs.Common.{◌≡◌, ◌≢◌, ℕ, List, [], ◌++◌, take, drop, sym, ap, ◌∙◌, append_assoc, take-append-drop, arith, rules}
use Rattle.std.proofs.lemmas.List.{take_rest}
use Rattle.std.proofs.KnownBytes.{Appends-trans}
use Rattle.cdi_lines.proofs.Writing.{Continues-taken}
use Rattle.cdi_lines.proofs.output.write_whole.Goals as goal

moves_front : (all done rest : List ℕ) (n : ℕ) → all ≡ done ++ rest → all ≡ (done ++ take n rest) ++ drop n rest
moves_front all done rest n e = e ∙ ap (λ l. done ++ l) (sym (take-append-drop n rest)) ∙ sym (append_assoc done (take n rest) (drop n rest))

pub loop-rest-preserved : goal.loop-rest-preserved
loop-rest-preserved g c =
    let (done, split, appended, more) = c.loop-rest.invariant in
    let rest = c.loop-rest.rest.now in
    let n = c.in-Ok.count in
    let some : rest ≢ [] = search rules in
    let any : n ≢ 0 = grind arith in
    rw (take_rest rest n) (
      done ++ take n rest,
      moves_front _ done rest n split,
      Appends-trans _ _ _ _ _ appended c.in-Ok.ensures.bytes,
      Continues-taken g.W.Writer.writes _ _ _ _ rest n more some any c.in-Ok.ensures.writes,
    )
