use Rattle.std.proofs.Common.{map, length, Some, sym, subst}
use Rattle.std.proofs.lemmas.List.{length-map}
use Rattle.cdi_bean_lives.proofs.KeptLines.{is_kept_class, is_whole}
use Rattle.cdi_bean_lives.specs.Parts.{IsPartKept, IsWholeLine, names_of}
use Rattle.cdi_types.specs.Line.{IsLineOf}
use Rattle.cdi_bean_lives.proofs.line.KeptLines.add_line.Goals as goal

pub add_classes-requires-clause-line : goal.add_classes-requires-clause-line
add_classes-requires-clause-line c =
    let t = c.args.planner.now in
    subst (IsWholeLine t) (sym c.classes.ensures) (is_whole t c.args.class c.in_ok-line.line c.in_ok-line.ensures)

pub returns-in-Some-clause-line : goal.returns-in-Some-clause-line
returns-in-Some-clause-line c =
    let t = c.args.planner.now in
    let refs = c.classes.result.now in
    let l = c.add_classes.new.self.lives in
    let names = names_of (map (λ r. r.now) refs) in
    is_kept_class t c.args.class (map (λ r. r.now) refs) c.requires.declared
    (subst (IsLineOf t.types t.classes c.args.class) (sym c.classes.ensures) c.in_ok-line.ensures)
    l c.in-Some.kept
    (subst (λ k. IsPartKept l names k (Some c.in-Some.kept)) (sym (length-map refs (λ r. r.now)))
    (subst (IsPartKept l names (length refs)) c.in-Some.is c.in_ok-kept.ensures.line))
