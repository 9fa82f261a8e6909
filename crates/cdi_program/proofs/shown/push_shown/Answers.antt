use Rattle.std.proofs.Common.{rules, ◌≡◌, ◌++◌, string_bytes, ap, List, ℕ}
use Rattle.std.specs.Str.Iter.{chars_rest}
use Rattle.cdi_program.specs.Shown as spec
use Rattle.cdi_program.proofs.ShownChars.{shown_more, shown_none}
use Rattle.cdi_program.proofs.shown.push_shown.Goals as goal

pub loop-c-init : goal.loop-c-init
loop-c-init c =
    let whole : chars_rest c.into_iter-c-iterator.result ≡ c.args.text.now = search rules in
    (rw whole c.utf8.text, ap (λ (rest : List ℕ). string_bytes c.args.line.now ++ spec.shown_name rest) whole)

pub loop-c-preserved : goal.loop-c-preserved
loop-c-preserved c =
    let l = c.loop-c in
    shown_more _ _ _ _ _ c.in-Some.c l.invariant.0 c.in-Some.ensures.steps.0 c.in_ok-push_char.ensures l.invariant.1

pub returns : goal.returns
returns c = shown_none _ _ _ c.in-None.ensures.steps.0.0 c.loop-c.invariant.1
