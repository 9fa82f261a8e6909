use Rattle.std.proofs.Common.{◌≡◌, ◌∙◌, ℕ, ◌-◌, Option, Some, length, slice_get}
use Rattle.std.proofs.Common.{option_map, ap, sym}
use Rattle.cdi_machine.specs.Destruction.{latest}
use Rattle.cdi_host.proofs.Stacks.{latest_is_last}
use Rattle.cdi_host.proofs.stack.temporaries.Stack+Seq+u32.latest.Goals as goal

pub returns : goal.returns
returns c =
    let ns = c.in_ok-innermost.innermost.now in
    let last : c.copied.result ≡ slice_get ns (length ns - 1) =
    c.copied.ensures ∙ c.last.ensures.value
    ∙ ap (λ xs. slice_get xs (length xs - 1)) c.as_slice.ensures in
    ap (λ (o : Option ℕ). Some o) (last ∙ sym (latest_is_last ns))
    ∙ ap (option_map latest) c.in_ok-innermost.ensures
