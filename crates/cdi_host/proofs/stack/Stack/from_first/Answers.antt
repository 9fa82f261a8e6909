use Rattle.std.proofs.Common.{◌∙◌, ap, reverse}
use Rattle.std.proofs.lemmas.List.{reverse-reverse}
use Rattle.cdi_host.proofs.stack.Stack.from_first.Goals as goal

pub returns : goal.returns
returns g c = ap reverse c.reverse.ensures.items ∙ reverse-reverse c.args.items.items
