use Rattle.std.proofs.Common.{List, rules, is_lt, subst}
use Rattle.std.proofs.lemmas.Fn.{always_returns_same}
use Rattle.std.proofs.lemmas.List.Sorted.{ranks_by}
use Rattle.std.specs.List.Sorted.{IsPermutation}
use Rattle.cdi_beans.specs.Interceptors.{Indexed, compare_priorities}
use Rattle.cdi_beans.proofs.Sorted.{priorities_total, ordered}
use Rattle.cdi_beans.proofs.interceptors.by_priority.Goals as goal

pub returns : goal.returns
returns c =
    let sorted = c.in_ok-sort_by.ensures.sorted (λ a b. is_lt (compare_priorities a b)) (ranks_by priorities_total (λ x. x)) (always_returns_same _ _ _ (λ a r f k. search rules)) in
    let P : List Indexed → Type 0 = λ given. IsPermutation given c.sort_by.new.self.items in
    rw c.new.ensures (ordered c.args.interceptors.now c.sort_by.new.self.items (subst P c.in_ok-found.ensures c.sort_by.ensures.permutation) sorted)
