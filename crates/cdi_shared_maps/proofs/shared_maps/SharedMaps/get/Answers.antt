use Rattle.std.proofs.Common.{◌≡◌, ◌∙◌, ◌/◌, ◌%◌, ℕ, List, [], get_or, sym, ap, rules}
use Rattle.cdi_shared_maps.specs.Pages.{value_on}
use Rattle.cdi_shared_maps.proofs.Views.{value_in-view}
use Rattle.cdi_shared_maps.proofs.shared_maps.SharedMaps.get.Goals as goal

pub returns : goal.returns
returns c =
    let pages = c.self.inside.pages in
    let tables = c.self.inside.tables.items in
    let table : c.in_ok-table.table.now ≡ get_or tables c.args.map [] = search rules in
    let page = c.get-2.ensures ∙ ap (λ (t : List ℕ). get_or t (c.args.key / 32) 0) table in
    rw (← c.self.view_is) (c.get-3.ensures ∙ ap (λ (n : ℕ). value_on pages n (c.args.key % 32)) page ∙ sym (value_in-view pages tables c.args.map c.args.key c.self.invariant))
