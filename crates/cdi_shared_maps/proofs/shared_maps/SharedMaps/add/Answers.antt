use Rattle.std.proofs.Common.{◌≡◌, ◌∙◌, ◌<◌, ℕ, List, ◌∷◌, ◌++◌, [], length, map, get_or, ap, arith, rules}
use Rattle.std.proofs.lemmas.List.{length-map}
use Rattle.cdi_shared_maps.specs.Maps.{value_in, value_from}
use Rattle.cdi_shared_maps.specs.Pages.{value_at, values_of, table_of}
use Rattle.cdi_shared_maps.proofs.Views.{AreTables-kept, AreTables-push, in_range_of, value_in-kept, value_in-push, value_in-pushed, value_from-view, changed_same}
use Rattle.cdi_shared_maps.proofs.shared_maps.SharedMaps.add.Goals as goal

pub put_changes-requires : goal.put_changes-requires
put_changes-requires c =
    let origin = c.args.origin in
    let tables = c.self.inside.tables.items in
    let table : c.in_ok-table.table ≡ table_of tables origin = c.in_ok-table.ensures ∙ ap (λ (ts : List (List ℕ)). table_of ts origin) c.as_slice.ensures.value in
    λ i. omega (arith, ap (λ (t : List ℕ). get_or t i 0) table, in_range_of c.self.inside.pages tables origin c.self.invariant i)

pub invariant_of-self : goal.invariant_of-self
invariant_of-self c =
    AreTables-kept c.self.inside.pages c.put_changes.new.pages c.self.inside.tables.items c.self.invariant c.in_err-put_changes.ensures.kept

pub returns-in_err-put_changes-clause-kept : goal.returns-in_err-put_changes-clause-kept
returns-in_err-put_changes-clause-kept c =
    λ number key lt. rw (← c.self.view_is) (value_in-kept c.self.inside.pages c.put_changes.new.pages c.self.inside.tables.items number key c.self.invariant c.in_err-put_changes.ensures.kept)

pub invariant_of-self-in_err-push : goal.invariant_of-self-in_err-push
invariant_of-self-in_err-push c =
    rw c.in_err-push.ensures.items (AreTables-kept c.self.inside.pages c.put_changes.new.pages c.self.inside.tables.items c.self.invariant c.in_ok-put_changes.ensures.kept)

pub returns-in_err-push-clause-kept : goal.returns-in_err-push-clause-kept
returns-in_err-push-clause-kept c =
    λ number key lt. rw (c.in_err-push.ensures.items, ← c.self.view_is) (value_in-kept c.self.inside.pages c.put_changes.new.pages c.self.inside.tables.items number key c.self.invariant c.in_ok-put_changes.ensures.kept)

pub invariant_of-self-2 : goal.invariant_of-self-2
invariant_of-self-2 c =
    let new = c.put_changes.new in
    let tables = c.self.inside.tables.items in
    let kept = AreTables-kept c.self.inside.pages new.pages tables c.self.invariant c.in_ok-put_changes.ensures.kept in
    rw c.in_ok-push.ensures.items (AreTables-push new.pages tables new.table kept c.in_ok-put_changes.ensures.in_range)

pub returns-clause-values : goal.returns-clause-values
returns-clause-values c =
    let origin = c.args.origin in
    let new = c.put_changes.new in
    let pages = c.self.inside.pages in
    let tables = c.self.inside.tables.items in
    let number : c.len-number.result ≡ length tables = search rules in
    let table : c.in_ok-table.table ≡ table_of tables origin = c.in_ok-table.ensures ∙ ap (λ (ts : List (List ℕ)). table_of ts origin) c.as_slice.ensures.value in
    let kept = AreTables-kept pages new.pages tables c.self.invariant c.in_ok-put_changes.ensures.kept in
    λ key. rw (c.in_ok-push.ensures.items, ← c.self.view_is) (ap (λ (n : ℕ). value_in (map (values_of new.pages) (tables ++ new.table ∷ [])) n key) number ∙ value_in-pushed new.pages tables new.table key kept.nothing ∙ c.in_ok-put_changes.ensures.values key ∙ changed_same c.args.changes.now (value_at pages c.in_ok-table.table) (value_from (map (values_of pages) tables) origin) key (ap (λ (t : List ℕ). value_at pages t key) table ∙ value_from-view pages tables origin key c.self.invariant))

pub returns-clause-kept : goal.returns-clause-kept
returns-clause-kept c =
    let new = c.put_changes.new in
    let pages = c.self.inside.pages in
    let tables = c.self.inside.tables.items in
    λ number key lt.
    let there : number < length tables = omega (arith, lt, ap length c.self.view_is, length-map tables (values_of pages)) in
    rw (c.in_ok-push.ensures.items, ← c.self.view_is) (value_in-push new.pages tables new.table number key there ∙ value_in-kept pages new.pages tables number key c.self.invariant c.in_ok-put_changes.ensures.kept)
