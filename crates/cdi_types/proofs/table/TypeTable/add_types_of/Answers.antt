use Rattle.std.proofs.Common.{◌≡◌, ◌∙◌, ◌||◌, nat_eq, List, sym, ap}
use Rattle.std.specs.List.{list_any}
use Rattle.cdi_types.specs.ListsThose.{ListsThose}
use Rattle.cdi_types.specs.NameSet.{has}
use Rattle.cdi_types.specs.Subtype.{all_types, IsSubtype}
use Rattle.cdi_types.proofs.TypesOf.{has_all, has_only}
use Rattle.cdi_types.proofs.table.TypeTable.add_types_of.Goals as goal

pub returns : goal.returns
returns c = λ other.
    let types = c.args.self.now in
    let name = c.args.name in
    let found = c.in_ok-found.found in
    let old = has c.args.names.now other in
    let those : ListsThose (IsSubtype types name) (all_types types) found = c.in_ok-found.ensures in
    let now : has c.insert_all.new.self other ≡ (list_any (λ n. nat_eq n other) found || (nat_eq name other || old)) =
    c.in_ok-insert_all.ensures other ∙ ap (λ (ns : List _). list_any (λ n. nat_eq n other) ns || has c.insert.new.self other) c.as_slice.ensures ∙ ap (λ b. list_any (λ n. nat_eq n other) found || b) (c.in_ok-insert.ensures other) in (
      λ h. has_only types c.law_sound.ensures.known name found those old other (sym now ∙ h),
      λ s. now ∙ has_all types c.law_sound.ensures.known name found those old other s,
    )
