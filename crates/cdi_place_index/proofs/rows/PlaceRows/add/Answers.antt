use Rattle.std.proofs.Common.{◌≡◌, ◌∙◌, Bool, ◌++◌, ◌∷◌, [], ap, sym, Some, None, cond}
use Rattle.std.specs.HashMap.{get}
use Rattle.cdi_place_index.proofs.Keys.{row_after, row_more, is_some, same_key-true, same_keys}
use Rattle.cdi_place_index.specs.PlaceRows.{row_at}
use Rattle.cdi_problems.specs.PlaceKeys.{key_of, same_key}
use Rattle.cdi_problems.specs.Places.{same_place}
use Rattle.cdi_place_index.proofs.rows.PlaceRows.add.Goals as goal

pub returns-in-Some : goal.returns-in-Some
returns-in-Some g c = λ p.
    let rows = c.args.self.now.rows in
    let place = c.args.place.now in
    let key = c.key_of-key.result in
    let k = key_of p in
    let row = c.push.new.self in
    let after = c.get_mut.follows.lender row in
    let there = c.in-Some.ensures.value in
    let known : get same_key after k ≡ cond (same_key key k) (Some row) (get same_key rows k) = ((c.get_mut.follows.holds row).3 (is_some (get same_key rows key) c.in-Some.row.now there)).0 k in
    let old = row_at c.args.self.now p in
    let here : same_key key k ≡ same_place place p = ap (λ x. same_key x k) c.key_of-key.ensures ∙ same_keys place p in
    row_more (same_key key k) (get same_key rows k) (get same_key after k) c.in-Some.row.now row c.args.item known (λ e. ap (get same_key rows) (sym (same_key-true key k e)) ∙ sym there) c.in_ok-push.ensures.ok
    ∙ ap (λ (h : Bool). cond h (old ++ c.args.item ∷ []) old) here

pub returns : goal.returns
returns g c = λ p.
    let rows = c.args.self.now.rows in
    let place = c.args.place.now in
    let key = c.key_of-key.result in
    let k = key_of p in
    let row = c.push-2.new.self in
    let after = c.insert.new.self in
    let same : get same_key c.get_mut.follows.lender-at-none k ≡ get same_key rows k = ap (λ m. get same_key m k) c.get_mut.follows.holds-at-none in
    let known : get same_key after k ≡ cond (same_key key k) (Some row) (get same_key rows k) = c.in_ok-insert.ensures.updates.0 k ∙ ap (cond (same_key key k) (Some row)) same in
    let absent : get same_key rows key ≡ None = sym c.in_default.ensures.value in
    let old = row_at c.args.self.now p in
    let here : same_key key k ≡ same_place place p = ap (λ x. same_key x k) c.key_of-key.ensures ∙ same_keys place p in
    row_after (same_key key k) (get same_key rows k) (get same_key after k) row c.args.item known (λ e. ap (get same_key rows) (sym (same_key-true key k e)) ∙ absent) (c.in_ok-push-2.ensures.ok ∙ ap (λ xs. xs ++ c.args.item ∷ []) c.empty-row.ensures)
    ∙ ap (λ (h : Bool). cond h (old ++ c.args.item ∷ []) old) here
