use Rattle.std.proofs.Common.{◌∙◌, ℕ, List, subst}
use Rattle.cdi_quals.specs.Order.{compare_names}
use Rattle.cdi_quals.specs.OrderedSet.{IsOrderedSet}
use Rattle.cdi_quals.proofs.types.type_of.Goals as goal

pub returns : goal.returns
returns c =
    let declared = c.args.declared.now in
    let P : List ℕ → Type 0 = λ given. IsOrderedSet (compare_names c.args.names.now) given c.put_in_order.new.members.items in
    let members = rw (c.as_slice-2.ensures.value, c.as_slice-3.ensures) at c.in_ok-members_of.ensures in
    record {
      in_order = c.put_in_order.new.members.items;
      ordered = subst P (c.in_ok-members.ensures.items ∙ c.as_slice.ensures) c.in_ok-put_in_order.ensures;
      is = λ i. record { name = declared.name; members = members i };
    }
