use Rattle.std.proofs.Common.{◌≡◌, ◌∙◌, sym, ap, string_bytes, bytes_eq, slice_get, Some, map, rules}
use Rattle.std.specs.String.{string_eq, string_eq_equiv}
use Rattle.cdi_base.specs.Name.{number_of}
use Rattle.cdi_base.proofs.Tables.{position_or_len-map, first_of_distinct}
use Rattle.cdi_base.proofs.name.Names.text.Goals as goal

pub returns-clause-one_to_one : goal.returns-clause-one_to_one
returns-clause-one_to_one c =
    let ks = c.self.inside.texts.keys in
    let k = c.unwrap.result.now in
    let at : slice_get ks c.name.inside.number ≡ Some k = search rules in
    let first = first_of_distinct string_eq string_eq_equiv ks c.name.inside.number k c.self.invariant.0 at in
    ap (λ ns. number_of ns c.as_str.result.now) (sym c.self.view_is) ∙ ap (number_of (map string_bytes ks)) c.as_str.ensures.value ∙ position_or_len-map (bytes_eq (string_bytes k)) string_bytes ks ∙ first ∙ c.name.view_is
