use Rattle.std.proofs.Common.{◌∙◌, refl, sym, ap}
use Rattle.cdi_bean_check.specs.Qualifiers.{full_uses, uses_with_built_in}
use Rattle.cdi_beans.specs.Beans.{IsBeanOf, is_alternative, priority_of}
use Rattle.cdi_beans.proofs.beans.held.Goals as goal

pub returns : goal.returns
returns c =
    let types = c.args.tables.now.qualifiers.now in
    IsBeanOf.held
    (record {
      declared = record { class = refl; alternative = sym (ap is_alternative c.requires); priority = sym (ap priority_of c.requires) };
      specializes = refl;
      no_members = c.empty.ensures;
    })
    (record {
      kind_is = refl;
      types = c.in_ok-types.ensures;
      are_full = c.in_ok-qualifiers.ensures ∙ ap (λ uses. full_uses types (uses_with_built_in uses)) c.as_slice.ensures;
      scope_is = refl;
    })
