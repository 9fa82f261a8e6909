use Rattle.std.proofs.Common.{◌≡◌, length, None, codes, rules, subst}
use Rattle.cdi_prepare.specs.ItemLists.{long_list, long_names}
use Rattle.cdi_prepare.proofs.Telling.{told-behind}
use Rattle.cdi_prepare.proofs.item_lists.AnnotationTypeItem.check.Goals as goal

pub returns-in_err-check_names : goal.returns-in_err-check_names
returns-in_err-check_names c =
    let none : long_list c.args.place.now (codes "members") (length c.args.self.now.members) 8 ≡ None =
    subst (λ n. long_list c.args.place.now (codes "members") n 8 ≡ None) c.len.ensures c.in_ok-check_length.ensures in
    let told = told-behind _ (long_names c.args.place.now (codes "nonbinding") c.args.self.now.nonbinding) None c.in_err-check_names.field-0.0 none c.in_err-check_names.ensures in
    search (rules, told)
