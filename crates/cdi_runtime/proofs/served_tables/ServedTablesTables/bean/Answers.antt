use Rattle.std.proofs.Common.{◌≡◌, ◌∙◌, None, Some, ap, option_map, subst}
use Rattle.cdi_run_tables.specs.Machine.{bean_at}
use Rattle.cdi_run_tables.specs.Numbered as numbered
use Rattle.cdi_host.specs.Asked.{head_of}
use Rattle.cdi_runtime.proofs.Served.{head_is, placed}
use Rattle.cdi_runtime.proofs.served_tables.ServedTablesTables.bean.Goals as goal

pub returns-in-Some : goal.returns-in-Some
returns-in-Some c =
    let tables = c.self.inside.tables in
    let b = c.in-Some.bean in
    let found : option_map head_of (bean_at tables c.args.bean) ≡ Some (placed (numbered.head_of b)) =
    head_is (bean_at tables c.args.bean) c.instantiable.result c.instantiable.ensures ∙ ap (option_map (λ x. placed (numbered.head_of x))) c.in-Some.is in
    subst (λ t. option_map head_of (bean_at t c.args.bean) ≡ Some (placed (numbered.head_of b))) c.self.view_is found

pub returns-in-None : goal.returns-in-None
returns-in-None c =
    let tables = c.self.inside.tables in
    let found : option_map head_of (bean_at tables c.args.bean) ≡ None =
    head_is (bean_at tables c.args.bean) c.instantiable.result c.instantiable.ensures ∙ ap (option_map (λ x. placed (numbered.head_of x))) c.in-None.is in
    subst (λ t. option_map head_of (bean_at t c.args.bean) ≡ None) c.self.view_is found
