use Rattle.std.proofs.Common.{◌≡◌, cond, List, [], ◌∷◌, ◌++◌, sym, ap, subst}
use Rattle.std.proofs.lemmas.Result.{on_ok_weaker}
use Rattle.std.specs.Option.{is_some}
use Rattle.cdi_beans.specs.Adds.{Adds}
use Rattle.cdi_beans.specs.Beans.{Source, IsBeanOf, products_in, sources_in}
use Rattle.cdi_beans.proofs.Adding.{adds_one, adds_more}
use Rattle.cdi_beans.proofs.beans.add_beans.Goals as goal

pub returns-in_ok-push-in-Some-clause-adds : goal.returns-in_ok-push-in-Some-clause-adds
returns-in_ok-push-in-Some-clause-adds c =
    let class = c.args.class.now in
    let old = c.args.beans.now in
    let new = c.add_products.new.beans in
    let own = Source.AClass class ∷ [] in
    let products = products_in class class.members in
    let same : own ++ products ≡ sources_in class = ap (λ o. cond (is_some o) (Source.AClass class ∷ products) []) (sym c.in-Some.is) in
    let P : List Source → Type 0 = λ sources. Adds (IsBeanOf c.args.tables.now.deployment.now c.args.tables.now.qualifiers.now) sources old new in
    let first = adds_one (Source.AClass class) c.in_ok-managed-in-Some.field-0 old c.push.new.self c.in_ok-push-in-Some.ensures.ok c.in_ok-managed-in-Some.ensures.bean in
    on_ok_weaker c.add_products.result (λ added. subst P same (adds_more own products old c.push.new.self new first added)) c.add_products.ensures
