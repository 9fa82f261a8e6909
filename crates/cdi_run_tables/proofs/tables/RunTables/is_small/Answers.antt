use Rattle.std.proofs.Common.{◌≡◌, ◌∙◌, ◌&&◌, ◌≤◌, Bool, true, ap, length, nat_le, sym, subst}
use Rattle.std.proofs.lemmas.Bool.{le-leb}
use Rattle.std.specs.List.{list_all}
use Rattle.cdi_run_tables.proofs.KeptAt.{have_few}
use Rattle.cdi_run_tables.specs.Seen.{parts_seen}
use Rattle.cdi_run_tables.specs.Sizes.{has_few_fields, has_few_injections, is_small}
use Rattle.cdi_run_tables.proofs.tables.RunTables.is_small.Goals as goal

-- what is so anyway makes no difference
both_so : (a b c x : Bool) → a ≡ true → b ≡ true → x ≡ c → x ≡ (a && b && c)
both_so a b c x so also same = same ∙ ap (λ y. true && y && c) (sym also) ∙ ap (λ y. y && b && c) (sym so)

pub returns-then-beans-le-MAX_BEANS : goal.returns-then-beans-le-MAX_BEANS
returns-then-beans-le-MAX_BEANS c =
    let p = c.self.inside.parts in
    let seen = parts_seen p in
    let few : length seen.beans ≤ 4096 = subst (λ n. n ≤ 4096) (ap length c.beans.ensures ∙ sym c.self.invariant.kept.count) c.if-beans-le-MAX_BEANS.true in
    both_so (nat_le (length seen.beans) 4096) (list_all has_few_injections seen.beans) (list_all has_few_fields seen.deployment.interceptors) c.have_few_fields.result
    (le-leb (length seen.beans) 4096 few)
    (have_few seen p.beans.lives seen.beans p.beans.beans c.self.invariant.kept.beans)
    (c.have_few_fields.ensures ∙ ap (list_all has_few_fields) c.as_slice.ensures)
    ∙ ap is_small c.self.view_is
