use Rattle.std.proofs.Common.{◌≡◌, ◌∙◌, sym, ap, nat_eq}
use Rattle.std.specs.Map.{keys_of}
use Rattle.indexmap.specs.Layout.{set_value_at}
use Rattle.cdi_base.proofs.Tables.{place_of, set-by_place, set-absent}
use Rattle.cdi_base.specs.Fields.{set}
use Rattle.cdi_base.proofs.fields.Fields.set.Goals as goal
use Rattle.cdi_base.proofs.fields.Fields.set.Goals.{in-Text-1, in-Null-1}

pub returns-in-Some : goal.returns-in-Some
returns-in-Some c =
    let es = c.self.inside.entries.entries in
    let k = c.args.name in
    let v = c.args.value in
    let is : set_value_at es c.in-Some.index v ≡ set c.args.self.now k v =
    ap (λ i. set_value_at es i v) (place_of (nat_eq k) (keys_of es) c.in-Some.index c.in-Some.ensures.index) ∙ sym (set-by_place es k v) ∙ ap (λ m. set m k v) c.self.view_is in
    elim c.match-index_mut-value.branch [ in-Text-1 w ↦ w.self-is ∙ is | in-Null-1 w ↦ w.self-is ∙ is ]

pub returns-in_default : goal.returns-in_default
returns-in_default c =
    sym c.self.view_is ∙ set-absent c.self.inside.entries.entries c.args.name c.args.value (sym c.in_default.ensures.found) ∙ ap (λ m. set m c.args.name c.args.value) c.self.view_is
