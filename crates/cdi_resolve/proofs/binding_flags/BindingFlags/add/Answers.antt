use Rattle.std.proofs.Common.{◌∙◌, cond, nat_eq, Some, sym, ap}
use Rattle.std.proofs.lemmas.Bool.{eqb-true}
use Rattle.std.specs.HashMap.{get}
use Rattle.std.specs.Option.{is_some}
use Rattle.cdi_resolve.specs.BindingFlags.{flags_at, own_flags}
use Rattle.cdi_resolve.proofs.Flags.{brings, stays}
use Rattle.cdi_resolve.proofs.binding_flags.BindingFlags.add.Goals as goal

pub returns-then-contains_key : goal.returns-then-contains_key
returns-then-contains_key c = λ name.
    let q = c.args.qualifier.now in
    let old = c.args.self.now in
    stays (nat_eq q.name name) (flags_at old name) (own_flags q) (λ e. ap (λ n. is_some (flags_at old n)) (sym (eqb-true q.name name e)) ∙ sym c.contains_key.ensures ∙ c.if-contains_key.true)

pub returns : goal.returns
returns c = λ name.
    let q = c.args.qualifier.now in
    let old = c.args.self.now in
    brings (nat_eq q.name name) (flags_at old name) (get nat_eq c.insert.new.self name) (own_flags q)
    (c.in_ok-insert.ensures.updates.0 name ∙ ap (λ f. cond (nat_eq q.name name) (Some f) (flags_at old name)) (c.in_ok-flags.ensures ∙ ap (λ ms. own_flags (record { name = q.name; members = ms })) c.as_slice.ensures))
    (λ e. ap (λ n. is_some (flags_at old n)) (sym (eqb-true q.name name e)) ∙ sym c.contains_key.ensures ∙ c.if-contains_key.false)
