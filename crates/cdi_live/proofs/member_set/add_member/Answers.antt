use Rattle.std.proofs.Common.{◌≡◌, ◌∙◌, ◌||◌, ◌&&◌, ◌⊎◌, inl, inr, ℕ, Bool, true, false, cond, nat_eq, Option, Some, None, refl, sym, ap}
use Rattle.std.proofs.lemmas.Bool.{cases_Bool}
use Rattle.std.proofs.lemmas.Bool.Decides.{Decides-eqb}
use Rattle.cdi_name_check.specs.NameSets.{same_pair}
use Rattle.cdi_live.specs.MemberSets.{has, last_with}
use Rattle.cdi_live.proofs.member_set.add_member.Goals as goal

added : (b x : Bool) → cond b true x ≡ (x || b)
added true true = refl
added true false = refl
added false true = refl
added false false = refl

stays : (b x : Bool) → x ≡ true → cond b true x ≡ true
stays true x e = refl
stays false x e = e

pub returns-clause-set : goal.returns-clause-set
returns-clause-set c = λ class name.
    let m = c.args.member.now in
    c.in_ok-insert.ensures.updates.0 (class, name) ∙ added (same_pair (m.class, m.name) (class, name)) (has c.args.set.now class name)

one : (a b : ℕ) → Some a ≡ Some b → a ≡ b
one a b e = cc

pub returns-clause-last : goal.returns-clause-last
returns-clause-last c = λ class name e.
    let m = c.args.member.now in
    let now = c.in_ok-insert.ensures.updates.0 (class, name) in
    let put = c.in_ok-put.ensures name in
    elim (cases_Bool (nat_eq m.name name)) [
      | inl same ↦ (
          let here : Some m.class ≡ Some class = sym (ap (λ b. cond b (Some m.class) (last_with c.args.last.now name)) same) ∙ sym put ∙ e in
          let classes : nat_eq m.class class ≡ true = (Decides-eqb m.class class).1 (one m.class class here) in
          now ∙ ap (λ b. cond (b && nat_eq m.name name) true (has c.args.set.now class name)) classes ∙ ap (λ b. cond b true (has c.args.set.now class name)) same
          )
      | inr other ↦ (
          let before : last_with c.args.last.now name ≡ Some class = sym (ap (λ b. cond b (Some m.class) (last_with c.args.last.now name)) other) ∙ sym put ∙ e in
          now ∙ stays (same_pair (m.class, m.name) (class, name)) (has c.args.set.now class name) (c.requires class name before)
          )
    ]
