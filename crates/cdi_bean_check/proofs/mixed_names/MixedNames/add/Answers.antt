use Rattle.std.proofs.Common.{rules, ◌≡◌, ◌∙◌, Bool, true, false, cond, nat_eq, Some, None, inl, inr, sym, ap}
use Rattle.std.proofs.lemmas.Bool.{cases_Bool}
use Rattle.std.specs.HashMap.{get}
use Rattle.std.specs.HashSet.{contains}
use Rattle.cdi_deployment.specs.Member.{member_name}
use Rattle.cdi_bean_check.proofs.Tests.{equal_names, same_name}
use Rattle.cdi_bean_check.proofs.mixed_names.MixedNames.add.Goals as goal

past : (b x : Bool) → cond b true x ≡ false → x ≡ false
past true x e = absurd cc
past false x e = e

pub returns-in_ok-insert-in-Some-clause-seen : goal.returns-in_ok-insert-in-Some-clause-seen
returns-in_ok-insert-in-Some-clause-seen c =
    let name = member_name c.args.member.now in
    let there : get nat_eq c.args.self.now.firsts name ≡ Some c.in-Some.first.now = search rules in
    let now : contains nat_eq c.insert.new.self name ≡ true = c.in_ok-insert-in-Some.ensures.updates.0 name ∙ ap (λ b. cond b true (contains nat_eq c.args.self.now.mixed name)) (ap (λ n. nat_eq n name) c.name-name.ensures ∙ same_name name) in
    record {
      first = c.in-Some.first.now;
      stands = there;
      same = λ e. absurd cc;
    }

pub returns-in_ok-insert-in-Some-clause-kept : goal.returns-in_ok-insert-in-Some-clause-kept
returns-in_ok-insert-in-Some-clause-kept c = λ m s. record {
  first = s.first;
  stands = s.stands;
  same = λ e. s.same (past (nat_eq c.name-name.result (member_name m)) (contains nat_eq c.args.self.now.mixed (member_name m)) (sym (c.in_ok-insert-in-Some.ensures.updates.0 (member_name m)) ∙ e));
}

pub returns-in_ok-insert-in-None-clause-kept : goal.returns-in_ok-insert-in-None-clause-kept
returns-in_ok-insert-in-None-clause-kept c = λ m s.
    let own = c.name-name.result in
    let q = member_name m in
    let firsts = c.args.self.now.firsts in
    let none : get nat_eq firsts own ≡ None = search rules in
    let update : get nat_eq c.insert-in-None.new.self q ≡ cond (nat_eq own q) (Some c.signature_of-signature.result) (get nat_eq firsts q) = c.in_ok-insert-in-None.ensures.updates.0 q in
    record {
      first = s.first;
      stands = update ∙ elim (cases_Bool (nat_eq own q)) [
        | inl same ↦ (let missing : get nat_eq firsts q ≡ None = ap (get nat_eq firsts) (sym (equal_names own q same)) ∙ none in absurd cc)
        | inr other ↦ ap (λ b. cond b (Some c.signature_of-signature.result) (get nat_eq firsts q)) other ∙ s.stands
      ];
      same = s.same;
    }
