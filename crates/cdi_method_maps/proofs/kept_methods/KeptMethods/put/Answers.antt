use Rattle.std.proofs.Common.{◌≡◌, ◌∙◌, List, [], ◌∷◌, length, nat_eq, slice_get, append-nil, sym, ap, rules}
use Rattle.std.specs.List.{position_or_len}
use Rattle.cdi_machine.specs.declared.member.Method.{Method}
use Rattle.cdi_method_maps.proofs.Growth.{Extends-insert_key, position_or_len-insert_key, slice_get-push}
use Rattle.cdi_method_maps.proofs.kept_methods.KeptMethods.put.Goals as goal

pub returns-in_err-push-clause-grows : goal.returns-in_err-push-clause-grows
returns-in_err-push-clause-grows c =
    let longer = Extends-insert_key c.args.self.now.keys.keys c.args.named.name in
    record {
      keys = record { more = longer.more; is = c.in_ok-key.ensures.keys ∙ longer.is };
      methods = record { more = []; is = c.in_err-push.ensures.err ∙ sym (append-nil c.args.self.now.methods) };
    }

pub returns-clause-grows : goal.returns-clause-grows
returns-clause-grows c =
    let longer = Extends-insert_key c.args.self.now.keys.keys c.args.named.name in
    record {
      keys = record { more = longer.more; is = c.in_ok-key.ensures.keys ∙ longer.is };
      methods = record { more = c.args.named.method ∷ []; is = c.in_ok-push.ensures.ok };
    }

pub returns-clause-change : goal.returns-clause-change
returns-clause-change c =
    let keys = c.args.self.now.keys.keys in
    let methods = c.args.self.now.methods in
    let name = c.args.named.name in
    let place : c.in-Ok.place ≡ length c.args.self.now.methods = search rules in
    record {
      key = c.in_ok-key.ensures.index ∙ sym (ap (position_or_len (nat_eq name)) c.in_ok-key.ensures.keys ∙ position_or_len-insert_key keys name);
      known = c.in_ok-key.ensures.within;
      value = ap (λ (ms : List Method). slice_get ms c.in-Ok.place) c.in_ok-push.ensures.ok ∙ slice_get-push methods c.args.named.method c.in-Ok.place place;
    }
