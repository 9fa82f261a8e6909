use Rattle.std.proofs.Common.{◌≡◌, ◌∙◌, ℕ, List, String, Global, map, string_bytes, bytes_eq, not, sym, ap}
use Rattle.std.specs.List.{list_any}
use Rattle.cdi_base.proofs.Tables.{list_any-map}
use Rattle.cdi_positions.specs.RepeatedKey.{is_among}
use Rattle.cdi_positions.proofs.key_set.KeySet.insert.Goals as goal

among : (ks : List (String Global)) (keys : List (List ℕ)) (key : List ℕ) → map string_bytes ks ≡ keys
    → is_among keys key ≡ list_any (λ k. bytes_eq key (string_bytes k)) ks
among ks keys key seen = ap (λ texts. is_among texts key) (sym seen) ∙ list_any-map (bytes_eq key) string_bytes ks

pub returns-clause-new : goal.returns-clause-new
returns-clause-new c =
    let ks = c.self.inside.keys.keys in
    c.in_ok-is_new.ensures.added
    ∙ ap not (ap (λ text. list_any (λ k. bytes_eq text (string_bytes k)) ks) c.in_ok-copy.ensures.ok ∙ sym (among ks c.args.self.now c.args.key.now c.self.view_is))
