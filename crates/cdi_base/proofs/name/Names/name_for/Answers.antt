use Rattle.std.proofs.Common.{◌≡◌, ◌∙◌, sym, ap, List, ℕ, String, Global, map, string_bytes, bytes_eq}
use Rattle.std.specs.List.{position_or_len}
use Rattle.cdi_base.specs.Name.{number_of}
use Rattle.cdi_base.proofs.Tables.{position_or_len-map, place_of, past_all}
use Rattle.cdi_base.proofs.name.Names.name_for.Goals as goal

numbered : (ks : List (String Global)) (names : List (List ℕ)) (text : List ℕ) → map string_bytes ks ≡ names
    → position_or_len (λ k. bytes_eq text (string_bytes k)) ks ≡ number_of names text
numbered ks names text seen = sym (position_or_len-map (bytes_eq text) string_bytes ks) ∙ ap (λ ns. number_of ns text) seen

pub returns-in-Some : goal.returns-in-Some
returns-in-Some c =
    place_of (λ k. bytes_eq c.args.text.now (string_bytes k)) c.self.inside.texts.keys c.in-Some.index c.in-Some.ensures.index ∙ numbered c.self.inside.texts.keys c.args.self.now c.args.text.now c.self.view_is

pub returns-in-None : goal.returns-in-None
returns-in-None c =
    c.len.ensures.len ∙ past_all (λ k. bytes_eq c.args.text.now (string_bytes k)) c.self.inside.texts.keys c.in-None.ensures.index ∙ numbered c.self.inside.texts.keys c.args.self.now c.args.text.now c.self.view_is
