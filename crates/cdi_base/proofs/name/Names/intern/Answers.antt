use Rattle.std.proofs.Common.{◌≡◌, IsTrue, ◌∙◌, sym, ap, refl, true, false, true≢false, ◌||◌, ◌≤◌, List, ℕ, String, Global, if◌then◌else◌, ◌++◌, ◌∷◌, [], map, length, string_bytes, bytes_eq, arith}
use Rattle.std.proofs.lemmas.List.{map_push, length-map}
use Rattle.std.proofs.lemmas.Bool.{le-ltb}
use Rattle.std.specs.Bool.{nat_lt}
use Rattle.std.specs.List.{list_any, position_or_len}
use Rattle.cdi_base.specs.Name.{number_of, is_known}
use Rattle.cdi_base.proofs.Tables.{position_or_len-map, list_any-map, place_of}
use Rattle.cdi_base.proofs.name.Names.intern.Goals as goal

numbered : (ks : List (String Global)) (names : List (List ℕ)) (text : List ℕ) → map string_bytes ks ≡ names
    → position_or_len (λ k. bytes_eq text (string_bytes k)) ks ≡ number_of names text
numbered ks names text seen = sym (position_or_len-map (bytes_eq text) string_bytes ks) ∙ ap (λ ns. number_of ns text) seen

known : (ks : List (String Global)) (names : List (List ℕ)) (text : List ℕ) → map string_bytes ks ≡ names
    → is_known names text ≡ list_any (λ k. bytes_eq text (string_bytes k)) ks
known ks names text seen = ap (λ ns. is_known ns text) (sym seen) ∙ list_any-map (bytes_eq text) string_bytes ks

pub returns-in-Some-clause-number : goal.returns-in-Some-clause-number
returns-in-Some-clause-number c =
    place_of (λ k. bytes_eq c.args.text.now (string_bytes k)) c.self.inside.texts.keys c.in-Some.index c.in-Some.ensures.index ∙ numbered c.self.inside.texts.keys c.args.self.now c.args.text.now c.self.view_is

pub returns-in-Some-clause-added : goal.returns-in-Some-clause-added
returns-in-Some-clause-added c =
    let there : is_known c.args.self.now c.args.text.now ≡ true = known c.self.inside.texts.keys c.args.self.now c.args.text.now c.self.view_is ∙ sym c.in-Some.ensures.found in
    rw there refl

pub returns-in-Some-clause-full : goal.returns-in-Some-clause-full
returns-in-Some-clause-full c =
    let there : is_known c.args.self.now c.args.text.now ≡ true = known c.self.inside.texts.keys c.args.self.now c.args.text.now c.self.view_is ∙ sym c.in-Some.ensures.found in
    (λ e. absurd cc, λ h. absurd (true≢false (sym (ap (λ b. b || nat_lt (length c.args.self.now) 1048576) there) ∙ h)))

pub returns-then-len-ge-MAX_NAMES-clause-full : goal.returns-then-len-ge-MAX_NAMES-clause-full
returns-then-len-ge-MAX_NAMES-clause-full c =
    let ks = c.self.inside.texts.keys in
    let absent : is_known c.args.self.now c.args.text.now ≡ false = known ks c.args.self.now c.args.text.now c.self.view_is ∙ sym c.in_default.ensures.found in
    let long : 1048576 ≤ length c.args.self.now = omega (arith, ap length c.self.view_is, length-map ks string_bytes, c.len.ensures.len, c.if-len-ge-MAX_NAMES.true) in
    let past : nat_lt (length c.args.self.now) 1048576 ≡ false = le-ltb _ _ long in
    (λ e. rw (absent, past) refl, λ h. refl)

pub returns-clause-number : goal.returns-clause-number
returns-clause-number c =
    let ks = c.self.inside.texts.keys in
    c.in_ok-index.ensures.index ∙ ap (λ b. position_or_len (λ k. bytes_eq b (string_bytes k)) ks) c.in_ok-copy.ensures.ok ∙ numbered ks c.args.self.now c.args.text.now c.self.view_is

pub returns-clause-added : goal.returns-clause-added
returns-clause-added c =
    let ks = c.self.inside.texts.keys in
    let text = c.args.text.now in
    let copy = c.in_ok-copy.copy in
    let named : string_bytes copy ≡ text = c.in_ok-copy.ensures.ok in
    let out : list_any (λ k. bytes_eq text (string_bytes k)) ks ≡ false = sym c.in_default.ensures.found in
    let out-copy : list_any (λ k. bytes_eq (string_bytes copy) (string_bytes k)) ks ≡ false = ap (λ b. list_any (λ k. bytes_eq b (string_bytes k)) ks) named ∙ out in
    let absent : is_known c.args.self.now text ≡ false = known ks c.args.self.now text c.self.view_is ∙ out in
    let pushed : c.insert_full.new.self.keys ≡ ks ++ copy ∷ [] = c.in_ok-index.ensures.keys ∙ ap (λ b. if b then ks else ks ++ copy ∷ []) out-copy in
    let seen : map string_bytes c.insert_full.new.self.keys ≡ c.args.self.now ++ text ∷ [] =
    ap (map string_bytes) pushed ∙ map_push string_bytes ks copy ∙ ap (λ ns. ns ++ string_bytes copy ∷ []) c.self.view_is ∙ ap (λ t. c.args.self.now ++ t ∷ []) named in
    rw absent seen

absent : (ks : List (String Global)) (names : List (List ℕ)) (text : List ℕ) → map string_bytes ks ≡ names
    → list_any (λ k. bytes_eq text (string_bytes k)) ks ≡ false → IsTrue (is_known names text) → ⊥
absent ks names text seen out h = true≢false (sym h ∙ known ks names text seen ∙ out)

pub returns-then-len-ge-MAX_NAMES-clause-known : goal.returns-then-len-ge-MAX_NAMES-clause-known
returns-then-len-ge-MAX_NAMES-clause-known c = λ h.
    absurd (absent c.self.inside.texts.keys c.args.self.now c.args.text.now c.self.view_is (sym c.in_default.ensures.found) h)

pub returns-in_err-copy-clause-known : goal.returns-in_err-copy-clause-known
returns-in_err-copy-clause-known c = λ h.
    absurd (absent c.self.inside.texts.keys c.args.self.now c.args.text.now c.self.view_is (sym c.in_default.ensures.found) h)

pub returns-in_err-index-clause-known : goal.returns-in_err-index-clause-known
returns-in_err-index-clause-known c = λ h.
    absurd (absent c.self.inside.texts.keys c.args.self.now c.args.text.now c.self.view_is (sym c.in_default.ensures.found) h)
