-- The lines of bytes that come one part after another.
use Rattle.std.proofs.Common.{◌≡◌, ◌≢◌, All, sym, ◌∙◌, append_assoc, append-nil, eqb-true, ℕ, zero, suc, ◌+◌, ◌<◌, ◌≤◌, ◌==◌, nat_lt, Bool, true, false, cond, Some, None, List, [], ◌∷◌, ◌++◌, length, take, drop, get_or, refl, ap, add-one, drop-cons, arith, if◌then◌else◌}
use Rattle.std.specs.Prelude.{position}
use Rattle.std.specs.List.{position_or_len}
use Rattle.std.proofs.Math.Seq.{take-length, drop-length}
use Rattle.std.proofs.lemmas.List.Quantifiers.{position-Some}
use Rattle.std.proofs.lemmas.List.Sums.{fails_before_first}
use Rattle.std.proofs.lemmas.Bool.{eqb-false}
use Rattle.std.proofs.lemmas.List.Elements.{All-nil, All-cons, All-push, All-append}
use Rattle.cdi_lines.specs.Lines.{ended_lines, begun_line, last_line, complete_lines, all_lines, with_line_feeds, IsOneLine}

pub ended_lines-append : (begun bytes more : List ℕ)
    → ended_lines begun (bytes ++ more) ≡ ended_lines begun bytes ++ ended_lines (begun_line begun bytes) more
ended_lines-append begun [] more = refl
ended_lines-append begun (byte ∷ bytes) more =
    elim (byte == 10) as (λ b. (if b then begun ∷ ended_lines [] (bytes ++ more) else ended_lines (begun ++ byte ∷ []) (bytes ++ more))
    ≡ (if b then begun ∷ ended_lines [] bytes else ended_lines (begun ++ byte ∷ []) bytes)
    ++ ended_lines (if b then begun_line [] bytes else begun_line (begun ++ byte ∷ []) bytes) more) [
      | true ↦ ap (λ (ls : List (List ℕ)). begun ∷ ls) (ended_lines-append [] bytes more)
      | false ↦ ended_lines-append (begun ++ byte ∷ []) bytes more
    ]

pub begun_line-append : (begun bytes more : List ℕ) → begun_line begun (bytes ++ more) ≡ begun_line (begun_line begun bytes) more
begun_line-append begun [] more = refl
begun_line-append begun (byte ∷ bytes) more =
    elim (byte == 10) as (λ b. (if b then begun_line [] (bytes ++ more) else begun_line (begun ++ byte ∷ []) (bytes ++ more))
    ≡ begun_line (if b then begun_line [] bytes else begun_line (begun ++ byte ∷ []) bytes) more) [
      | true ↦ begun_line-append [] bytes more
      | false ↦ begun_line-append (begun ++ byte ∷ []) bytes more
    ]

-- what was read and the next piece
pub complete_lines-append : (read piece : List ℕ)
    → complete_lines (read ++ piece) ≡ complete_lines read ++ ended_lines (begun_line [] read) piece
complete_lines-append read piece = ended_lines-append [] read piece

record Skips (begun bytes : List ℕ) (n : ℕ) : Type 0 where
  pub ended : ended_lines begun bytes ≡ ended_lines (begun ++ take n bytes) (drop n bytes)
  pub goes_on : begun_line begun bytes ≡ begun_line (begun ++ take n bytes) (drop n bytes)

-- bytes in front that are no line feeds are part of the line that has begun
skips : (begun bytes : List ℕ) (n : ℕ) → n ≤ length bytes → ((k : ℕ) → k < n → (get_or bytes k 0 == 10) ≡ false) → Skips begun bytes n
skips begun bytes zero fits none =
    record {
      ended = ap (λ (l : List ℕ). ended_lines l bytes) (sym (append-nil begun));
      goes_on = ap (λ (l : List ℕ). begun_line l bytes) (sym (append-nil begun));
    }
skips begun [] (suc n) fits none = absurd (omega arith)
skips begun (byte ∷ bytes) (suc n) fits none =
    let no : (byte == 10) ≡ false = none 0 (omega arith) in
    let later = skips (begun ++ byte ∷ []) bytes n (omega arith) (λ k below. none (suc k) (omega arith)) in
    let same = append_assoc begun (byte ∷ []) (take n bytes) in
    record {
      ended = rw no (later.ended ∙ ap (λ (l : List ℕ). ended_lines l (drop n bytes)) same);
      goes_on = rw no (later.goes_on ∙ ap (λ (l : List ℕ). begun_line l (drop n bytes)) same);
    }

-- the first line feed ends the line that has begun
pub ended_lines-at_end : (begun bytes : List ℕ) (n : ℕ) → position (λ byte. byte == 10) bytes ≡ Some n
    → ended_lines begun bytes ≡ (begun ++ take n bytes) ∷ ended_lines [] (drop (n + 1) bytes)
ended_lines-at_end begun bytes n is =
    let (within, at, before) = position-Some (λ byte. byte == 10) bytes n 0 is in
    (skips begun bytes n (omega arith) before).ended ∙ rw (add-one, drop-cons bytes n 0, eqb-true _ _ at) refl

pub begun_line-at_end : (begun bytes : List ℕ) (n : ℕ) → position (λ byte. byte == 10) bytes ≡ Some n
    → begun_line begun bytes ≡ begun_line [] (drop (n + 1) bytes)
begun_line-at_end begun bytes n is =
    let (within, at, before) = position-Some (λ byte. byte == 10) bytes n 0 is in
    (skips begun bytes n (omega arith) before).goes_on ∙ rw (add-one, drop-cons bytes n 0, eqb-true _ _ at) refl

-- where there is none, no line ends
none_before : (bytes : List ℕ) → position (λ byte. byte == 10) bytes ≡ None → (k : ℕ) → k < length bytes → (get_or bytes k 0 == 10) ≡ false
none_before bytes is k below = fails_before_first (λ byte. byte == 10) bytes k 0 (by (nat_lt (position_or_len (λ byte. byte == 10) bytes) (length bytes)) refl is)
  where
    by : (b : Bool) → nat_lt (position_or_len (λ byte. byte == 10) bytes) (length bytes) ≡ b → cond b (Some (position_or_len (λ byte. byte == 10) bytes)) None ≡ None → k < position_or_len (λ byte. byte == 10) bytes
    by true e is = absurd cc
    by false e is = grind arith

pub ended_lines-none : (begun bytes : List ℕ) → position (λ byte. byte == 10) bytes ≡ None → ended_lines begun bytes ≡ []
ended_lines-none begun bytes is =
    (skips begun bytes (length bytes) (omega arith) (none_before bytes is)).ended ∙ ap (λ (l : List ℕ). ended_lines (begun ++ take (length bytes) bytes) l) (drop-length bytes)

pub begun_line-none : (begun bytes : List ℕ) → position (λ byte. byte == 10) bytes ≡ None → begun_line begun bytes ≡ begun ++ bytes
begun_line-none begun bytes is =
    (skips begun bytes (length bytes) (omega arith) (none_before bytes is)).goes_on
    ∙ ap (λ (l : List ℕ). begun_line (begun ++ take (length bytes) bytes) l) (drop-length bytes) ∙ ap (λ (l : List ℕ). begun ++ l) (take-length bytes)

pub last_line-some : (line : List ℕ) → (length line ≡ 0 → ⊥) → last_line line ≡ line ∷ []
last_line-some [] isnt = absurd (isnt refl)
last_line-some (byte ∷ bytes) isnt = refl

joined : (begun bytes : List ℕ) → with_line_feeds (ended_lines begun bytes) ++ begun_line begun bytes ≡ begun ++ bytes
joined begun [] = sym (append-nil begun)
joined begun (byte ∷ bytes) =
    elim (byte == 10) as (λ b. (byte == 10) ≡ b
    → with_line_feeds (if b then begun ∷ ended_lines [] bytes else ended_lines (begun ++ byte ∷ []) bytes)
    ++ (if b then begun_line [] bytes else begun_line (begun ++ byte ∷ []) bytes) ≡ begun ++ byte ∷ bytes) [
      | true ↦ λ is.
          append_assoc begun (10 ∷ with_line_feeds (ended_lines [] bytes)) (begun_line [] bytes)
          ∙ ap (λ (l : List ℕ). begun ++ 10 ∷ l) (joined [] bytes)
          ∙ ap (λ b. begun ++ b ∷ bytes) (sym (eqb-true byte 10 is))
      | false ↦ λ _. joined (begun ++ byte ∷ []) bytes ∙ append_assoc begun (byte ∷ []) bytes
    ] refl

apart : (begun bytes : List ℕ) → IsOneLine begun → All IsOneLine (ended_lines begun bytes) × IsOneLine (begun_line begun bytes)
apart begun [] one = (All-nil IsOneLine, one)
apart begun (byte ∷ bytes) one =
    elim (byte == 10) as (λ b. (byte == 10) ≡ b
    → All IsOneLine (if b then begun ∷ ended_lines [] bytes else ended_lines (begun ++ byte ∷ []) bytes)
    × IsOneLine (if b then begun_line [] bytes else begun_line (begun ++ byte ∷ []) bytes)) [
      | true ↦ λ is.
          let later = apart [] bytes (All-nil (λ b. b ≢ 10)) in (All-cons IsOneLine begun (ended_lines [] bytes) one later.0, later.1)
      | false ↦ λ is. apart (begun ++ byte ∷ []) bytes (All-push (λ b. b ≢ 10) begun byte one (eqb-false byte 10 is))
    ] refl

apart_last : (line : List ℕ) → IsOneLine line → All IsOneLine (last_line line)
apart_last [] one = All-nil IsOneLine
apart_last (byte ∷ bytes) one = All-cons IsOneLine (byte ∷ bytes) [] one (All-nil IsOneLine)

pub lines_joined : (bytes : List ℕ) → with_line_feeds (complete_lines bytes) ++ begun_line [] bytes ≡ bytes
lines_joined bytes = joined [] bytes

pub lines_apart : (bytes : List ℕ) → All IsOneLine (all_lines bytes)
lines_apart bytes =
    let both = apart [] bytes (All-nil (λ b. b ≢ 10)) in
    All-append IsOneLine (complete_lines bytes) (last_line (begun_line [] bytes)) both.0 (apart_last _ both.1)
