-- What was read and answered so far, and how that ends.
use Rattle.std.proofs.Common.{◌≡◌, inl, inr, ℕ, ◌+◌, ◌-◌, ◌≤◌, List, [], ◌∷◌, ◌++◌, length, min, take, Option, Result, Ok, Err, refl, sym, ap, ◌∙◌, subst, append_assoc, append-nil, length-append, arith}
use Rattle.std.proofs.lemmas.List.{take-append-le}
use Rattle.std.proofs.KnownBytes.{Appends-trans, Appends-kept, Consumes-nil, Consumes-kept, Consumes-trans}
use Rattle.std.specs.Io.KnownBytes.{Appends, Consumes, Keeps, IsAtEnd}
use Rattle.cdi_lines.specs.declared.fault.ServeFault.{ServeFault}
use Rattle.cdi_lines.specs.declared.fault.ServeFault.TheVariants as faults
use Rattle.cdi_lines.specs.Lines.{ended_lines, begun_line, last_line, complete_lines, all_lines}
use Rattle.cdi_lines.specs.Served.{Replies, Answered, AreLinesOf, Stops, Stands, Reads, Serves, AnswersEnded}
use Rattle.cdi_lines.proofs.Lines.{complete_lines-append, begun_line-append}
use Rattle.cdi_lines.proofs.Served.{Replies-then, front_all, front_none, starves_after, fails_then}

reads_then : (result : Result (Unit {0}) ServeFault) (a b c : Option (List ℕ)) (read more : List ℕ)
    → Consumes a b read → Reads result b c more → Reads result a c (read ++ more)
reads_then (Ok _) a b c read more x y = (Consumes-trans a b c read more x y.0, y.1)
reads_then (Err faults.Read) a b c read more x y = Consumes-trans a b c read more x y
reads_then (Err faults.Write) a b c read more x y = Consumes-trans a b c read more x y
reads_then (Err faults.Memory) a b c read more x y = Consumes-trans a b c read more x y
reads_then (Err faults.TooLong) a b c read more x y =
    (y.0, subst (λ (l : List ℕ). Consumes a c l) (sym (append_assoc read more (y.0 ∷ []))) (Consumes-trans a b c read (more ++ y.0 ∷ []) x y.1))

-- a read that failed consumed nothing
pub reads_none : (fault : ServeFault) (a b : Option (List ℕ)) → (fault ≡ faults.TooLong → ⊥) → Keeps a b → Reads {T = Unit {0}} (Err fault) a b []
reads_none faults.Read a b short keeps = Consumes-kept a a b [] (Consumes-nil a) keeps
reads_none faults.Write a b short keeps = Consumes-kept a a b [] (Consumes-nil a) keeps
reads_none faults.Memory a b short keeps = Consumes-kept a a b [] (Consumes-nil a) keeps
reads_none faults.TooLong a b short keeps = absurd (short refl)

-- what a read wrote into the front of a buffer, with room for at most so many bytes
pub piece_read : (a b : Option (List ℕ)) (new old : List ℕ) (count most left all : ℕ)
    → count ≤ length new × count ≡ length (take count new) → length new ≡ min most all → most ≡ min left 4096 → Consumes a b (take count new)
    → Consumes a b (take count (new ++ old)) × (count ≡ length (take count (new ++ old))) × (count ≤ left)
piece_read a b new old count most left all bound room is x =
    let same = sym (take-append-le count new old bound.0) in
    (subst (λ (l : List ℕ). Consumes a b l) same x, bound.1 ∙ ap length same, let within = bound.0 in omega arith)

module _ {S : Type 0} (answers : S → List ℕ → List ℕ → S → Type 0) where
  reads_answered : (lines : List (List ℕ)) (s t : S) (fault : ServeFault) (out : List ℕ) (a b : Option (List ℕ)) (read : List ℕ)
      → Answered answers lines s t (Err fault) out → Consumes a b read → Reads {T = Unit {0}} (Err fault) a b read
  reads_answered lines s t faults.Read out a b read x y = y
  reads_answered lines s t faults.TooLong out a b read x y = absurd x
  reads_answered lines s t faults.Memory out a b read x y = y
  reads_answered lines s t faults.Write out a b read x y = y

  reads_to_end : (lines : List (List ℕ)) (s t : S) (result : Result (Unit {0}) ServeFault) (out : List ℕ) (a b : Option (List ℕ)) (read : List ℕ)
      → Answered answers lines s t result out → Consumes a b read × IsAtEnd b → Reads result a b read
  reads_to_end lines s t (Ok _) out a b read x y = y
  reads_to_end lines s t (Err fault) out a b read x y = reads_answered lines s t fault out a b read x y.0

  -- The lines that ended in what was read are answered, and so many bytes may still come.
  pub record Reading (limit left : ℕ) (s t : S) (line : List ℕ) (unread unread_after held held_after : Option (List ℕ)) : Type 0 where
    pub read : List ℕ
    pub out : List ℕ
    pub consumed : Consumes unread unread_after read
    pub written : Appends held held_after out
    pub answered : Replies answers (complete_lines read) s out t
    pub begun : line ≡ begun_line [] read
    pub counted : length read + left ≡ limit

  stops_within : (limit : ℕ) (s t : S) (fault : ServeFault) (read : List ℕ) (after : Option (List ℕ)) (lines : List (List ℕ)) (out : List ℕ)
      → AreLinesOf read after lines → Answered answers lines s t (Err fault) out → Stops limit answers [] s t fault read after out
  stops_within limit s t faults.Read read after lines out are x = absurd x
  stops_within limit s t faults.TooLong read after lines out are x = absurd x
  stops_within limit s t faults.Memory read after lines out are x = (lines, out, are, x, refl)
  stops_within limit s t faults.Write read after lines out are x = (lines, x.0, x.1, are, x.2, x.3)

  pub stops_all : (limit : ℕ) (s t : S) (fault : ServeFault) (read : List ℕ) (after : Option (List ℕ)) (out : List ℕ) → (fault ≡ faults.TooLong → length read ≡ limit)
      → Replies answers (complete_lines read) s out t → Stops limit answers [] s t fault read after out
  stops_all limit s t faults.Read read after out long x = (out, x, refl)
  stops_all limit s t faults.TooLong read after out long x = (out, x, refl, long refl)
  stops_all limit s t faults.Memory read after out long x = (complete_lines read, out, inl refl, starves_after answers _ s t out x, refl)
  stops_all limit s t faults.Write read after out long x =
      (complete_lines read, out, [], inl refl, front_all answers _ s t out x, sym (append-nil out))

  -- nothing more is read, nor written
  pub reading_stops : (limit left : ℕ) (s t : S) (line : List ℕ) (fault : ServeFault) (a b c u v w : Option (List ℕ))
      → Reading limit left s t line a b u v → (fault ≡ faults.TooLong → left ≡ 0) → Reads {T = Unit {0}} (Err fault) b c [] → Keeps v w
      → Serves limit answers [] s t (Err fault) a c u w
  reading_stops limit left s t line fault a b c u v w x long reads keeps = record {
    read = x.read;
    out = x.out;
    within = let whole = x.counted in omega arith;
    consumed = subst (λ (l : List ℕ). Reads {T = Unit {0}} (Err fault) a c l) (append-nil x.read) (reads_then (Err fault) a b c x.read [] x.consumed reads);
    written = Appends-kept u v w x.out x.written keeps;
    stands = stops_all limit s t fault x.read c x.out (λ is. let none = long is in omega arith) x.answered;
  }

  -- what the output holds back is passed on
  pub reading_waits : (limit left : ℕ) (s t : S) (line : List ℕ) (a b u v w : Option (List ℕ))
      → Reading limit left s t line a b u v → Keeps v w → Reading limit left s t line a b u w
  reading_waits limit left s t line a b u v w x keeps = record {
    read = x.read;
    out = x.out;
    consumed = x.consumed;
    written = Appends-kept u v w x.out x.written keeps;
    answered = x.answered;
    begun = x.begun;
    counted = x.counted;
  }

  -- the next piece is answered
  pub reading_goes_on : (limit left : ℕ) (s m t : S) (line later : List ℕ) (a b c u v w : Option (List ℕ)) (piece out : List ℕ) (count : ℕ)
      → Reading limit left s m line a b u v → Consumes b c piece → count ≡ length piece → count ≤ left
      → Appends v w out → Replies answers (ended_lines line piece) m out t → later ≡ begun_line line piece
      → Reading limit (left - count) s t later a c u w
  reading_goes_on limit left s m t line later a b c u v w piece out count x came counts within grows y begun = record {
    read = x.read ++ piece;
    out = x.out ++ out;
    consumed = Consumes-trans a b c x.read piece x.consumed came;
    written = Appends-trans u v w x.out out x.written grows;
    answered = rw (complete_lines-append x.read piece, ← x.begun) (Replies-then answers (complete_lines x.read) (ended_lines line piece) s m t x.out out x.answered y);
    begun = begun ∙ ap (λ (l : List ℕ). begun_line l piece) x.begun ∙ sym (begun_line-append [] x.read piece);
    counted = let sum = length-append x.read piece in let whole = x.counted in omega arith;
  }

  -- answering the next piece failed
  pub reading_fails : (limit left : ℕ) (s m t : S) (line : List ℕ) (fault : ServeFault) (a b c u v w : Option (List ℕ)) (piece out : List ℕ) (count : ℕ)
      → Reading limit left s m line a b u v → Consumes b c piece → count ≡ length piece → count ≤ left → Appends v w out → Answered answers (ended_lines line piece) m t (Err fault) out
      → Serves limit answers [] s t (Err fault) a c u w
  reading_fails limit left s m t line fault a b c u v w piece out count x came counts fits grows y =
      let ended = fails_then answers (complete_lines x.read) (ended_lines line piece) s m t fault x.out out x.answered y in
      let same : complete_lines x.read ++ ended_lines line piece ≡ complete_lines (x.read ++ piece) =
      ap (λ (l : List ℕ). complete_lines x.read ++ ended_lines l piece) x.begun ∙ sym (complete_lines-append x.read piece) in
      let all = subst (λ (l : List (List ℕ)). Answered answers l s t (Err fault) (x.out ++ out)) same ended in
      record {
        read = x.read ++ piece;
        out = x.out ++ out;
        within = let sum = length-append x.read piece in let whole = x.counted in omega arith;
        consumed = reads_answered _ s t fault (x.out ++ out) a c (x.read ++ piece) all (Consumes-trans a b c x.read piece x.consumed came);
        written = Appends-trans u v w x.out out x.written grows;
        stands = stops_within limit s t fault (x.read ++ piece) c (complete_lines (x.read ++ piece)) (x.out ++ out) (inl refl) all;
      }

  pub stops_greeted : (limit : ℕ) (greeting : List ℕ) (s t : S) (fault : ServeFault) (read : List ℕ) (after : Option (List ℕ)) (out : List ℕ)
      → Stops limit answers [] s t fault read after out → Stops limit answers greeting s t fault read after (greeting ++ out)
  stops_greeted limit greeting s t faults.Read read after out x = (x.0, x.1, ap (λ (l : List ℕ). greeting ++ l) x.2)
  stops_greeted limit greeting s t faults.TooLong read after out x = (x.0, x.1, ap (λ (l : List ℕ). greeting ++ l) x.2, x.3)
  stops_greeted limit greeting s t faults.Memory read after out x = (x.0, x.1, x.2, x.3, ap (λ (l : List ℕ). greeting ++ l) x.4)
  stops_greeted limit greeting s t faults.Write read after out x =
      (x.0, x.1, x.2, x.3, x.4, ap (λ (l : List ℕ). greeting ++ l) x.5 ∙ sym (append_assoc greeting out x.2))

  -- all of this after a greeting
  pub serves_greeted : (limit : ℕ) (greeting : List ℕ) (s t : S) (fault : ServeFault) (a b u v w : Option (List ℕ))
      → Appends u v greeting → Serves limit answers [] s t (Err fault) a b v w → Serves limit answers greeting s t (Err fault) a b u w
  serves_greeted limit greeting s t fault a b u v w grows x = record {
    read = x.read;
    out = greeting ++ x.out;
    within = x.within;
    consumed = x.consumed;
    written = Appends-trans u v w greeting x.out grows x.written;
    stands = stops_greeted limit greeting s t fault x.read b x.out x.stands;
  }

  -- the greeting was not written whole
  pub greeting_fails : (limit : ℕ) (greeting part rest : List ℕ) (s : S) (a u v : Option (List ℕ)) → part ++ rest ≡ greeting → Appends u v part
      → Serves limit answers greeting s s (Err faults.Write) a a u v
  greeting_fails limit greeting part rest s a u v split grows = record {
    read = [];
    out = part;
    within = omega arith;
    consumed = Consumes-nil a;
    written = grows;
    stands = ([], [], rest, inl refl, front_none answers [] s, append-nil greeting ∙ sym split);
  }

  stands_last : (limit : ℕ) (greeting : List ℕ) (s m t : S) (result : Result (Unit {0}) ServeFault) (read : List ℕ) (after : Option (List ℕ)) (line a b : List ℕ)
      → IsAtEnd after → line ≡ begun_line [] read → Replies answers (complete_lines read) s a m → Answered answers (last_line line) m t result b
      → Stands limit answers greeting s t result read after (greeting ++ (a ++ b))
  stands_last limit greeting s m t (Ok _) read after line a b end begun x y = (
    a ++ b,
    Replies-then answers (complete_lines read) (last_line (begun_line [] read)) s m t a b x
        (subst (λ (l : List ℕ). Replies answers (last_line l) m b t) begun y),
    refl,
  )
  stands_last limit greeting s m t (Err fault) read after line a b end begun x y =
      stops_greeted limit greeting s t fault read after (a ++ b) (stops_within limit s t fault read after (all_lines read) (a ++ b) (inr (end, refl))
      (fails_then answers (complete_lines read) (last_line (begun_line [] read)) s m t fault a b x
      (subst (λ (l : List ℕ). Answered answers (last_line l) m t (Err fault) b) begun y)))

  -- and what stood behind the last line feed
  pub serves_last : (limit : ℕ) (greeting : List ℕ) (s m t : S) (result : Result (Unit {0}) ServeFault) (line given : List ℕ) (a b u v w z : Option (List ℕ)) (out : List ℕ)
      → Appends u v greeting → AnswersEnded limit answers s m line a b v w → given ≡ line → Appends w z out → Answered answers (last_line given) m t result out
      → Serves limit answers greeting s t result a b u z
  serves_last limit greeting s m t result line given a b u v w z out greeted x same grows y = record {
    read = x.read;
    out = greeting ++ (x.out ++ out);
    within = x.within;
    consumed = reads_to_end _ m t result out a b x.read y x.consumed;
    written = Appends-trans u v z greeting (x.out ++ out) greeted (Appends-trans v w z x.out out x.written grows);
    stands = stands_last limit greeting s m t result x.read b given x.out out x.consumed.1 (same ∙ x.begun) x.answered y;
  }
