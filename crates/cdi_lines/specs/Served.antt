-- Lines that a responder answers, and what stands where serving them ended.
use Rattle.std.specs.Prelude.{◌≡◌, ℕ, ◌≤◌, ◌⊎◌, Bool, true, List, [], ◌∷◌, ◌++◌, length, Option, Result, Ok, Err}
use Rattle.std.specs.Io.KnownBytes.{Appends, Consumes, IsAtEnd}
use Rattle.cdi_lines.specs.declared.fault.ServeFault.{ServeFault}
use Rattle.cdi_lines.specs.declared.fault.ServeFault.TheVariants as faults
use Rattle.cdi_lines.specs.Lines.{begun_line, complete_lines, all_lines}

-- ---- lines and their replies

-- each line is answered in turn, and out is the replies, one after the other
abbrev pub Replies : {S : Type 0} → (S → List ℕ → List ℕ → S → Type 0) → List (List ℕ) → S → List ℕ
    → S → Type 0
Replies answers [] s out t = (out ≡ []) × (t ≡ s)
Replies {S} answers (line ∷ lines) s out t =
    (reply : List ℕ) × (mid : S) × (rest : List ℕ)
    × answers s line reply mid × Replies answers lines mid rest t × (out ≡ reply ++ rest)

-- the same for the first of the lines, however many
abbrev pub RepliesToFront : {S : Type 0} → (S → List ℕ → List ℕ → S → Type 0) → List (List ℕ) → S
    → List ℕ → S → Type 0
RepliesToFront answers all s out t =
    (lines : List (List ℕ)) × (more : List (List ℕ)) × (all ≡ lines ++ more)
    × Replies answers lines s out t

-- the line is not answered, and nothing has changed; or it is, and the reply is lost
abbrev pub LosesReply : {S : Type 0} → (S → List ℕ → List ℕ → S → Type 0) → S → List ℕ → S → Type 0
LosesReply answers s line t = (t ≡ s) ⊎ ((reply : List ℕ) × answers s line reply t)

-- so for the first of these lines, if there is one
abbrev pub LosesNext : {S : Type 0} → (S → List ℕ → List ℕ → S → Type 0) → List (List ℕ) → S → S
    → Type 0
LosesNext answers lines s t =
    (t ≡ s)
    ⊎ ((line : List ℕ) × (later : List (List ℕ)) × (reply : List ℕ)
    × (lines ≡ line ∷ later) × answers s line reply t)

-- the first of the lines are answered, however many, and then a reply may be lost
abbrev pub StarvesWithin : {S : Type 0} → (S → List ℕ → List ℕ → S → Type 0) → List (List ℕ) → S
    → List ℕ → S → Type 0
StarvesWithin {S} answers all s out t =
    (lines : List (List ℕ)) × (more : List (List ℕ)) × (mid : S)
    × (all ≡ lines ++ more) × Replies answers lines s out mid × LosesNext answers more mid t

-- What answering these lines wrote: all replies; those to the first lines, where memory ran out; or a front part of
-- those, where a write failed. Nothing is read here, so no other fault comes.
abbrev pub Answered : {S : Type 0} → (S → List ℕ → List ℕ → S → Type 0) → List (List ℕ) → S → S
    → Result (Unit {0}) ServeFault → List ℕ → Type 0
Answered answers lines s t (Ok _) out = Replies answers lines s out t
Answered answers lines s t (Err faults.Memory) out = StarvesWithin answers lines s out t
Answered answers lines s t (Err faults.Write) out =
    (replies : List ℕ) × (unwritten : List ℕ) × RepliesToFront answers lines s replies t
    × (replies ≡ out ++ unwritten)
Answered answers lines s t (Err faults.Read) out = ⊥
Answered answers lines s t (Err faults.TooLong) out = ⊥

-- ---- where serving ended

-- The lines of what was read: those that a line feed ends, and where nothing is left to be read, all.
abbrev pub AreLinesOf : List ℕ → Option (List ℕ) → List (List ℕ) → Type 0
AreLinesOf read unread lines =
    (lines ≡ complete_lines read) ⊎ (IsAtEnd unread × (lines ≡ all_lines read))

-- what stands written where serving ended with a fault, of what was read, and with so much unread
abbrev pub Stops : {S : Type 0} → ℕ → (S → List ℕ → List ℕ → S → Type 0) → List ℕ → S → S
    → ServeFault → List ℕ → Option (List ℕ) → List ℕ → Type 0
Stops limit answers greeting s t faults.Read read unread out =
    (replies : List ℕ) × Replies answers (complete_lines read) s replies t
    × (out ≡ greeting ++ replies)
Stops limit answers greeting s t faults.TooLong read unread out =
    (replies : List ℕ) × Replies answers (complete_lines read) s replies t
    × (out ≡ greeting ++ replies) × (length read ≡ limit)
Stops limit answers greeting s t faults.Memory read unread out =
    (lines : List (List ℕ)) × (replies : List ℕ)
    × AreLinesOf read unread lines × StarvesWithin answers lines s replies t
    × (out ≡ greeting ++ replies)
Stops limit answers greeting s t faults.Write read unread out =
    (lines : List (List ℕ)) × (replies : List ℕ) × (unwritten : List ℕ)
    × AreLinesOf read unread lines × RepliesToFront answers lines s replies t
    × (greeting ++ replies ≡ out ++ unwritten)

-- and where it ended with any result
abbrev pub Stands : {S : Type 0} → ℕ → (S → List ℕ → List ℕ → S → Type 0) → List ℕ → S → S
    → Result (Unit {0}) ServeFault → List ℕ → Option (List ℕ) → List ℕ → Type 0
Stands limit answers greeting s t (Ok _) read unread out =
    (replies : List ℕ) × Replies answers (all_lines read) s replies t × (out ≡ greeting ++ replies)
Stands limit answers greeting s t (Err fault) read unread out =
    Stops limit answers greeting s t fault read unread out

-- Known bytes lose what was read, to their end if all went well. Where that was too long, they lose one byte more.
abbrev pub Reads : {T : Type 0} → Result T ServeFault → Option (List ℕ) → Option (List ℕ) → List ℕ
    → Type 0
Reads (Ok _) old new read = Consumes old new read × IsAtEnd new
Reads (Err faults.TooLong) old new read = (byte : ℕ) × Consumes old new (read ++ byte ∷ [])
Reads (Err faults.Read) old new read = Consumes old new read
Reads (Err faults.Write) old new read = Consumes old new read
Reads (Err faults.Memory) old new read = Consumes old new read

-- A fault of reading is told where the source has failed, and one of writing where the sink has. Otherwise each is as it
-- was: whether it had failed before, and whether it has after.
abbrev pub Blames : {T : Type 0} → Result T ServeFault → Bool → Bool → Bool → Bool → Type 0
Blames (Ok _) source source_after sink sink_after = (source_after ≡ source) × (sink_after ≡ sink)
Blames (Err faults.Read) source source_after sink sink_after =
    (source_after ≡ true) × (sink_after ≡ sink)
Blames (Err faults.Write) source source_after sink sink_after =
    (source_after ≡ source) × (sink_after ≡ true)
Blames (Err faults.TooLong) source source_after sink sink_after =
    (source_after ≡ source) × (sink_after ≡ sink)
Blames (Err faults.Memory) source source_after sink sink_after =
    (source_after ≡ source) × (sink_after ≡ sink)

-- Serving lines, at most limit bytes of them, led the responder from s to t, and ended with this result. The known bytes
-- are those of the source and of the sink, before and after.
pub record Serves {S : Type 0} (limit : ℕ) (answers : S → List ℕ → List ℕ → S → Type 0)
    (greeting : List ℕ) (s t : S)
    (result : Result (Unit {0}) ServeFault) (unread unread_after held held_after : Option (List ℕ))
    : Type 0 where
  pub read : List ℕ
  pub out : List ℕ
  pub within : length read ≤ limit
  pub consumed : Reads result unread unread_after read
  pub written : Appends held held_after out
  pub stands : Stands limit answers greeting s t result read unread_after out

-- All was read, and each line that a line feed ends is answered. What stands behind the last is left.
pub record AnswersEnded {S : Type 0} (limit : ℕ) (answers : S → List ℕ → List ℕ → S → Type 0)
    (s t : S)
    (left : List ℕ) (unread unread_after held held_after : Option (List ℕ)) : Type 0 where
  pub read : List ℕ
  pub out : List ℕ
  pub within : length read ≤ limit
  pub consumed : Consumes unread unread_after read × IsAtEnd unread_after
  pub written : Appends held held_after out
  pub answered : Replies answers (complete_lines read) s out t
  pub begun : left ≡ begun_line [] read
