-- What is said of a responder holds of what stands for it.
use Rattle.std.proofs.Common.{inl, inr, ◌∷◌, [], List, ℕ, ap, subst, sym, Option, Ok, Err}
use Rattle.std.specs.Prelude.{Result}
use Rattle.cdi_lines.specs.declared.fault.ServeFault.{ServeFault}
use Rattle.cdi_lines.specs.declared.fault.ServeFault.TheVariants as faults
use Rattle.cdi_lines.specs.Lines.{complete_lines, all_lines}
use Rattle.cdi_lines.specs.Served.{Replies, RepliesToFront, LosesNext, StarvesWithin, Stands, Serves}

module _ {S T : Type 0} (A : S → List ℕ → List ℕ → S → Type 0) (B : T → List ℕ → List ℕ → T → Type 0) (f : S → T) (Keeps : S → Type 0)
    (keeps : (s : S) (line text : List ℕ) (t : S) → Keeps s → A s line text t → Keeps t)
    (maps : (s : S) (line text : List ℕ) (t : S) → Keeps s → A s line text t → B (f s) line text (f t)) where
  replies : (lines : List (List ℕ)) (s : S) (out : List ℕ) (t : S) → Keeps s → Replies A lines s out t → Replies B lines (f s) out (f t)
  replies [] s out t k h = (h.0, ap f h.1)
  replies (line ∷ lines) s out t k (text, mid, rest, a, more, is) = (text, f mid, rest, maps s line text mid k a, replies lines mid rest t (keeps s line text mid k a) more, is)

  kept : (lines : List (List ℕ)) (s : S) (out : List ℕ) (t : S) → Keeps s → Replies A lines s out t → Keeps t
  kept [] s out t k h = subst Keeps (sym h.1) k
  kept (line ∷ lines) s out t k (text, mid, rest, a, more, is) = kept lines mid rest t (keeps s line text mid k a) more

  front : (all : List (List ℕ)) (s : S) (out : List ℕ) (t : S) → Keeps s → RepliesToFront A all s out t → RepliesToFront B all (f s) out (f t)
  front all s out t k (lines, more, is, h) = (lines, more, is, replies lines s out t k h)

  loses : (lines : List (List ℕ)) (s t : S) → Keeps s → LosesNext A lines s t → LosesNext B lines (f s) (f t)
  loses lines s t k (inl same) = inl (ap f same)
  loses lines s t k (inr (line, later, reply, is, a)) = inr (line, later, reply, is, maps s line reply t k a)

  starves : (all : List (List ℕ)) (s : S) (out : List ℕ) (t : S) → Keeps s → StarvesWithin A all s out t → StarvesWithin B all (f s) out (f t)
  starves all s out t k (lines, more, mid, is, h, lost) = (lines, more, f mid, is, replies lines s out mid k h, loses more mid t (kept lines s out mid k h) lost)

  stands : (limit : ℕ) (greeting : List ℕ) (s t : S) (result : Result (Unit {0}) ServeFault) (read : List ℕ) (after : Option (List ℕ)) (out : List ℕ) → Keeps s
      → Stands limit A greeting s t result read after out → Stands limit B greeting (f s) (f t) result read after out
  stands limit greeting s t (Ok x) read after out k (text, h, is) = (text, replies (all_lines read) s text t k h, is)
  stands limit greeting s t (Err faults.Read) read after out k (text, h, is) = (text, replies (complete_lines read) s text t k h, is)
  stands limit greeting s t (Err faults.TooLong) read after out k (text, h, is, long) = (text, replies (complete_lines read) s text t k h, is, long)
  stands limit greeting s t (Err faults.Memory) read after out k (lines, text, are, h, is) = (lines, text, are, starves lines s text t k h, is)
  stands limit greeting s t (Err faults.Write) read after out k (lines, text, unwritten, are, h, is) = (lines, text, unwritten, are, front lines s text t k h, is)

  pub serves : (limit : ℕ) (greeting : List ℕ) (s t : S) (result : Result (Unit {0}) ServeFault) (a b c d : Option (List ℕ)) → Keeps s → Serves limit A greeting s t result a b c d → Serves limit B greeting (f s) (f t) result a b c d
  serves limit greeting s t result a b c d k h =
      record { read = h.read; out = h.out; consumed = h.consumed; within = h.within; written = h.written; stands = stands limit greeting s t result h.read b h.out k h.stands }
