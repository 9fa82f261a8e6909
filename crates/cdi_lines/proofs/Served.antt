-- Lines that are answered one part after another.
use Rattle.std.proofs.Common.{◌≡◌, inl, inr, ℕ, List, [], ◌∷◌, ◌++◌, Option, Err, refl, sym, ap, ◌∙◌, subst, append_assoc, append-nil}
use Rattle.std.proofs.KnownBytes.{Appends-trans}
use Rattle.std.specs.Io.KnownBytes.{Appends}
use Rattle.cdi_lines.specs.declared.fault.ServeFault.{ServeFault}
use Rattle.cdi_lines.specs.declared.fault.ServeFault.TheVariants as faults
use Rattle.cdi_lines.specs.Served.{Replies, RepliesToFront, LosesReply, LosesNext, StarvesWithin, Answered}

module _ {S : Type 0} (answers : S → List ℕ → List ℕ → S → Type 0) where
  pub Replies-then : (xs ys : List (List ℕ)) (s m t : S) (a b : List ℕ)
      → Replies answers xs s a m → Replies answers ys m b t → Replies answers (xs ++ ys) s (a ++ b) t
  Replies-then [] ys s m t a b x y =
      subst (λ l. Replies answers ys s (l ++ b) t) (sym x.0) (subst (λ k. Replies answers ys k b t) x.1 y)
  Replies-then (line ∷ xs) ys s m t a b x y =
      let (reply, mid, rest, one, others, joined) = x in
      (reply, mid, rest ++ b, one, Replies-then xs ys mid m t rest b others y, ap (λ (l : List ℕ). l ++ b) joined ∙ append_assoc reply rest b)

  pub Replies-one : (line : List ℕ) (s t : S) (reply : List ℕ) → answers s line reply t → Replies answers (line ∷ []) s reply t
  Replies-one line s t reply x = (reply, t, [], x, (refl, refl), sym (append-nil reply))

  pub front_all : (xs : List (List ℕ)) (s t : S) (a : List ℕ) → Replies answers xs s a t → RepliesToFront answers xs s a t
  front_all xs s t a x = (xs, [], sym (append-nil xs), x)

  pub front_none : (xs : List (List ℕ)) (s : S) → RepliesToFront answers xs s [] s
  front_none xs s = ([], xs, refl, (refl, refl))

  pub front_more : (xs ys : List (List ℕ)) (s t : S) (a : List ℕ) → RepliesToFront answers xs s a t → RepliesToFront answers (xs ++ ys) s a t
  front_more xs ys s t a x =
      let (lines, more, split, replied) = x in
      (lines, more ++ ys, ap (λ (l : List (List ℕ)). l ++ ys) split ∙ append_assoc lines more ys, replied)

  pub front_then : (xs ys : List (List ℕ)) (s m t : S) (a b : List ℕ)
      → Replies answers xs s a m → RepliesToFront answers ys m b t → RepliesToFront answers (xs ++ ys) s (a ++ b) t
  front_then xs ys s m t a b x y =
      let (lines, more, split, replied) = y in
      (xs ++ lines, more, ap (λ (l : List (List ℕ)). xs ++ l) split ∙ sym (append_assoc xs lines more), Replies-then xs lines s m t a b x replied)

  -- the reply to the first of the lines may be lost
  pub loses_first : (line : List ℕ) (later : List (List ℕ)) (s t : S) → LosesReply answers s line t → LosesNext answers (line ∷ later) s t
  loses_first line later s t (inl same) = inl same
  loses_first line later s t (inr x) = inr (line, later, x.0, refl, x.1)

  loses_before : (xs ys : List (List ℕ)) (s t : S) → LosesNext answers xs s t → LosesNext answers (xs ++ ys) s t
  loses_before xs ys s t (inl same) = inl same
  loses_before xs ys s t (inr x) = inr (x.0, x.1 ++ ys, x.2, ap (λ (l : List (List ℕ)). l ++ ys) x.3, x.4)

  -- none of the lines is answered but for the first, and the reply to that is lost
  pub starves_first : (line : List ℕ) (s t : S) → LosesReply answers s line t → StarvesWithin answers (line ∷ []) s [] t
  starves_first line s t x = ([], line ∷ [], s, refl, (refl, refl), loses_first line [] s t x)

  -- all are answered, and no reply is lost
  pub starves_after : (xs : List (List ℕ)) (s t : S) (a : List ℕ) → Replies answers xs s a t → StarvesWithin answers xs s a t
  starves_after xs s t a x = (xs, [], t, sym (append-nil xs), x, inl refl)

  starves_before : (xs ys : List (List ℕ)) (s t : S) (a : List ℕ) → StarvesWithin answers xs s a t → StarvesWithin answers (xs ++ ys) s a t
  starves_before xs ys s t a x =
      let (lines, more, mid, split, replied, lost) = x in
      (lines, more ++ ys, mid, ap (λ (l : List (List ℕ)). l ++ ys) split ∙ append_assoc lines more ys, replied, loses_before more ys mid t lost)

  starves_then : (xs ys : List (List ℕ)) (s m t : S) (a b : List ℕ)
      → Replies answers xs s a m → StarvesWithin answers ys m b t → StarvesWithin answers (xs ++ ys) s (a ++ b) t
  starves_then xs ys s m t a b x y =
      let (lines, more, mid, split, replied, lost) = y in
      (xs ++ lines, more, mid, ap (λ (l : List (List ℕ)). xs ++ l) split ∙ sym (append_assoc xs lines more), Replies-then xs lines s m mid a b x replied, lost)

  -- answering ended within ys, after all of xs
  pub fails_then : (xs ys : List (List ℕ)) (s m t : S) (fault : ServeFault) (a b : List ℕ)
      → Replies answers xs s a m → Answered answers ys m t (Err fault) b → Answered answers (xs ++ ys) s t (Err fault) (a ++ b)
  fails_then xs ys s m t faults.Memory a b x y = starves_then xs ys s m t a b x y
  fails_then xs ys s m t faults.Write a b x y =
      let (replies, unwritten, front, split) = y in
      (a ++ replies, unwritten, front_then xs ys s m t a replies x front, ap (λ (l : List ℕ). a ++ l) split ∙ sym (append_assoc a b unwritten))
  fails_then xs ys s m t faults.Read a b x y = y
  fails_then xs ys s m t faults.TooLong a b x y = y

  -- and then nothing later is answered
  pub fails_before : (xs ys : List (List ℕ)) (s t : S) (fault : ServeFault) (a : List ℕ)
      → Answered answers xs s t (Err fault) a → Answered answers (xs ++ ys) s t (Err fault) a
  fails_before xs ys s t faults.Memory a x = starves_before xs ys s t a x
  fails_before xs ys s t faults.Write a x =
      let (replies, unwritten, front, split) = x in (replies, unwritten, front_more xs ys s t replies front, split)
  fails_before xs ys s t faults.Read a x = x
  fails_before xs ys s t faults.TooLong a x = x

  -- Midway: of all lines, those in front are answered, and the later ones are still to come.
  pub record Midway (all later : List (List ℕ)) (s t : S) (held held_after : Option (List ℕ)) : Type 0 where
    pub front : List (List ℕ)
    pub out : List ℕ
    pub split : all ≡ front ++ later
    pub written : Appends held held_after out
    pub replied : Replies answers front s out t

  pub midway_answered : (all later : List (List ℕ)) (line given : List ℕ) (s m t : S) (u v w : Option (List ℕ)) (b : List ℕ) → given ≡ line
      → Midway all (line ∷ later) s m u v → Appends v w b → Replies answers (given ∷ []) m b t → Midway all later s t u w
  midway_answered all later line given s m t u v w b same x grows y = record {
    front = x.front ++ line ∷ [];
    out = x.out ++ b;
    split = x.split ∙ sym (append_assoc x.front (line ∷ []) later);
    written = Appends-trans u v w x.out b x.written grows;
    replied = Replies-then x.front (line ∷ []) s m t x.out b x.replied (subst (λ (l : List ℕ). Replies answers (l ∷ []) m b t) same y);
  }

  pub midway_fails : (all later : List (List ℕ)) (line given : List ℕ) (s m t : S) (fault : ServeFault) (u v w : Option (List ℕ)) (b : List ℕ) → given ≡ line
      → Midway all (line ∷ later) s m u v → Appends v w b → Answered answers (given ∷ []) m t (Err fault) b
      → (out : List ℕ) × Appends u w out × Answered answers all s t (Err fault) out
  midway_fails all later line given s m t fault u v w b same x grows y =
      let one = subst (λ (l : List ℕ). Answered answers (l ∷ []) m t (Err fault) b) same y in
      let whole = fails_then x.front (line ∷ later) s m t fault x.out b x.replied (fails_before (line ∷ []) later m t fault b one) in (
        x.out ++ b,
        Appends-trans u v w x.out b x.written grows,
        subst (λ (l : List (List ℕ)). Answered answers l s t (Err fault) (x.out ++ b)) (sym x.split) whole,
      )

  -- where no line is left, all are answered
  pub midway_ends : (all later : List (List ℕ)) (s t : S) (u v : Option (List ℕ)) → later ≡ [] → Midway all later s t u v
      → (out : List ℕ) × Appends u v out × Replies answers all s out t
  midway_ends all later s t u v none x =
      (x.out, x.written, subst (λ (l : List (List ℕ)). Replies answers l s x.out t) (sym (x.split ∙ ap (λ (l : List (List ℕ)). x.front ++ l) none ∙ append-nil x.front)) x.replied)
