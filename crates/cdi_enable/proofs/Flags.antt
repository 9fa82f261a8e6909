-- A list of flags, each added at the end.
use Rattle.std.proofs.Common.{◌≡◌, ◌∙◌, ◌↔◌, ℕ, ◌+◌, ◌<◌, ◌≤◌, Bool, false, List, [], ◌∷◌, ◌++◌, length, Option, IsTrue, sym, ap, subst, ◌⊎◌, inl, inr, arith}
use Rattle.std.proofs.Math.Seq.{get_or-append_seam}
use Rattle.std.proofs.lemmas.Bool.{cases_eq, cases_lt, true≢false}
use Rattle.std.proofs.lemmas.List.{get_or_append_left, get_or_past}
use Rattle.std.proofs.lemmas.Option.{slice_get_past}
use Rattle.std.specs.List.{slice_get}
use Rattle.cdi_enable.specs.declared.listed_bean.ListedBean.{ListedBean}
use Rattle.cdi_enable.specs.declared.managed_bean.ManagedBean.{ManagedBean}
use Rattle.cdi_enable.specs.Enablement.{Enablement, IsEnabledBean, AreFlags}
use Rattle.cdi_enable.specs.Free.{flag, IsFree}
use Rattle.cdi_enable.proofs.Free.{not_past}

-- what holds of each bean with its flag, and of one bean more with its own
pub flag_push : (Q : ℕ → Bool → Type 0) (flags : List Bool) (r : Bool) (n : ℕ) → length flags ≡ n → ((b : ℕ) → b < n → Q b (flag flags b)) → Q n r → (b : ℕ) → b < n + 1 → Q b (flag (flags ++ r ∷ []) b)
flag_push Q flags r n len told last b lt = by (cases_eq b n)
  where
    by : (b ≡ n) ⊎ (b ≡ n → ⊥) → Q b (flag (flags ++ r ∷ []) b)
    by (inl same) =
        let e : flag (flags ++ r ∷ []) n ≡ r = ap (flag (flags ++ r ∷ [])) (sym len) ∙ get_or-append_seam flags r [] false in
        let P : ℕ → Type 0 = λ m. Q m (flag (flags ++ r ∷ []) m) in
        subst P (sym same) (subst (Q n) (sym e) last)
    by (inr other) = subst (Q b) (sym (get_or_append_left flags (r ∷ []) false b (omega arith))) (told b (omega arith))

-- past the last bean there is neither
pub flags_all : (beans : List ManagedBean) (flags : List Bool) (n : ℕ) → length flags ≡ n → length beans ≤ n → ((b : ℕ) → b < n → IsTrue (flag flags b) ↔ IsFree beans b) → (b : ℕ) → IsTrue (flag flags b) ↔ IsFree beans b
flags_all beans flags n len past told b =
    elim (cases_lt b n) [
      | inl lt ↦ told b lt
      | inr le ↦ (λ h. absurd (true≢false (sym h ∙ get_or_past flags b false (omega arith))), λ free. absurd (true≢false (sym free.0 ∙ not_past beans b (omega arith))))
    ]

-- past the last bean of a list none is enabled
pub all_flagged : (e : Enablement) (flags : List Bool) (n : ℕ) → length flags ≡ n → n ≡ length e.beans → ((b : ℕ) → b < n → IsEnabledBean e (slice_get e.beans b) (flag flags b)) → AreFlags e flags
all_flagged e flags n len all told = record {
  len = len ∙ all;
  each = λ b. elim (cases_lt b n) [ inl lt ↦ told b lt | inr le ↦ past b le ];
}
  where
    past : (b : ℕ) → n ≤ b → IsEnabledBean e (slice_get e.beans b) (flag flags b)
    past b le =
        let P : Option ListedBean → Type 0 = λ o. IsEnabledBean e o (flag flags b) in
        subst P (sym (slice_get_past e.beans b (omega (arith, all)))) (get_or_past flags b false (omega (arith, len)))
