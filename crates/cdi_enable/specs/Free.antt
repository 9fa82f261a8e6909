-- The same without recursion, as the code has it: no bean that may be enabled specializes it. (The most derived of those would be
-- enabled.)
use Rattle.std.specs.Prelude.{ℕ, ◌≡◌, ◌↔◌, List, Bool, true, false, slice_index_or, IsTrue}
use Rattle.cdi_enable.specs.declared.managed_bean.ManagedBean.{ManagedBean}
use Rattle.cdi_enable.specs.Enabled.{graph_of, may_be_enabled, Specializes, IsForest}

abbrev pub IsFree : List ManagedBean → ℕ → Type 0
IsFree beans b =
    (may_be_enabled beans b ≡ true)
    × ((x : ℕ) → may_be_enabled beans x ≡ true → Specializes beans x b → ⊥)

abbrev pub flag : List Bool → ℕ → Bool
flag flags b = slice_index_or flags b false

pub record IsEnabledSetOf (beans : List ManagedBean) (graph : List (List ℕ)) (flags : List Bool)
    : Type 0 where
  pub forest : IsForest beans
  pub edges : graph ≡ graph_of beans
  pub flagged : (b : ℕ) → IsTrue (flag flags b) ↔ IsFree beans b
