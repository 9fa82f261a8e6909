-- Sets of what is live, so that a question takes constant time.
use Rattle.std.specs.Prelude.{ℕ, nat_eq, ◌↔◌, IsTrue}
use Rattle.std.specs.HashSet.{HashSet, contains}
use Rattle.cdi_live.specs.Enabled.{Enabled}
use Rattle.cdi_live.specs.Live.{is_live_class, is_live_member, is_live_interceptor, HasFieldsOf}
use Rattle.cdi_live.specs.declared.sets.LiveSets.{LiveSets}
use Rattle.cdi_name_check.specs.NameSets.{HasNames, HasPairs}

-- a set has the names for which a sentence holds
pub record HasThose {S : Type 0} (P : ℕ → Type 0) (set : HashSet ℕ S) : Type 0 where
  pub same : (name : ℕ) → IsTrue (contains nat_eq set name) ↔ P name

-- the sets of what is live
pub record AreLive (e : Enabled) (sets : LiveSets) : Type 0 where
  pub classes : HasNames (is_live_class e.beans) sets.classes
  pub members : HasPairs (is_live_member e.beans) sets.members
  pub with_fields : HasThose (HasFieldsOf e.classes e.types e.beans) sets.with_fields
  pub interceptors : HasNames (is_live_interceptor e.interceptors) sets.interceptors
