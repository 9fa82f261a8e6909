-- What a driver has been through, and why it ended.
use Rattle.std.specs.Prelude.{ℕ, ◌+◌, List, [], ◌∷◌, ◌++◌}
use Rattle.cdi_base.specs.declared.entry.Entry.{Entry}
use Rattle.cdi_base.specs.declared.entry.Entry.TheVariants as entries
use Rattle.cdi_bodies.specs.declared.view.View.{View}
use Rattle.cdi_machine.specs.Words.{Fields}

-- for how many acts and picks it was asked, and the entries that it was told
pub record Hearing : Type 0 where
  pub asked : ℕ
  pub told : List Entry

abbrev pub with_asking : Hearing → Hearing
with_asking h = record h { asked = h.asked + 1 }

abbrev pub with_told : Entry → Hearing → Hearing
with_told e h = record h { told = h.told ++ e ∷ [] }

-- an act and a pick are answers of a driver, and no other entry
abbrev pub answers_of : Entry → ℕ
answers_of (entries.Did a) = 1
answers_of (entries.Pick count choice) = 1
answers_of _ = 0

-- how many of the entries are such answers
abbrev pub answers_in : List Entry → ℕ
answers_in [] = 0
answers_in (e ∷ es) = answers_of e + answers_in es

-- behind these entries
abbrev pub after : Hearing → List Entry → Hearing
after h es = record { asked = h.asked + answers_in es; told = h.told ++ es }

-- what it may have been through, before and then: it was asked once
pub record IsAsked (before then : Hearing → Type 0) : Type 0 where
  pub heard : (h : Hearing) → before h → then (with_asking h)

-- it was told an entry
pub record IsTold (e : Entry) (before then : Hearing → Type 0) : Type 0 where
  pub heard : (h : Hearing) → before h → then (with_told e h)

-- it has not ended
pub record HasNotEnded (before then : Hearing → Type 0) : Type 0 where
  pub heard : (h : Hearing) → before h → (k : Hearing) × then k

-- it has ended, after what it had been through, and was one that may end
pub record HasEnded (MayEnd : Type 0) (before ended : Hearing → Type 0) : Type 0 where
  pub may_end : MayEnd
  pub heard : (h : Hearing) → before h → ended h

-- why a driver ended
pub data Ending : Type 0 where
  -- this entry was due
  Due : Entry → Ending
  -- the act of this body was asked for behind so many entries, at these fields of its instance and what it sees
  ActAsked : ℕ → ℕ → Fields → View → Ending
  -- one of so many candidates was asked for, behind so many entries
  PickAsked : ℕ → ℕ → Ending
