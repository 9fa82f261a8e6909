-- The entries among the items of a run are its trace.
use Rattle.std.proofs.Common.{◌≡◌, List, [], ◌∷◌, ◌++◌, refl, sym, ap, ◌∙◌}
use Rattle.std.proofs.lemmas.List.{append_assoc, append-nil}
use Rattle.cdi_base.specs.declared.entry.Entry.{Entry}
use Rattle.cdi_machine.specs.Tables.{Tables}
use Rattle.cdi_machine.specs.World.{World, Change}
use Rattle.cdi_machine.specs.Programs.{Given, Prog}
use Rattle.cdi_machine.specs.Runs.{Legal, Outcome, Runs}
use Rattle.cdi_machine.proofs.Order.{changed_still}
use Rattle.cdi_ledger.specs.Ledger.{Item, Wrote, with_birth, items_of}
use Rattle.cdi_ledger.specs.Stories.{entries_in, AddsItsTrace}

no_entry : (g : Change) (w : World) (h : List Item) → entries_in (with_birth g w h) ≡ entries_in h
no_entry (Change.Make component owner fields) w h = refl
no_entry _ w h = refl

module _ (tables : Tables) (legal : Legal) (Starved : Type 0) where
  adds : (x : List Entry) {p : Prog Given} {w v : World} {o : Outcome} (h : List Item) (r : Runs tables legal Starved p w o v) → entries_in h ≡ x ++ w.trace → entries_in (items_of h r) ≡ x ++ v.trace
  adds x h Runs.returns e = e
  adds x h Runs.throws e = e
  adds x h Runs.cuts e = e
  adds x h (Runs.misses r) e = adds x h r e
  adds x h (Runs.sees r) e = adds x h r e
  adds x h (Runs.changes {g = g} {w = w} r) e = adds x (with_birth g w h) r (no_entry g w h ∙ (e ∙ ap (λ z. x ++ z) (sym ((changed_still g w).trace))))
  adds x h (Runs.writes {e = y} {w = w} l r) e = adds x (Wrote y ∷ h) r (ap (λ z. z ++ y ∷ []) e ∙ append_assoc x w.trace (y ∷ []))
  adds x h (Runs.is_full l) e = e
  adds x h (Runs.marks r) e = adds x _ r e
  adds x h (Runs.does a l r) e = adds x h r e
  adds x h (Runs.picks i l c r) e = adds x h r e
  adds x h (Runs.calls r1 r) e = adds x (items_of h r1) r (adds x h r1 e)
  adds x h (Runs.starves s) e = e

  pub adds_its_trace : AddsItsTrace tables legal Starved
  adds_its_trace h w v c o r = adds (entries_in h) h r (sym (append-nil (entries_in h)))
