-- What a chooser may pick.
use Rattle.std.specs.Prelude.{ℕ}
use Rattle.std.specs.declared.alloc.Global.{Global}
use Rattle.std.specs.declared.dyn_box.DynBox.{DynBox}
use Rattle.cdi_bodies.specs.declared.chooser.Chooser.{Chooser}

abbrev pub choice_of : {X : Type 0} {F : X → Type 0} {g : _} → Chooser X F g → DynBox X Global F
choice_of chooser = chooser.choice

-- the chooser's choice promises that this may be its answer, of so many candidates and after so many entries
abbrev pub picks : {X : Type 0} {F : X → Type 0} {g : _} → Chooser X F g → ℕ → ℕ → ℕ → Type 0
picks {g =
    g} chooser count entries answer = g.post (chooser.choice.vtable, chooser.choice.value) (
      count,
      (entries, tt),
    ) answer
