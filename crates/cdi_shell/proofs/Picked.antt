-- What a chooser may pick is what its choice promises.
use Rattle.std.proofs.Common.{◌≡◌, ℕ, subst}
use Rattle.std.specs.declared.alloc.Global.{Global}
use Rattle.std.specs.declared.dyn_box.DynBox.{DynBox}
use Rattle.cdi_bodies.specs.declared.chooser.Chooser.{Chooser}
use Rattle.cdi_bodies.specs.Picks.{choice_of, picks}

pub picked : {X : Type 0} {F : X → Type 0} {g : _} (chooser : Chooser X F g) (choice : DynBox X Global F) → choice_of chooser ≡ choice
    → (candidates entries pick : ℕ) → picks chooser candidates entries pick → g.post (choice.vtable, choice.value) (candidates, (entries, tt)) pick
picked {X = X} {F = F} {g = g} chooser choice is candidates entries pick h =
    subst (λ (b : DynBox X Global F). g.post (b.vtable, b.value) (candidates, (entries, tt)) pick) is h
