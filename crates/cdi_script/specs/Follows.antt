-- Bodies that run scripts.
use Rattle.std.specs.Prelude.{◌≡◌, List, [], ◌∷◌, ⊤}
use Rattle.cdi_base.specs.declared.act.Act.{Act}
use Rattle.cdi_base.specs.declared.fields.Fields.{Fields}
use Rattle.cdi_bodies.specs.declared.entry.Entry.{Entry}
use Rattle.cdi_bodies.specs.declared.view.View.{View}
use Rattle.cdi_bodies.specs.Gives.{Promises}
use Rattle.cdi_script.specs.declared.step.Step.{Step}
use Rattle.cdi_script.specs.Next.{next_of}

-- the body gives only what the script does next
abbrev pub Runs : {X : Type 0} {F : X → Type 0} {g : _} → Entry X F g → List Step → Type 0
Runs e steps =
    (fields : Fields) (view : View) (act : Act) → Promises e fields view act
    → act ≡ next_of steps fields view

-- each body runs the script at its place
abbrev pub Follows : {X : Type 0} {F : X → Type 0} {g : _} → List (Entry X F g) → List (List Step)
    → Type 0
Follows [] [] = ⊤
Follows [] (script ∷ scripts) = ⊥
Follows (e ∷ es) [] = ⊥
Follows (e ∷ es) (script ∷ scripts) = Runs e script × Follows es scripts
