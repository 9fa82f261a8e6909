-- A table that follows a list of scripts, while bodies are added, and what its bodies give.
use Rattle.std.proofs.Common.{◌≡◌, ◌∙◌, ap, sym, refl, subst, ℕ, zero, suc, ◌+◌, length-append, List, [], ◌∷◌, ◌++◌, Ok, slice_get, IfSome, Bor, Global, length, arith}
use Rattle.std.specs.declared.dyn_box.DynBox.{DynBox}
use Rattle.cdi_base.specs.declared.act.Act.{Act}
use Rattle.cdi_base.specs.declared.fields.Fields.{Fields}
use Rattle.cdi_bodies.specs.declared.entry.Entry.{Entry}
use Rattle.cdi_bodies.specs.declared.shape.Shape.{Shape}
use Rattle.cdi_bodies.specs.declared.view.View.{View}
use Rattle.cdi_bodies.specs.Adding.{Adds}
use Rattle.cdi_bodies.specs.Gives.{gives}
use Rattle.cdi_script.specs.declared.step.Step.{Step}
use Rattle.cdi_script.specs.Follows.{Runs, Follows}
use Rattle.cdi_script.specs.Next.{next_of}

follows_push : {X : Type 0} {F : X → Type 0} {g : _} (es : List (Entry X F g)) (scripts : List (List Step)) (e : Entry X F g) (script : List Step) → Follows es scripts → Runs e script → Follows (es ++ e ∷ []) (scripts ++ script ∷ [])
follows_push [] [] e script h r = (r, tt)
follows_push [] (s ∷ scripts) e script h r = absurd h
follows_push (d ∷ es) [] e script h r = absurd h
follows_push (d ∷ es) (s ∷ scripts) e script h r = (h.0, follows_push es scripts e script h.1 r)

-- a body whose closure promises what the script does next runs the script
pub runs_by : {X : Type 0} {F : X → Type 0} {g : _} (e : Entry X F g) (b : DynBox X Global F) (script : List Step) → e.body ≡ b
    → ((fields : Bor Fields) (view : Bor View) (act : Act) → g.post (b.vtable, b.value) (fields, (view, tt)) (Ok act) → act ≡ next_of script fields.now view.now) → Runs e script
runs_by {X} {F} {g} e b script same h fields view act p =
    let given : g.post (b.vtable, b.value) (p.shown_fields, (p.shown_view, tt)) (Ok act) = subst (λ (x : DynBox X Global F). g.post (x.vtable, x.value) (p.shown_fields, (p.shown_view, tt)) (Ok act)) same p.given in
    h p.shown_fields p.shown_view act given ∙ ap (λ (x : Fields). next_of script x p.shown_view.now) p.is_fields ∙ ap (λ (x : View). next_of script fields x) p.is_view

-- the table goes on following where such a body is added
pub follows_add : {X : Type 0} {F : X → Type 0} {g : _} (old new : List (Entry X F g)) (scripts : List (List Step)) (script : List Step) (name : ℕ) (shape : Shape) (b : DynBox X Global F) → Follows old scripts → Adds old new name shape b
    → ((fields : Bor Fields) (view : Bor View) (act : Act) → g.post (b.vtable, b.value) (fields, (view, tt)) (Ok act) → act ≡ next_of script fields.now view.now) → Follows new (scripts ++ script ∷ [])
follows_add {X} {F} {g} old new scripts script name shape b h a p =
    subst (λ (es : List (Entry X F g)). Follows es (scripts ++ script ∷ [])) (sym a.is_last) (follows_push old scripts a.entry script h (runs_by a.entry b script a.is_body p))

-- what a body gives is what its script does next
pub gives_next : {X : Type 0} {F : X → Type 0} {g : _} (es : List (Entry X F g)) (scripts : List (List Step)) (id : ℕ) (fields : Fields) (view : View) (act : Act) → Follows es scripts → gives es id fields view act
    → IfSome (slice_get scripts id) (λ script. act ≡ next_of script fields view)
gives_next [] [] id fields view act h p = absurd p
gives_next [] (s ∷ scripts) id fields view act h p = absurd h
gives_next (e ∷ es) [] id fields view act h p = absurd h
gives_next (e ∷ es) (s ∷ scripts) zero fields view act h p = h.0 fields view act p
gives_next (e ∷ es) (s ∷ scripts) (suc id) fields view act h p = gives_next es scripts id fields view act h.1 p

pub nil_of : {A : Type 0} (xs : List A) → length xs ≡ 0 → xs ≡ []
nil_of [] h = refl
nil_of (x ∷ xs) h = absurd (omega arith)

-- the new body's number is a number of the new table, and so are the older ones
pub length-add : {X : Type 0} {F : X → Type 0} {g : _} (old new : List (Entry X F g)) (name : ℕ) (shape : Shape) (b : DynBox X Global F) → Adds old new name shape b → length new ≡ length old + 1
length-add old new name shape b a = ap length a.is_last ∙ length-append old (a.entry ∷ [])
