-- A table of bodies that holds these scripts, and what is the same with it as with them.
use Rattle.std.proofs.Common.{ℕ, zero, suc, ◌≡◌, ◌+◌, ◌≤◌, ◌∙◌, ◌==◌, ◌<◌, ◌&&◌, nat_lt, nat_le, IsTrue, Bool, true, false, cond, not, ◌||◌, List, [], ◌∷◌, ◌++◌, length, refl, sym, ap, subst, Option, Some, None, Ok, is_some, arith}
use Rattle.std.specs.Prelude.{option_and_then, fold}
use Rattle.std.specs.List.{list_any, position_or_len}
use Rattle.std.specs.Borrow.{Bor}
use Rattle.std.specs.declared.alloc.Global.{Global}
use Rattle.std.specs.declared.dyn_box.DynBox.{DynBox}
use Rattle.cdi_base.specs.declared.act.Act.{Act}
use Rattle.cdi_base.specs.declared.fields.Fields.{Fields}
use Rattle.cdi_bodies.specs.declared.entry.Entry.{Entry}
use Rattle.cdi_bodies.specs.declared.shape.Shape.{Shape}
use Rattle.cdi_bodies.specs.declared.view.View.{View}
use Rattle.cdi_bodies.specs.Adding.{Adds}
use Rattle.cdi_bodies.specs.Gives.{place_of, shape_at as entry_shape}
use Rattle.cdi_script.specs.Follows.{Runs}
use Rattle.cdi_script.specs.Listed.{shape_of}
use Rattle.cdi_script.specs.Next.{next_of}
use Rattle.cdi_script.proofs.Following.{runs_by}
use Rattle.cdi_prepare.specs.declared.scripts.NamedScript.{NamedScript}
use Rattle.cdi_prepare.specs.Scripts.{is_named, added, registered, place_under, shape_at, shape_under}

-- the body has the name and the shape of the script, and gives only what the script does next
pub record IsBodyOf {X : Type 0} {F : X → Type 0} {g : _} (e : Entry X F g) (s : NamedScript) : Type 0 where
  pub name : e.name ≡ s.name
  pub shape : e.shape ≡ shape_of s.script
  pub runs : Runs e s.script

-- each body is that of the script at its place
abbrev pub AreBodiesOf : {X : Type 0} {F : X → Type 0} {g : _} → List (Entry X F g) → List NamedScript → Type 0
AreBodiesOf [] [] = Unit {0}
AreBodiesOf [] (s ∷ ss) = ⊥
AreBodiesOf (e ∷ es) [] = ⊥
AreBodiesOf (e ∷ es) (s ∷ ss) = IsBodyOf e s × AreBodiesOf es ss

module _ {X : Type 0} {F : X → Type 0} {g : _} where
  holds_push : (es : List (Entry X F g)) (ss : List NamedScript) (e : Entry X F g) (s : NamedScript) → AreBodiesOf es ss → IsBodyOf e s → AreBodiesOf (es ++ e ∷ []) (ss ++ s ∷ [])
  holds_push [] [] e s h i = (i, tt)
  holds_push [] (t ∷ ss) e s h i = absurd h
  holds_push (d ∷ es) [] e s h i = absurd h
  holds_push (d ∷ es) (t ∷ ss) e s h i = (h.0, holds_push es ss e s h.1 i)

  pub holds_add : (old new : List (Entry X F g)) (scripts : List NamedScript) (s : NamedScript) (shape : Shape) (b : DynBox X Global F) → AreBodiesOf old scripts → Adds old new s.name shape b → shape ≡ shape_of s.script
      → ((fields : Bor Fields) (view : Bor View) (act : Act) → g.post (b.vtable, b.value) (fields, (view, tt)) (Ok act) → act ≡ next_of s.script fields.now view.now) → AreBodiesOf new (scripts ++ s ∷ [])
  holds_add old new scripts s shape b h a is p =
      subst (λ (es : List (Entry X F g)). AreBodiesOf es (scripts ++ s ∷ [])) (sym a.is_last)
      (holds_push old scripts a.entry s h (record { name = a.is_name; shape = a.is_shape ∙ is; runs = runs_by a.entry b s.script a.is_body p }))

  pub same_length : (es : List (Entry X F g)) (ss : List NamedScript) → AreBodiesOf es ss → length es ≡ length ss
  same_length [] [] h = refl
  same_length [] (s ∷ ss) h = absurd h
  same_length (e ∷ es) [] h = absurd h
  same_length (e ∷ es) (s ∷ ss) h = ap suc (same_length es ss h.1)

  same_position : (es : List (Entry X F g)) (ss : List NamedScript) (name : ℕ) → AreBodiesOf es ss → position_or_len (λ (e : Entry X F g). e.name == name) es ≡ position_or_len (is_named name) ss
  same_position [] [] name h = refl
  same_position [] (s ∷ ss) name h = absurd h
  same_position (e ∷ es) [] name h = absurd h
  same_position (e ∷ es) (s ∷ ss) name h =
      ap (λ (n : ℕ). cond (not (n == name)) (1 + position_or_len (λ (d : Entry X F g). d.name == name) es) 0) h.0.name ∙ ap (λ (p : ℕ). cond (not (s.name == name)) (1 + p) 0) (same_position es ss name h.1)

  pub same_place : (es : List (Entry X F g)) (ss : List NamedScript) (name : ℕ) → AreBodiesOf es ss → place_of es name ≡ place_under ss name
  same_place es ss name h =
      ap (λ (p : ℕ). cond (nat_lt p (length es)) (Some p) None) (same_position es ss name h) ∙ ap (λ (n : ℕ). cond (nat_lt (position_or_len (is_named name) ss) n) (Some (position_or_len (is_named name) ss)) None) (same_length es ss h)

  same_shape_at : (es : List (Entry X F g)) (ss : List NamedScript) (id : ℕ) → AreBodiesOf es ss → entry_shape es id ≡ shape_at ss id
  same_shape_at [] [] id h = refl
  same_shape_at [] (s ∷ ss) id h = absurd h
  same_shape_at (e ∷ es) [] id h = absurd h
  same_shape_at (e ∷ es) (s ∷ ss) zero h = ap Some h.0.shape
  same_shape_at (e ∷ es) (s ∷ ss) (suc id) h = same_shape_at es ss id h.1

  pub same_shape : (es : List (Entry X F g)) (ss : List NamedScript) (name : ℕ) → AreBodiesOf es ss → option_and_then (entry_shape es) (place_of es name) ≡ shape_under ss name
  same_shape es ss name h = ap (λ (o : Option ℕ). option_and_then (entry_shape es) o) (same_place es ss name h) ∙ by (place_under ss name)
    where
      by : (o : Option ℕ) → option_and_then (entry_shape es) o ≡ option_and_then (shape_at ss) o
      by None = refl
      by (Some id) = same_shape_at es ss id h

  -- if none is left, all scripts are registered
  pub holds_all : (es : List (Entry X F g)) (found rest scripts : List NamedScript) → AreBodiesOf es found → fold added found rest ≡ registered scripts → rest ≡ [] → AreBodiesOf es (registered scripts)
  holds_all es found rest scripts h is none = subst (λ (ss : List NamedScript). AreBodiesOf es ss) (sym (ap (λ (t : List NamedScript). fold added found t) none) ∙ is) h

zero_below : (n : ℕ) → nat_lt 0 (suc n) ≡ true
zero_below n = grind arith

lt_suc : (p n : ℕ) → nat_lt (1 + p) (suc n) ≡ nat_lt p n
lt_suc p n = by (nat_lt p n) refl
  where
    by : (b : Bool) → nat_lt p n ≡ b → nat_lt (1 + p) (suc n) ≡ b
    by true e = grind arith
    by false e = grind arith

-- a name that is there is that of a body, and the other way round
any_named : (ss : List NamedScript) (name : ℕ) → is_some (place_under ss name) ≡ list_any (is_named name) ss
any_named [] name = refl
any_named (s ∷ ss) name = by (s.name == name) (any_named ss name)
  where
    place : ℕ
    place = position_or_len (is_named name) ss

    later : (c : Bool) → is_some (cond c (Some place) None) ≡ list_any (is_named name) ss → is_some (cond c (Some (1 + place)) None) ≡ list_any (is_named name) ss
    later true h = h
    later false h = h

    by : (b : Bool) → is_some (place_under ss name) ≡ list_any (is_named name) ss
        → is_some (cond (nat_lt (cond (not b) (1 + place) 0) (suc (length ss))) (Some (cond (not b) (1 + place) 0)) None) ≡ b || list_any (is_named name) ss
    by true h = rw (zero_below (length ss)) refl
    by false h = ap (λ (c : Bool). is_some (cond c (Some (1 + place)) None)) (lt_suc place (length ss)) ∙ later (nat_lt place (length ss)) h

pub add_known : (ss : List NamedScript) (s : NamedScript) → is_some (place_under ss s.name) ≡ true → added ss s ≡ ss
add_known ss s h = let e = sym (any_named ss s.name) ∙ h in rw e refl

pub add_new : (ss : List NamedScript) (s : NamedScript) → is_some (place_under ss s.name) ≡ false → added ss s ≡ ss ++ s ∷ []
add_new ss s h = let e = sym (any_named ss s.name) ∙ h in rw e refl

-- a table that has room isn't full
pub not_full : (b : Bool) (n : ℕ) → IsTrue (b && nat_le 4096 n) → n < 4096 → ⊥
not_full true n h below = omega (arith, is_least 4096 n h)
  where
    is_least : (m n : ℕ) → nat_le m n ≡ true → m ≤ n
    is_least m n e = grind arith
not_full false n h below = absurd cc
