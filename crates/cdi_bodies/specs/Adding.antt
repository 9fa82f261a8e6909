-- What adding a body does.
use Rattle.std.specs.Prelude.{◌≡◌, ℕ, ◌&&◌, List, [], ◌∷◌, ◌++◌, length, Bool, true, false, not, nat_le, Result, IsErrAnd, IsTrue, codes}
use Rattle.std.specs.declared.alloc.Global.{Global}
use Rattle.std.specs.declared.dyn_box.DynBox.{DynBox}
use Rattle.cdi_bodies.specs.declared.entry.Entry.{Entry}
use Rattle.cdi_bodies.specs.declared.error.AddError.{AddError}
use Rattle.cdi_bodies.specs.declared.error.AddError.TheVariants.{Repeated, Full, Memory}
use Rattle.cdi_bodies.specs.declared.shape.Shape.{Shape}
use Rattle.cdi_bodies.specs.Gives.{is_named}

-- the new table has one body more, last
pub record Adds {X : Type 0} {F : X → Type 0} {g : _} (old new : List (Entry X F g)) (name : ℕ)
    (shape : Shape) (body : DynBox X Global F) : Type 0 where
  pub entry : Entry X F g
  pub is_last : new ≡ old ++ entry ∷ []
  pub is_name : entry.name ≡ name
  pub is_shape : entry.shape ≡ shape
  pub is_body : entry.body ≡ body

-- the body that is handed back
abbrev pub body_of : {X : Type 0} {F : X → Type 0} → AddError X F → DynBox X Global F
body_of (Repeated body) = body
body_of (Full body) = body
body_of (Memory body) = body

abbrev pub is_repeated : {X : Type 0} {F : X → Type 0} → AddError X F → Bool
is_repeated (Repeated body) = true
is_repeated (Full body) = false
is_repeated (Memory body) = false

abbrev pub is_full : {X : Type 0} {F : X → Type 0} → AddError X F → Bool
is_full (Repeated body) = false
is_full (Full body) = true
is_full (Memory body) = false

-- the body was not added, for this reason
abbrev pub IsRefused : {X : Type 0} {F : X → Type 0} → (AddError X F → Bool)
    → Result ℕ (AddError X F) → Type 0
IsRefused reason answer = IsErrAnd answer (λ error. IsTrue (reason error))

-- there are 4,096 bodies, and none of this name
abbrev pub lacks_room : {X : Type 0} {F : X → Type 0} {g : _} → List (Entry X F g) → ℕ → Bool
lacks_room entries name = not (is_named entries name) && nat_le 4096 (length entries)

-- the error as it is printed
abbrev pub word_of : {X : Type 0} {F : X → Type 0} → AddError X F → List ℕ
word_of (Repeated body) = codes "a body of this name is there already"
word_of (Full body) = codes "the table of bodies is full"
word_of (Memory body) = codes "out of memory"
