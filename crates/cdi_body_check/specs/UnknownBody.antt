-- Bodies that aren't registered.
use Rattle.std.specs.Prelude.{ℕ, ◌&&◌, Option, is_none, IsTrue}
use Rattle.cdi_bodies.specs.declared.shape.Shape.{Shape}
use Rattle.cdi_live.specs.Enabled.{Enabled}
use Rattle.cdi_body_check.specs.Sites.{Site, is_live, body_of}

-- P12 UnknownBody: the body of a live site isn't registered
abbrev pub HasUnknownBody : Enabled → (ℕ → Option Shape) → Site → Type 0
HasUnknownBody e shape_of s = IsTrue (is_live e s && is_none (shape_of (body_of s)))
