-- Bodies that go on with an interceptor chain where there is none (Jakarta Interceptors 2.1, InvocationContext).
use Rattle.std.specs.Prelude.{ℕ, Bool, false, not, ◌&&◌, Option, Some, None, IsTrue}
use Rattle.cdi_bodies.specs.declared.shape.Shape.{Shape}
use Rattle.cdi_live.specs.Enabled.{Enabled}
use Rattle.cdi_body_check.specs.Sites.{Site, is_live, is_interceptor_method, body_of}

-- a body is registered that may go on with a chain
abbrev pub may_proceed : Option Shape → Bool
may_proceed None = false
may_proceed (Some shape) = shape.chain

-- P14 ProceedNotAllowed: the body of a live site that isn't an interceptor's method may go on with a chain
abbrev pub HasProceedNotAllowed : Enabled → (ℕ → Option Shape) → Site → Type 0
HasProceedNotAllowed e shape_of s =
    IsTrue (is_live e s && not (is_interceptor_method s) && may_proceed (shape_of (body_of s)))
