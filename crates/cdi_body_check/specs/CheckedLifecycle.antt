-- Lifecycle callbacks that throw checked exceptions (Jakarta Interceptors 2.1, Interceptor Methods for Lifecycle Event Callbacks).
use Rattle.std.specs.Prelude.{ℕ, Bool, false, ◌&&◌, List, Option, Some, None, IsTrue}
use Rattle.std.specs.List.{list_any}
use Rattle.cdi_bodies.specs.declared.shape.Shape.{Shape}
use Rattle.cdi_deployment.specs.declared.deployment.Exception.{Exception}
use Rattle.cdi_live.specs.Enabled.{Enabled}
use Rattle.cdi_body_check.specs.Exceptions.{is_checked}
use Rattle.cdi_body_check.specs.Sites.{Site, is_live, is_callback, body_of}

-- a body is registered that may throw a checked exception of its own accord
abbrev pub throws_checked : List Exception → Option Shape → Bool
throws_checked exceptions None = false
throws_checked exceptions (Some shape) = list_any (is_checked exceptions) shape.throws

-- P15 CheckedLifecycle: the body of a live post-construct or pre-destroy callback, of a class or of an interceptor, throws a checked
-- exception
abbrev pub HasCheckedLifecycle : List Exception → Enabled → (ℕ → Option Shape) → Site → Type 0
HasCheckedLifecycle exceptions e shape_of s =
    IsTrue (is_live e s && is_callback s && throws_checked exceptions (shape_of (body_of s)))
