-- How a running body changes.
use Rattle.std.specs.Prelude.{ℕ, true}
use Rattle.cdi_base.specs.Maps.{put}
use Rattle.cdi_store.specs.declared.references.Reference.{Reference}
use Rattle.cdi_machine.specs.Programs.{Running}

-- a running body whose lookup has found a reference
abbrev pub with_local : ℕ → Reference → Running → Running
with_local k reference r = record r { locals = put k reference r.locals }

-- a running body that has proceeded
abbrev pub having_proceeded : Running → Running
having_proceeded r = record r { proceeded = true }
