-- Uses of references through client proxies (Jakarta CDI 4.0, *Client proxies*).
use Rattle.std.specs.Prelude.{ℕ, ◌≡◌, Some, option_map}
use Rattle.cdi_contexts.specs.declared.context.Held.TheVariants.{Is}
use Rattle.cdi_machine.specs.Contexts.{reach_instance}
use Rattle.cdi_machine.specs.Programs.{Given, Prog, ◌>>=◌}
use Rattle.cdi_machine.specs.Tables.{Tables}
use Rattle.cdi_machine.specs.World.{World}
use Rattle.cdi_steps.specs.Meanings.{use_instance}
use Rattle.cdi_steps.specs.declared.task.Purpose.{Purpose}
use Rattle.cdi_host.specs.Asked.{head_of, held_in}
use Rattle.cdi_host.specs.declared.beans.BeanHead.{BeanHead}
use Rattle.cdi_store.specs.declared.references.Reference.TheVariants.{Proxy}

-- what is done with the contextual instance behind a client proxy
abbrev pub use_proxy : ℕ → Purpose → Prog Given
use_proxy b purpose = do
  n ← reach_instance (Proxy b)
  use_instance n purpose

-- the active context of its scope has this instance for a bean
pub record HasInstance (t : Tables) (w : World) (b n : ℕ) : Type 0 where
  pub head : BeanHead
  pub is_head : option_map head_of (t.bean b) ≡ Some head
  pub held : held_in w head.scope b ≡ Some (Is n)
