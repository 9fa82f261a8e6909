-- Boot and shutdown of an empty container.
use Rattle.std.specs.Prelude.{List, [], ◌∷◌, codes}
use Rattle.cdi_base.specs.declared.reply.Reply.TheVariants as replies
use Rattle.cdi_base.specs.declared.built_in.BuiltIn.TheVariants as built_in
use Rattle.cdi_machine.specs.Commands.{Command}
use Rattle.cdi_machine.specs.Container.{Said}
use Rattle.cdi_machine.specs.Deployments.{Deployment, of_context, of_container, first_chosen, Shows}

abbrev pub deployment : Deployment
deployment =
    record {
      beans = [];
      interceptors = [];
      types = [];
      written = [];
      observed = [];
      events = [];
      scripts = [];
      checked = [];
      texts = [];
    }

abbrev pub starts_and_shuts_down_commands : List Command
starts_and_shuts_down_commands = Command.Boot ∷ Command.Shutdown ∷ []

abbrev pub starts_and_shuts_down_said : List Said
starts_and_shuts_down_said =
    (record {
      entries =
          of_context built_in.Initialized (codes "ApplicationScoped") ∷
          of_container built_in.Startup ∷
          [];
      reply = replies.Done;
    }) ∷
    (record {
      entries =
          of_container built_in.Shutdown ∷
          of_context built_in.BeforeDestroyed (codes "ApplicationScoped") ∷
          of_context built_in.Destroyed (codes "ApplicationScoped") ∷
          [];
      reply = replies.Done;
    }) ∷
    []

-- the container fires its own events
abbrev pub starts_and_shuts_down : Type 0
starts_and_shuts_down =
    Shows deployment first_chosen 100000 32
    starts_and_shuts_down_commands
    starts_and_shuts_down_said
