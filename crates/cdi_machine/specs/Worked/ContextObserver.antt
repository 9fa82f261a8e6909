-- An observer of a context event that throws.
use Rattle.std.specs.Prelude.{ℕ, List, [], ◌∷◌, None, false, codes}
use Rattle.cdi_base.specs.declared.value.Value.TheVariants as values
use Rattle.cdi_base.specs.declared.act.Act.TheVariants as acts
use Rattle.cdi_base.specs.declared.entry.Entry.TheVariants as entries
use Rattle.cdi_base.specs.declared.place.Place.TheVariants as places
use Rattle.cdi_base.specs.declared.scope.Scope.TheVariants as scopes
use Rattle.cdi_base.specs.declared.reply.Reply.TheVariants as replies
use Rattle.cdi_base.specs.declared.built_in.BuiltIn.TheVariants as built_in
use Rattle.cdi_base.specs.BuiltIn.{number_of}
use Rattle.cdi_machine.specs.Words.{Name}
use Rattle.cdi_machine.specs.Tables.{Step}
use Rattle.cdi_machine.specs.Commands.{Command}
use Rattle.cdi_machine.specs.Container.{Said}
use Rattle.cdi_machine.specs.Scripts.{throw}
use Rattle.cdi_machine.specs.Deployments.{Deployment, no_chain, managed_bean, of_context, of_container, first_chosen, Shows, member}

abbrev r : List ℕ
r = codes "r"

abbrev L : Name
L = 21

abbrev o : Name
o = 22

abbrev Oops : Name
Oops = 23

abbrev body_oops : ℕ
body_oops = 0

abbrev pub deployment : Deployment
deployment =
    record {
      beans =
          managed_bean L scopes.ApplicationScoped (record {
            fields = [];
            plan = Step.Construct [] no_chain ∷ Step.Complete no_chain ∷ [];
            methods = [];
            pre_destroy = no_chain;
          }) ∷
          [];
      interceptors = [];
      types = [];
      written = [];
      observed = (
        number_of built_in.Object,
        ((record {
          name = number_of built_in.Initialized;
          members = (record {
            name = number_of built_in.Value;
            value = values.Text (codes "RequestScoped");
          }) ∷ [];
        }) ∷ []),
        ((record { bean = 0; member = member L o body_oops [] []; conditional = false }) ∷ []) ∷
            [],
      ) ∷
          [];
      events = [];
      scripts = (throw Oops ∷ [], []) ∷ [];
      checked = [];
      texts = [];
    }

abbrev pub exception_in_a_context_event_is_dropped_commands : List Command
exception_in_a_context_event_is_dropped_commands = Command.Boot ∷ Command.Begin r None ∷ []

abbrev pub exception_in_a_context_event_is_dropped_said : List Said
exception_in_a_context_event_is_dropped_said =
    (record {
      entries =
          of_context built_in.Initialized (codes "ApplicationScoped") ∷
          of_container built_in.Startup ∷
          [];
      reply = replies.Done;
    }) ∷
    (record {
      entries =
          of_context built_in.Initialized (codes "RequestScoped") ∷
          entries.New 1 (places.Class L) ∷
          entries.Ready 1 ∷
          entries.Run 1 (places.Member L o) ∷
          entries.Did (acts.Throw Oops) ∷
          [];
      reply = replies.Done;
    }) ∷
    []

-- the command goes on
abbrev pub exception_in_a_context_event_is_dropped : Type 0
exception_in_a_context_event_is_dropped =
    Shows deployment first_chosen 100000 32
    exception_in_a_context_event_is_dropped_commands
    exception_in_a_context_event_is_dropped_said
