-- A body that destroys its own instance.
use Rattle.std.specs.Prelude.{ℕ, List, [], ◌∷◌, None, codes}
use Rattle.cdi_base.specs.declared.act.Act.TheVariants as acts
use Rattle.cdi_base.specs.declared.entry.Entry.TheVariants as entries
use Rattle.cdi_base.specs.declared.place.Place.TheVariants as places
use Rattle.cdi_base.specs.declared.scope.Scope.TheVariants as scopes
use Rattle.cdi_base.specs.declared.reply.Reply.TheVariants as replies
use Rattle.cdi_base.specs.declared.built_in.BuiltIn.TheVariants as built_in
use Rattle.cdi_base.specs.BuiltIn.{number_of}
use Rattle.cdi_machine.specs.Words.{Name}
use Rattle.cdi_machine.specs.Tables.{Step, One}
use Rattle.cdi_machine.specs.Commands.{Command}
use Rattle.cdi_machine.specs.Container.{Said}
use Rattle.cdi_machine.specs.Scripts.{find, destroy}
use Rattle.cdi_machine.specs.Deployments.{Deployment, of_type, no_chain, managed_bean, of_context, of_container, first_chosen, Shows, method}

abbrev S : Name
S = 20

abbrev m : Name
m = 21

abbrev body_m : ℕ
body_m = 0

abbrev pub deployment : Deployment
deployment =
    record {
      beans =
          managed_bean S scopes.ApplicationScoped (record {
            fields = [];
            plan = Step.Construct [] no_chain ∷ Step.Complete no_chain ∷ [];
            methods = (m, method S m body_m 0 []) ∷ [];
            pre_destroy = no_chain;
          }) ∷
          [];
      interceptors = [];
      types = (S, One 0) ∷ [];
      written = [];
      observed = [];
      events = [];
      scripts = (find 0 ∷ destroy 0 ∷ [], of_type S ∷ []) ∷ [];
      checked = [];
      texts = [];
    }

abbrev pub running_instance_is_not_destroyed_commands : List Command
running_instance_is_not_destroyed_commands = Command.Boot ∷ Command.Call None (of_type S) m [] ∷ []

abbrev pub running_instance_is_not_destroyed_said : List Said
running_instance_is_not_destroyed_said =
    (record {
      entries =
          of_context built_in.Initialized (codes "ApplicationScoped") ∷
          of_container built_in.Startup ∷
          [];
      reply = replies.Done;
    }) ∷
    (record {
      entries =
          entries.New 1 (places.Class S) ∷
          entries.Ready 1 ∷
          entries.Run 1 (places.Member S m) ∷
          entries.Did (acts.Find 0) ∷
          entries.Did (acts.Destroy 0) ∷
          entries.Did (acts.Throw (number_of built_in.IllegalStateException)) ∷
          [];
      reply = replies.Threw (number_of built_in.IllegalStateException);
    }) ∷
    []

-- an instance with a running body is not idle
abbrev pub running_instance_is_not_destroyed : Type 0
running_instance_is_not_destroyed =
    Shows deployment first_chosen 100000 32
    running_instance_is_not_destroyed_commands
    running_instance_is_not_destroyed_said
