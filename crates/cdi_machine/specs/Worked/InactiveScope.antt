-- A call without a session.
use Rattle.std.specs.Prelude.{ℕ, List, [], ◌∷◌, Some, None, codes}
use Rattle.cdi_base.specs.declared.scope.Scope.TheVariants as scopes
use Rattle.cdi_base.specs.declared.reply.Reply.TheVariants as replies
use Rattle.cdi_base.specs.declared.built_in.BuiltIn.TheVariants as built_in
use Rattle.cdi_base.specs.BuiltIn.{number_of}
use Rattle.cdi_machine.specs.Words.{Name}
use Rattle.cdi_machine.specs.Tables.{Step, One}
use Rattle.cdi_machine.specs.Commands.{Command}
use Rattle.cdi_machine.specs.Container.{Said}
use Rattle.cdi_machine.specs.Deployments.{Deployment, of_type, no_chain, managed_bean, of_context, of_container, first_chosen, Shows, method}

abbrev r : List ℕ
r = codes "r"

abbrev S : Name
S = 21

abbrev m : Name
m = 22

abbrev body_nop : ℕ
body_nop = 0

abbrev pub deployment : Deployment
deployment =
    record {
      beans =
          managed_bean S scopes.SessionScoped (record {
            fields = [];
            plan = Step.Construct [] no_chain ∷ Step.Complete no_chain ∷ [];
            methods = (m, method S m body_nop 0 []) ∷ [];
            pre_destroy = no_chain;
          }) ∷
          [];
      interceptors = [];
      types = (S, One 0) ∷ [];
      written = [];
      observed = [];
      events = [];
      scripts = ([], []) ∷ [];
      checked = [];
      texts = [];
    }

abbrev pub no_context_no_instance_commands : List Command
no_context_no_instance_commands =
    Command.Boot ∷ Command.Begin r None ∷ Command.Call (Some r) (of_type S) m [] ∷ []

abbrev pub no_context_no_instance_said : List Said
no_context_no_instance_said =
    (record {
      entries =
          of_context built_in.Initialized (codes "ApplicationScoped") ∷
          of_container built_in.Startup ∷
          [];
      reply = replies.Done;
    }) ∷
    (record {
      entries = of_context built_in.Initialized (codes "RequestScoped") ∷ [];
      reply = replies.Done;
    }) ∷
    (record {
      entries = [];
      reply = replies.Threw (number_of built_in.ContextNotActiveException);
    }) ∷
    []

-- no instance where no context of the scope is active
abbrev pub no_context_no_instance : Type 0
no_context_no_instance =
    Shows deployment first_chosen 100000 32
    no_context_no_instance_commands
    no_context_no_instance_said
