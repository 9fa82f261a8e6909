-- A post-construct interceptor that proceeds twice.
use Rattle.std.specs.Prelude.{ℕ, List, [], ◌∷◌, Some, None, codes}
use Rattle.cdi_base.specs.declared.value.Value.TheVariants as values
use Rattle.cdi_base.specs.declared.act.Act.TheVariants as acts
use Rattle.cdi_base.specs.declared.entry.Entry.TheVariants as entries
use Rattle.cdi_base.specs.declared.place.Place.TheVariants as places
use Rattle.cdi_base.specs.declared.place.InterceptorMethod.TheVariants as roles
use Rattle.cdi_base.specs.declared.scope.Scope.TheVariants as scopes
use Rattle.cdi_base.specs.declared.reply.Reply.TheVariants as replies
use Rattle.cdi_base.specs.declared.built_in.BuiltIn.TheVariants as built_in
use Rattle.cdi_base.specs.BuiltIn.{number_of}
use Rattle.cdi_machine.specs.Words.{Name}
use Rattle.cdi_machine.specs.Tables.{Step, One}
use Rattle.cdi_machine.specs.Commands.{Command}
use Rattle.cdi_machine.specs.Container.{Said}
use Rattle.cdi_machine.specs.Scripts.{proceed}
use Rattle.cdi_machine.specs.Deployments.{Deployment, of_type, no_chain, managed_bean, by_role, of_context, of_container, first_chosen, Shows, code, method}

abbrev C : Name
C = 20

abbrev m : Name
m = 21

abbrev J : Name
J = 22

abbrev p : Name
p = 23

abbrev body_nop : ℕ
body_nop = 0

abbrev body_post : ℕ
body_post = 1

abbrev pub deployment : Deployment
deployment =
    record {
      beans =
          managed_bean C scopes.ApplicationScoped (record {
            fields = [];
            plan =
                Step.Intercept 0 ∷
                Step.Construct [] no_chain ∷
                Step.Complete (record { chain = 0 ∷ []; callbacks = code C p body_nop ∷ [] }) ∷
                [];
            methods = (m, method C m body_nop 0 []) ∷ [];
            pre_destroy = no_chain;
          }) ∷
          [];
      interceptors =
          record {
            name = J;
            fields = [];
            injected = [];
            body = by_role None None (Some body_post) None;
          } ∷
          [];
      types = (C, One 0) ∷ [];
      written = [];
      observed = [];
      events = [];
      scripts = ([], []) ∷ (proceed ∷ proceed ∷ [], []) ∷ [];
      checked = [];
      texts = [];
    }

abbrev pub lifecycle_chain_proceeds_once_commands : List Command
lifecycle_chain_proceeds_once_commands = Command.Boot ∷ Command.Call None (of_type C) m [] ∷ []

abbrev pub lifecycle_chain_proceeds_once_said : List Said
lifecycle_chain_proceeds_once_said =
    (record {
      entries =
          of_context built_in.Initialized (codes "ApplicationScoped") ∷
          of_container built_in.Startup ∷
          [];
      reply = replies.Done;
    }) ∷
    (record {
      entries =
          entries.New 1 (places.Class C) ∷
          entries.New 2 (places.Class J) ∷
          entries.Ready 2 ∷
          entries.Run 2 (places.Interceptor J roles.PostConstruct) ∷
          entries.Did (acts.Proceed None) ∷
          entries.Run 1 (places.Member C p) ∷
          entries.Did (acts.Give values.Null) ∷
          entries.Did (acts.Proceed None) ∷
          entries.Did (acts.Throw (number_of built_in.IllegalStateException)) ∷
          entries.End 2 ∷
          entries.Gone 2 ∷
          entries.Drop 1 ∷
          [];
      reply = replies.Threw (number_of built_in.IllegalStateException);
    }) ∷
    []

-- the second proceed of a lifecycle chain is refused
abbrev pub lifecycle_chain_proceeds_once : Type 0
lifecycle_chain_proceeds_once =
    Shows deployment first_chosen 100000 32
    lifecycle_chain_proceeds_once_commands
    lifecycle_chain_proceeds_once_said
