-- An interceptor of a pre-destroy callback.
use Rattle.std.specs.Prelude.{ℕ, List, [], ◌∷◌, Some, None, codes}
use Rattle.cdi_base.specs.declared.value.Value.TheVariants as values
use Rattle.cdi_base.specs.declared.act.Act.TheVariants as acts
use Rattle.cdi_base.specs.declared.entry.Entry.TheVariants as entries
use Rattle.cdi_base.specs.declared.place.Place.TheVariants as places
use Rattle.cdi_base.specs.declared.place.InterceptorMethod.TheVariants as roles
use Rattle.cdi_base.specs.declared.scope.Scope.TheVariants as scopes
use Rattle.cdi_base.specs.declared.reply.Reply.TheVariants as replies
use Rattle.cdi_base.specs.declared.built_in.BuiltIn.TheVariants as built_in
use Rattle.cdi_machine.specs.Words.{Name}
use Rattle.cdi_machine.specs.Tables.{Step, One}
use Rattle.cdi_machine.specs.Commands.{Command}
use Rattle.cdi_machine.specs.Container.{Said}
use Rattle.cdi_machine.specs.Deployments.{Deployment, of_type, no_chain, managed_bean, by_role, of_context, of_container, first_chosen, Shows, code, method}

abbrev C : Name
C = 20

abbrev m : Name
m = 21

abbrev J : Name
J = 22

abbrev bye : Name
bye = 23

abbrev body_nop : ℕ
body_nop = 0

abbrev pub deployment : Deployment
deployment =
    record {
      beans =
          managed_bean C scopes.ApplicationScoped (record {
            fields = [];
            plan = Step.Intercept 0 ∷ Step.Construct [] no_chain ∷ Step.Complete no_chain ∷ [];
            methods = (m, method C m body_nop 0 []) ∷ [];
            pre_destroy = (record { chain = 0 ∷ []; callbacks = code C bye body_nop ∷ [] });
          }) ∷
          [];
      interceptors =
          record {
            name = J;
            fields = [];
            injected = [];
            body = by_role None None None (Some body_nop);
          } ∷
          [];
      types = (C, One 0) ∷ [];
      written = [];
      observed = [];
      events = [];
      scripts = ([], []) ∷ [];
      checked = [];
      texts = [];
    }

abbrev pub pre_destroy_goes_through_its_chain_commands : List Command
pre_destroy_goes_through_its_chain_commands =
    Command.Boot ∷ Command.Call None (of_type C) m [] ∷ Command.Shutdown ∷ []

abbrev pub pre_destroy_goes_through_its_chain_said : List Said
pre_destroy_goes_through_its_chain_said =
    (record {
      entries =
          of_context built_in.Initialized (codes "ApplicationScoped") ∷
          of_container built_in.Startup ∷
          [];
      reply = replies.Done;
    }) ∷
    (record {
      entries =
          entries.New 1 (places.Class C) ∷
          entries.New 2 (places.Class J) ∷
          entries.Ready 2 ∷
          entries.Ready 1 ∷
          entries.Run 1 (places.Member C m) ∷
          entries.Did (acts.Give values.Null) ∷
          [];
      reply = replies.Value values.Null;
    }) ∷
    (record {
      entries =
          of_container built_in.Shutdown ∷
          of_context built_in.BeforeDestroyed (codes "ApplicationScoped") ∷
          entries.End 1 ∷
          entries.Run 2 (places.Interceptor J roles.PreDestroy) ∷
          entries.Did (acts.Give values.Null) ∷
          entries.End 2 ∷
          entries.Gone 2 ∷
          entries.Gone 1 ∷
          of_context built_in.Destroyed (codes "ApplicationScoped") ∷
          [];
      reply = replies.Done;
    }) ∷
    []

-- the chain stands between the end and the dependents
abbrev pub pre_destroy_goes_through_its_chain : Type 0
pre_destroy_goes_through_its_chain =
    Shows deployment first_chosen 100000 32
    pre_destroy_goes_through_its_chain_commands
    pre_destroy_goes_through_its_chain_said
