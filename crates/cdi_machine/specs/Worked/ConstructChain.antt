-- A construct interceptor that never proceeds.
use Rattle.std.specs.Prelude.{ℕ, List, [], ◌∷◌, Some, None, codes}
use Rattle.cdi_base.specs.declared.value.Value.TheVariants as values
use Rattle.cdi_base.specs.declared.act.Act.TheVariants as acts
use Rattle.cdi_base.specs.declared.entry.Entry.TheVariants as entries
use Rattle.cdi_base.specs.declared.place.Place.TheVariants as places
use Rattle.cdi_base.specs.declared.place.InterceptorMethod.TheVariants as roles
use Rattle.cdi_base.specs.declared.scope.Scope.TheVariants as scopes
use Rattle.cdi_base.specs.declared.reply.Reply.TheVariants as replies
use Rattle.cdi_base.specs.declared.built_in.BuiltIn.TheVariants as built_in
use Rattle.cdi_base.specs.BuiltIn.{number_of}
use Rattle.cdi_machine.specs.Words.{Name}
use Rattle.cdi_machine.specs.Tables.{Step, One}
use Rattle.cdi_machine.specs.Commands.{Command}
use Rattle.cdi_machine.specs.Container.{Said}
use Rattle.cdi_machine.specs.Deployments.{Deployment, of_type, no_chain, constructor_of, managed_bean, by_role, of_context, of_container, first_chosen, Shows, method}

abbrev C : Name
C = 20

abbrev m : Name
m = 21

abbrev J : Name
J = 22

abbrev body_nop : ℕ
body_nop = 0

abbrev pub deployment : Deployment
deployment =
    record {
      beans =
          managed_bean C scopes.ApplicationScoped (record {
            fields = [];
            plan =
                Step.Intercept 0 ∷
                Step.Construct [] (record {
                  chain = 0 ∷ [];
                  callbacks = constructor_of C body_nop ∷ [];
                }) ∷
                Step.Complete no_chain ∷
                [];
            methods = (m, method C m body_nop 0 []) ∷ [];
            pre_destroy = no_chain;
          }) ∷
          [];
      interceptors =
          record {
            name = J;
            fields = [];
            injected = [];
            body = by_role None (Some body_nop) None None;
          } ∷
          [];
      types = (C, One 0) ∷ [];
      written = [];
      observed = [];
      events = [];
      scripts = ([], []) ∷ [];
      checked = [];
      texts = [];
    }

abbrev pub constructor_that_is_not_reached_commands : List Command
constructor_that_is_not_reached_commands = Command.Boot ∷ Command.Call None (of_type C) m [] ∷ []

abbrev pub constructor_that_is_not_reached_said : List Said
constructor_that_is_not_reached_said =
    (record {
      entries =
          of_context built_in.Initialized (codes "ApplicationScoped") ∷
          of_container built_in.Startup ∷
          [];
      reply = replies.Done;
    }) ∷
    (record {
      entries =
          entries.New 1 (places.Class C) ∷
          entries.New 2 (places.Class J) ∷
          entries.Ready 2 ∷
          entries.Run 2 (places.Interceptor J roles.AroundConstruct) ∷
          entries.Did (acts.Give values.Null) ∷
          entries.End 2 ∷
          entries.Gone 2 ∷
          entries.Drop 1 ∷
          [];
      reply = replies.Threw (number_of built_in.CreationException);
    }) ∷
    []

-- an instance whose constructor was not reached is dropped
abbrev pub constructor_that_is_not_reached : Type 0
constructor_that_is_not_reached =
    Shows deployment first_chosen 100000 32
    constructor_that_is_not_reached_commands
    constructor_that_is_not_reached_said
