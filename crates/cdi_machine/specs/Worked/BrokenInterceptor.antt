-- An interceptor whose dependent can not be made.
use Rattle.std.specs.Prelude.{ℕ, List, [], ◌∷◌, Some, None, codes}
use Rattle.cdi_base.specs.declared.act.Act.TheVariants as acts
use Rattle.cdi_base.specs.declared.entry.Entry.TheVariants as entries
use Rattle.cdi_base.specs.declared.place.Place.TheVariants as places
use Rattle.cdi_base.specs.declared.scope.Scope.TheVariants as scopes
use Rattle.cdi_base.specs.declared.reply.Reply.TheVariants as replies
use Rattle.cdi_base.specs.declared.built_in.BuiltIn.TheVariants as built_in
use Rattle.cdi_machine.specs.Words.{Name}
use Rattle.cdi_machine.specs.Tables.{Step, One}
use Rattle.cdi_machine.specs.Commands.{Command}
use Rattle.cdi_machine.specs.Container.{Said}
use Rattle.cdi_machine.specs.Scripts.{throw}
use Rattle.cdi_machine.specs.Deployments.{Deployment, of_type, no_chain, constructor_of, managed_bean, by_role, of_context, of_container, first_chosen, Shows, method}

abbrev C : Name
C = 20

abbrev m : Name
m = 21

abbrev J : Name
J = 22

abbrev E : Name
E = 23

abbrev Oops : Name
Oops = 24

abbrev e : Name
e = 25

abbrev body_nop : ℕ
body_nop = 0

abbrev body_oops : ℕ
body_oops = 1

abbrev pub deployment : Deployment
deployment =
    record {
      beans =
          managed_bean C scopes.ApplicationScoped (record {
            fields = [];
            plan =
                Step.Intercept 0 ∷
                Step.Construct [] (record {
                  chain = 0 ∷ [];
                  callbacks = constructor_of C body_nop ∷ [];
                }) ∷
                Step.Complete no_chain ∷
                [];
            methods = (m, method C m body_nop 0 []) ∷ [];
            pre_destroy = no_chain;
          }) ∷
          managed_bean E scopes.Dependent (record {
            fields = [];
            plan =
                Step.Construct [] (record {
                  chain = [];
                  callbacks = constructor_of E body_oops ∷ [];
                }) ∷
                Step.Complete no_chain ∷
                [];
            methods = [];
            pre_destroy = no_chain;
          }) ∷
          [];
      interceptors =
          record {
            name = J;
            fields = [];
            injected = (e, of_type E) ∷ [];
            body = by_role None (Some body_nop) None None;
          } ∷
          [];
      types = (C, One 0) ∷ (E, One 1) ∷ [];
      written = [];
      observed = [];
      events = [];
      scripts = ([], []) ∷ (throw Oops ∷ [], []) ∷ [];
      checked = [];
      texts = [];
    }

abbrev pub failed_creation_of_an_interceptor_commands : List Command
failed_creation_of_an_interceptor_commands = Command.Boot ∷ Command.Call None (of_type C) m [] ∷ []

abbrev pub failed_creation_of_an_interceptor_said : List Said
failed_creation_of_an_interceptor_said =
    (record {
      entries =
          of_context built_in.Initialized (codes "ApplicationScoped") ∷
          of_container built_in.Startup ∷
          [];
      reply = replies.Done;
    }) ∷
    (record {
      entries =
          entries.New 1 (places.Class C) ∷
          entries.New 2 (places.Class J) ∷
          entries.New 3 (places.Class E) ∷
          entries.Run 3 (places.Constructor E) ∷
          entries.Did (acts.Throw Oops) ∷
          entries.Drop 3 ∷
          entries.Drop 2 ∷
          entries.Drop 1 ∷
          [];
      reply = replies.Threw Oops;
    }) ∷
    []

-- each creation that was begun is dropped
abbrev pub failed_creation_of_an_interceptor : Type 0
failed_creation_of_an_interceptor =
    Shows deployment first_chosen 100000 32
    failed_creation_of_an_interceptor_commands
    failed_creation_of_an_interceptor_said
