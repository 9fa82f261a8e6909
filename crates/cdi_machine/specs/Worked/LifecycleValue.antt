-- A post-construct interceptor that gives a value.
use Rattle.std.specs.Prelude.{ℕ, pos, List, [], ◌∷◌, Some, None, codes}
use Rattle.cdi_base.specs.declared.value.Value.TheVariants as values
use Rattle.cdi_base.specs.declared.act.Act.TheVariants as acts
use Rattle.cdi_base.specs.declared.entry.Entry.TheVariants as entries
use Rattle.cdi_base.specs.declared.place.Place.TheVariants as places
use Rattle.cdi_base.specs.declared.place.InterceptorMethod.TheVariants as roles
use Rattle.cdi_base.specs.declared.scope.Scope.TheVariants as scopes
use Rattle.cdi_base.specs.declared.reply.Reply.TheVariants as replies
use Rattle.cdi_base.specs.declared.built_in.BuiltIn.TheVariants as built_in
use Rattle.cdi_machine.specs.Words.{Name}
use Rattle.cdi_machine.specs.Tables.{Step, One}
use Rattle.cdi_machine.specs.Commands.{Command}
use Rattle.cdi_machine.specs.Container.{Said}
use Rattle.cdi_machine.specs.Scripts.{Plain, Last, set, proceed, give}
use Rattle.cdi_machine.specs.Deployments.{Deployment, of_type, no_chain, managed_bean, by_role, of_context, of_container, first_chosen, Shows, method}

abbrev C : Name
C = 20

abbrev m : Name
m = 21

abbrev J1 : Name
J1 = 22

abbrev J2 : Name
J2 = 23

abbrev f : Name
f = 24

abbrev body_nop : ℕ
body_nop = 0

abbrev body_outer : ℕ
body_outer = 1

abbrev body_inner : ℕ
body_inner = 2

abbrev pub deployment : Deployment
deployment =
    record {
      beans =
          managed_bean C scopes.ApplicationScoped (record {
            fields = [];
            plan =
                Step.Intercept 0 ∷
                Step.Intercept 1 ∷
                Step.Construct [] no_chain ∷
                Step.Complete (record { chain = 0 ∷ 1 ∷ []; callbacks = [] }) ∷
                [];
            methods = (m, method C m body_nop 0 []) ∷ [];
            pre_destroy = no_chain;
          }) ∷
          [];
      interceptors =
          record {
            name = J1;
            fields = (f, values.Null) ∷ [];
            injected = [];
            body = by_role None None (Some body_outer) None;
          } ∷
          record {
            name = J2;
            fields = [];
            injected = [];
            body = by_role None None (Some body_inner) None;
          } ∷
          [];
      types = (C, One 0) ∷ [];
      written = [];
      observed = [];
      events = [];
      scripts =
          ([], []) ∷
          (proceed ∷ set f Last ∷ [], []) ∷
          (give (Plain (values.Int (pos 7))) ∷ [], []) ∷
          [];
      checked = [];
      texts = [];
    }

abbrev pub proceed_in_a_lifecycle_chain_gives_null_commands : List Command
proceed_in_a_lifecycle_chain_gives_null_commands =
    Command.Boot ∷ Command.Call None (of_type C) m [] ∷ []

abbrev pub proceed_in_a_lifecycle_chain_gives_null_said : List Said
proceed_in_a_lifecycle_chain_gives_null_said =
    (record {
      entries =
          of_context built_in.Initialized (codes "ApplicationScoped") ∷
          of_container built_in.Startup ∷
          [];
      reply = replies.Done;
    }) ∷
    (record {
      entries =
          entries.New 1 (places.Class C) ∷
          entries.New 2 (places.Class J1) ∷
          entries.Ready 2 ∷
          entries.New 3 (places.Class J2) ∷
          entries.Ready 3 ∷
          entries.Run 2 (places.Interceptor J1 roles.PostConstruct) ∷
          entries.Did (acts.Proceed None) ∷
          entries.Run 3 (places.Interceptor J2 roles.PostConstruct) ∷
          entries.Did (acts.Give (values.Int (pos 7))) ∷
          entries.Did (acts.Set f values.Null) ∷
          entries.Did (acts.Give values.Null) ∷
          entries.Ready 1 ∷
          entries.Run 1 (places.Member C m) ∷
          entries.Did (acts.Give values.Null) ∷
          [];
      reply = replies.Value values.Null;
    }) ∷
    []

-- what an interceptor of a lifecycle chain gives is ignored
abbrev pub proceed_in_a_lifecycle_chain_gives_null : Type 0
proceed_in_a_lifecycle_chain_gives_null =
    Shows deployment first_chosen 100000 32
    proceed_in_a_lifecycle_chain_gives_null_commands
    proceed_in_a_lifecycle_chain_gives_null_said
