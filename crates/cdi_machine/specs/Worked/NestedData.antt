-- A bound method that calls another one with the same interceptor.
use Rattle.std.specs.Prelude.{ℕ, pos, List, [], ◌∷◌, Some, None, codes}
use Rattle.cdi_base.specs.declared.value.Value.TheVariants as values
use Rattle.cdi_base.specs.declared.act.Act.TheVariants as acts
use Rattle.cdi_base.specs.declared.act.Via.TheVariants as vias
use Rattle.cdi_base.specs.declared.entry.Entry.TheVariants as entries
use Rattle.cdi_base.specs.declared.place.Place.TheVariants as places
use Rattle.cdi_base.specs.declared.place.InterceptorMethod.TheVariants as roles
use Rattle.cdi_base.specs.declared.scope.Scope.TheVariants as scopes
use Rattle.cdi_base.specs.declared.reply.Reply.TheVariants as replies
use Rattle.cdi_base.specs.declared.built_in.BuiltIn.TheVariants as built_in
use Rattle.cdi_machine.specs.Words.{Name}
use Rattle.cdi_machine.specs.Tables.{Step, One}
use Rattle.cdi_machine.specs.Commands.{Command}
use Rattle.cdi_machine.specs.Container.{Said}
use Rattle.cdi_machine.specs.Scripts.{Plain, Last, set, call, proceed, keep, peek, give}
use Rattle.cdi_machine.specs.Deployments.{Deployment, of_type, no_chain, managed_bean, by_role, of_context, of_container, first_chosen, Shows, method}

abbrev T : Name
T = 20

abbrev m : Name
m = 21

abbrev J : Name
J = 22

abbrev k : Name
k = 23

abbrev f : Name
f = 24

abbrev u : Name
u = 25

abbrev U : Name
U = 26

abbrev body_m : ℕ
body_m = 0

abbrev body_nop : ℕ
body_nop = 1

abbrev body_round : ℕ
body_round = 2

abbrev pub deployment : Deployment
deployment =
    record {
      beans =
          managed_bean T scopes.ApplicationScoped (record {
            fields = [];
            plan =
                Step.Intercept 0 ∷
                Step.Construct [] no_chain ∷
                Step.Inject u (of_type U) ∷
                Step.Complete no_chain ∷
                [];
            methods = (m, method T m body_m 0 (0 ∷ [])) ∷ [];
            pre_destroy = no_chain;
          }) ∷
          managed_bean U scopes.ApplicationScoped (record {
            fields = [];
            plan = Step.Intercept 0 ∷ Step.Construct [] no_chain ∷ Step.Complete no_chain ∷ [];
            methods = (m, method U m body_nop 0 (0 ∷ [])) ∷ [];
            pre_destroy = no_chain;
          }) ∷
          [];
      interceptors =
          record {
            name = J;
            fields = (f, values.Int (pos 9)) ∷ [];
            injected = [];
            body = by_role (Some body_round) None None None;
          } ∷
          [];
      types = (T, One 0) ∷ (U, One 1) ∷ [];
      written = [];
      observed = [];
      events = [];
      scripts =
          (call (vias.Field u) m [] ∷ [], []) ∷
          ([], []) ∷ (
            peek k ∷
                set f Last ∷
                keep k (Plain (values.Int (pos 3))) ∷
                proceed ∷
                peek k ∷
                give Last ∷
                [],
            [],
          ) ∷
          [];
      checked = [];
      texts = [];
    }

abbrev pub context_data_is_not_seen_by_inner_invocations_commands : List Command
context_data_is_not_seen_by_inner_invocations_commands =
    Command.Boot ∷ Command.Call None (of_type T) m [] ∷ []

abbrev pub context_data_is_not_seen_by_inner_invocations_said : List Said
context_data_is_not_seen_by_inner_invocations_said =
    (record {
      entries =
          of_context built_in.Initialized (codes "ApplicationScoped") ∷
          of_container built_in.Startup ∷
          [];
      reply = replies.Done;
    }) ∷
    (record {
      entries =
          entries.New 1 (places.Class T) ∷
          entries.New 2 (places.Class J) ∷
          entries.Ready 2 ∷
          entries.Ready 1 ∷
          entries.Run 2 (places.Interceptor J roles.AroundInvoke) ∷
          entries.Did (acts.Peek k) ∷
          entries.Did (acts.Set f values.Null) ∷
          entries.Did (acts.Keep k (values.Int (pos 3))) ∷
          entries.Did (acts.Proceed None) ∷
          entries.Run 1 (places.Member T m) ∷
          entries.Did (acts.Call (vias.Field u) m []) ∷
          entries.New 3 (places.Class U) ∷
          entries.New 4 (places.Class J) ∷
          entries.Ready 4 ∷
          entries.Ready 3 ∷
          entries.Run 4 (places.Interceptor J roles.AroundInvoke) ∷
          entries.Did (acts.Peek k) ∷
          entries.Did (acts.Set f values.Null) ∷
          entries.Did (acts.Keep k (values.Int (pos 3))) ∷
          entries.Did (acts.Proceed None) ∷
          entries.Run 3 (places.Member U m) ∷
          entries.Did (acts.Give values.Null) ∷
          entries.Did (acts.Peek k) ∷
          entries.Did (acts.Give (values.Int (pos 3))) ∷
          entries.Did (acts.Give values.Null) ∷
          entries.Did (acts.Peek k) ∷
          entries.Did (acts.Give (values.Int (pos 3))) ∷
          [];
      reply = replies.Value (values.Int (pos 3));
    }) ∷
    []

-- an invocation inside another one begins without data
abbrev pub context_data_is_not_seen_by_inner_invocations : Type 0
context_data_is_not_seen_by_inner_invocations =
    Shows deployment first_chosen 100000 32
    context_data_is_not_seen_by_inner_invocations_commands
    context_data_is_not_seen_by_inner_invocations_said
