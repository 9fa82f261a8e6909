-- Two interceptors that share context data.
use Rattle.std.specs.Prelude.{ℕ, pos, List, [], ◌∷◌, Some, None, codes}
use Rattle.cdi_base.specs.declared.value.Value.TheVariants as values
use Rattle.cdi_base.specs.declared.act.Act.TheVariants as acts
use Rattle.cdi_base.specs.declared.entry.Entry.TheVariants as entries
use Rattle.cdi_base.specs.declared.place.Place.TheVariants as places
use Rattle.cdi_base.specs.declared.place.InterceptorMethod.TheVariants as roles
use Rattle.cdi_base.specs.declared.scope.Scope.TheVariants as scopes
use Rattle.cdi_base.specs.declared.reply.Reply.TheVariants as replies
use Rattle.cdi_base.specs.declared.built_in.BuiltIn.TheVariants as built_in
use Rattle.cdi_machine.specs.Words.{Name}
use Rattle.cdi_machine.specs.Tables.{Step, One}
use Rattle.cdi_machine.specs.Commands.{Command}
use Rattle.cdi_machine.specs.Container.{Said}
use Rattle.cdi_machine.specs.Scripts.{Plain, Last, proceed, keep, peek, give}
use Rattle.cdi_machine.specs.Deployments.{Deployment, of_type, no_chain, managed_bean, by_role, of_context, of_container, first_chosen, Shows, method}

abbrev T : Name
T = 20

abbrev m : Name
m = 21

abbrev K1 : Name
K1 = 22

abbrev K2 : Name
K2 = 23

abbrev k : Name
k = 24

abbrev body_nop : ℕ
body_nop = 0

abbrev body_k1 : ℕ
body_k1 = 1

abbrev body_k2 : ℕ
body_k2 = 2

abbrev pub deployment : Deployment
deployment =
    record {
      beans =
          managed_bean T scopes.ApplicationScoped (record {
            fields = [];
            plan =
                Step.Intercept 0 ∷
                Step.Intercept 1 ∷
                Step.Construct [] no_chain ∷
                Step.Complete no_chain ∷
                [];
            methods = (m, method T m body_nop 0 (0 ∷ 1 ∷ [])) ∷ [];
            pre_destroy = no_chain;
          }) ∷
          [];
      interceptors =
          record {
            name = K1;
            fields = [];
            injected = [];
            body = by_role (Some body_k1) None None None;
          } ∷
          record {
            name = K2;
            fields = [];
            injected = [];
            body = by_role (Some body_k2) None None None;
          } ∷
          [];
      types = (T, One 0) ∷ [];
      written = [];
      observed = [];
      events = [];
      scripts =
          ([], []) ∷
          (keep k (Plain (values.Int (pos 3))) ∷ proceed ∷ give Last ∷ [], []) ∷
          (peek k ∷ give Last ∷ [], []) ∷
          [];
      checked = [];
      texts = [];
    }

abbrev pub context_data_belongs_to_the_invocation_commands : List Command
context_data_belongs_to_the_invocation_commands =
    Command.Boot ∷ Command.Call None (of_type T) m [] ∷ Command.Call None (of_type T) m [] ∷ []

abbrev pub context_data_belongs_to_the_invocation_said : List Said
context_data_belongs_to_the_invocation_said =
    (record {
      entries =
          of_context built_in.Initialized (codes "ApplicationScoped") ∷
          of_container built_in.Startup ∷
          [];
      reply = replies.Done;
    }) ∷
    (record {
      entries =
          entries.New 1 (places.Class T) ∷
          entries.New 2 (places.Class K1) ∷
          entries.Ready 2 ∷
          entries.New 3 (places.Class K2) ∷
          entries.Ready 3 ∷
          entries.Ready 1 ∷
          entries.Run 2 (places.Interceptor K1 roles.AroundInvoke) ∷
          entries.Did (acts.Keep k (values.Int (pos 3))) ∷
          entries.Did (acts.Proceed None) ∷
          entries.Run 3 (places.Interceptor K2 roles.AroundInvoke) ∷
          entries.Did (acts.Peek k) ∷
          entries.Did (acts.Give (values.Int (pos 3))) ∷
          entries.Did (acts.Give (values.Int (pos 3))) ∷
          [];
      reply = replies.Value (values.Int (pos 3));
    }) ∷
    (record {
      entries =
          entries.Run 2 (places.Interceptor K1 roles.AroundInvoke) ∷
          entries.Did (acts.Keep k (values.Int (pos 3))) ∷
          entries.Did (acts.Proceed None) ∷
          entries.Run 3 (places.Interceptor K2 roles.AroundInvoke) ∷
          entries.Did (acts.Peek k) ∷
          entries.Did (acts.Give (values.Int (pos 3))) ∷
          entries.Did (acts.Give (values.Int (pos 3))) ∷
          [];
      reply = replies.Value (values.Int (pos 3));
    }) ∷
    []

-- what the one keeps the other sees
abbrev pub context_data_belongs_to_the_invocation : Type 0
context_data_belongs_to_the_invocation =
    Shows deployment first_chosen 100000 32
    context_data_belongs_to_the_invocation_commands
    context_data_belongs_to_the_invocation_said
