-- Three interceptors round a method.
use Rattle.std.specs.Prelude.{ℕ, pos, List, [], ◌∷◌, Some, None, codes}
use Rattle.cdi_base.specs.declared.value.Value.TheVariants as values
use Rattle.cdi_base.specs.declared.act.Act.TheVariants as acts
use Rattle.cdi_base.specs.declared.entry.Entry.TheVariants as entries
use Rattle.cdi_base.specs.declared.place.Place.TheVariants as places
use Rattle.cdi_base.specs.declared.place.InterceptorMethod.TheVariants as roles
use Rattle.cdi_base.specs.declared.scope.Scope.TheVariants as scopes
use Rattle.cdi_base.specs.declared.reply.Reply.TheVariants as replies
use Rattle.cdi_base.specs.declared.built_in.BuiltIn.TheVariants as built_in
use Rattle.cdi_machine.specs.Words.{Name}
use Rattle.cdi_machine.specs.Tables.{Step, One}
use Rattle.cdi_machine.specs.Commands.{Command}
use Rattle.cdi_machine.specs.Container.{Said}
use Rattle.cdi_machine.specs.Scripts.{Plain, Last, proceed, proceed_with, give, throw, catch}
use Rattle.cdi_machine.specs.Deployments.{Deployment, of_type, no_chain, managed_bean, by_role, of_context, of_container, first_chosen, Shows, method}

abbrev T : Name
T = 20

abbrev m : Name
m = 21

abbrev I1 : Name
I1 = 22

abbrev I2 : Name
I2 = 23

abbrev I3 : Name
I3 = 24

abbrev Bad : Name
Bad = 25

abbrev body_m : ℕ
body_m = 0

abbrev body_i1 : ℕ
body_i1 = 1

abbrev body_i2 : ℕ
body_i2 = 2

abbrev body_i3 : ℕ
body_i3 = 3

abbrev pub deployment : Deployment
deployment =
    record {
      beans =
          managed_bean T scopes.ApplicationScoped (record {
            fields = [];
            plan =
                Step.Intercept 0 ∷
                Step.Intercept 1 ∷
                Step.Intercept 2 ∷
                Step.Construct [] no_chain ∷
                Step.Complete no_chain ∷
                [];
            methods = (m, method T m body_m 1 (0 ∷ 1 ∷ 2 ∷ [])) ∷ [];
            pre_destroy = no_chain;
          }) ∷
          [];
      interceptors =
          record {
            name = I1;
            fields = [];
            injected = [];
            body = by_role (Some body_i1) None None None;
          } ∷
          record {
            name = I2;
            fields = [];
            injected = [];
            body = by_role (Some body_i2) None None None;
          } ∷
          record {
            name = I3;
            fields = [];
            injected = [];
            body = by_role (Some body_i3) None None None;
          } ∷
          [];
      types = (T, One 0) ∷ [];
      written = [];
      observed = [];
      events = [];
      scripts =
          (throw Bad ∷ [], []) ∷ (
            proceed ∷
                catch (proceed) ∷
                catch (give (Plain (values.Int (pos 7)))) ∷
                give Last ∷
                [],
            [],
          ) ∷ (
            proceed_with [] ∷
                catch (proceed_with (Plain (values.Int (pos 5)) ∷ [])) ∷
                give Last ∷
                [],
            [],
          ) ∷
          (proceed ∷ give Last ∷ [], []) ∷
          [];
      checked = [];
      texts = [];
    }

abbrev pub proceeds_again_with_other_values_commands : List Command
proceeds_again_with_other_values_commands =
    Command.Boot ∷ Command.Call None (of_type T) m (values.Int (pos 1) ∷ []) ∷ []

abbrev pub proceeds_again_with_other_values_said : List Said
proceeds_again_with_other_values_said =
    (record {
      entries =
          of_context built_in.Initialized (codes "ApplicationScoped") ∷
          of_container built_in.Startup ∷
          [];
      reply = replies.Done;
    }) ∷
    (record {
      entries =
          entries.New 1 (places.Class T) ∷
          entries.New 2 (places.Class I1) ∷
          entries.Ready 2 ∷
          entries.New 3 (places.Class I2) ∷
          entries.Ready 3 ∷
          entries.New 4 (places.Class I3) ∷
          entries.Ready 4 ∷
          entries.Ready 1 ∷
          entries.Run 2 (places.Interceptor I1 roles.AroundInvoke) ∷
          entries.Did (acts.Proceed None) ∷
          entries.Run 3 (places.Interceptor I2 roles.AroundInvoke) ∷
          entries.Did (acts.Proceed (Some [])) ∷
          entries.Did (acts.Proceed (Some (values.Int (pos 5) ∷ []))) ∷
          entries.Run 4 (places.Interceptor I3 roles.AroundInvoke) ∷
          entries.Did (acts.Proceed None) ∷
          entries.Run 1 (places.Member T m) ∷
          entries.Did (acts.Throw Bad) ∷
          entries.Did (acts.Throw Bad) ∷
          entries.Did (acts.Throw Bad) ∷
          entries.Did (acts.Proceed None) ∷
          entries.Run 3 (places.Interceptor I2 roles.AroundInvoke) ∷
          entries.Did (acts.Proceed (Some [])) ∷
          entries.Did (acts.Proceed (Some (values.Int (pos 5) ∷ []))) ∷
          entries.Run 4 (places.Interceptor I3 roles.AroundInvoke) ∷
          entries.Did (acts.Proceed None) ∷
          entries.Run 1 (places.Member T m) ∷
          entries.Did (acts.Throw Bad) ∷
          entries.Did (acts.Throw Bad) ∷
          entries.Did (acts.Throw Bad) ∷
          entries.Did (acts.Give (values.Int (pos 7))) ∷
          [];
      reply = replies.Value (values.Int (pos 7));
    }) ∷
    []

-- a proceed runs the rest of the chain each time, with the values given last
abbrev pub proceeds_again_with_other_values : Type 0
proceeds_again_with_other_values =
    Shows deployment first_chosen 100000 32
    proceeds_again_with_other_values_commands
    proceeds_again_with_other_values_said
