-- A parameter whose constructor destroys the receiver of the observer.
use Rattle.std.specs.Prelude.{ℕ, pos, List, [], ◌∷◌, None, false, codes}
use Rattle.cdi_base.specs.declared.value.Value.TheVariants as values
use Rattle.cdi_base.specs.declared.act.Act.TheVariants as acts
use Rattle.cdi_base.specs.declared.entry.Entry.TheVariants as entries
use Rattle.cdi_base.specs.declared.place.Place.TheVariants as places
use Rattle.cdi_base.specs.declared.scope.Scope.TheVariants as scopes
use Rattle.cdi_base.specs.declared.reply.Reply.TheVariants as replies
use Rattle.cdi_base.specs.declared.built_in.BuiltIn.TheVariants as built_in
use Rattle.cdi_base.specs.BuiltIn.{number_of}
use Rattle.cdi_machine.specs.Words.{Name}
use Rattle.cdi_machine.specs.Tables.{Step, One}
use Rattle.cdi_machine.specs.Commands.{Command}
use Rattle.cdi_machine.specs.Container.{Said}
use Rattle.cdi_machine.specs.Scripts.{Last, find, destroy, give, catch}
use Rattle.cdi_machine.specs.Deployments.{Deployment, of_type, no_chain, constructor_of, managed_bean, of_context, of_container, first_chosen, Shows, member}

abbrev E : Name
E = 20

abbrev O : Name
O = 21

abbrev D : Name
D = 22

abbrev o : Name
o = 23

abbrev body_k : ℕ
body_k = 0

abbrev body_nop : ℕ
body_nop = 1

abbrev pub deployment : Deployment
deployment =
    record {
      beans =
          managed_bean O scopes.ApplicationScoped (record {
            fields = [];
            plan = Step.Construct [] no_chain ∷ Step.Complete no_chain ∷ [];
            methods = [];
            pre_destroy = no_chain;
          }) ∷
          managed_bean D scopes.Dependent (record {
            fields = [];
            plan =
                Step.Construct [] (record {
                  chain = [];
                  callbacks = constructor_of D body_k ∷ [];
                }) ∷
                Step.Complete no_chain ∷
                [];
            methods = [];
            pre_destroy = no_chain;
          }) ∷
          [];
      interceptors = [];
      types = (D, One 1) ∷ (O, One 0) ∷ [];
      written = [];
      observed = (
        E,
        [],
        ((record {
          bean = 0;
          member = member O o body_nop (of_type D ∷ []) [];
          conditional = false;
        }) ∷
            []) ∷
            [],
      ) ∷
          [];
      events = E ∷ [];
      scripts = (find 0 ∷ destroy 0 ∷ catch (give Last) ∷ [], of_type O ∷ []) ∷ ([], []) ∷ [];
      checked = [];
      texts = (number_of built_in.IllegalStateException, codes "IllegalStateException") ∷ [];
    }

abbrev pub receiver_is_not_destroyed_while_parameters_are_obtained_commands : List Command
receiver_is_not_destroyed_while_parameters_are_obtained_commands =
    Command.Boot ∷ Command.Fire None E [] (values.Int (pos 1)) ∷ []

abbrev pub receiver_is_not_destroyed_while_parameters_are_obtained_said : List Said
receiver_is_not_destroyed_while_parameters_are_obtained_said =
    (record {
      entries =
          of_context built_in.Initialized (codes "ApplicationScoped") ∷
          of_container built_in.Startup ∷
          [];
      reply = replies.Done;
    }) ∷
    (record {
      entries =
          entries.Event E [] ∷
          entries.New 1 (places.Class O) ∷
          entries.Ready 1 ∷
          entries.New 2 (places.Class D) ∷
          entries.Run 2 (places.Constructor D) ∷
          entries.Did (acts.Find 0) ∷
          entries.Did (acts.Destroy 0) ∷
          entries.Did (acts.Give (values.Text (codes "IllegalStateException"))) ∷
          entries.Ready 2 ∷
          entries.Run 1 (places.Member O o) ∷
          entries.Did (acts.Give values.Null) ∷
          entries.End 2 ∷
          entries.Gone 2 ∷
          [];
      reply = replies.Done;
    }) ∷
    []

-- the receiver is a target from the moment it is obtained
abbrev pub receiver_is_not_destroyed_while_parameters_are_obtained : Type 0
receiver_is_not_destroyed_while_parameters_are_obtained =
    Shows deployment first_chosen 100000 32
    receiver_is_not_destroyed_while_parameters_are_obtained_commands
    receiver_is_not_destroyed_while_parameters_are_obtained_said
