-- An observer of a dependent bean with a dependent parameter.
use Rattle.std.specs.Prelude.{ℕ, pos, List, [], ◌∷◌, None, false, codes}
use Rattle.cdi_base.specs.declared.value.Value.TheVariants as values
use Rattle.cdi_base.specs.declared.act.Act.TheVariants as acts
use Rattle.cdi_base.specs.declared.entry.Entry.TheVariants as entries
use Rattle.cdi_base.specs.declared.place.Place.TheVariants as places
use Rattle.cdi_base.specs.declared.scope.Scope.TheVariants as scopes
use Rattle.cdi_base.specs.declared.reply.Reply.TheVariants as replies
use Rattle.cdi_base.specs.declared.built_in.BuiltIn.TheVariants as built_in
use Rattle.cdi_machine.specs.Words.{Name}
use Rattle.cdi_machine.specs.Tables.{Step, One}
use Rattle.cdi_machine.specs.Commands.{Command}
use Rattle.cdi_machine.specs.Container.{Said}
use Rattle.cdi_machine.specs.Deployments.{Deployment, of_type, no_chain, managed_bean, of_context, of_container, first_chosen, Shows, member}

abbrev E : Name
E = 20

abbrev D : Name
D = 21

abbrev P : Name
P = 22

abbrev o : Name
o = 23

abbrev body_nop : ℕ
body_nop = 0

abbrev pub deployment : Deployment
deployment =
    record {
      beans =
          managed_bean D scopes.Dependent (record {
            fields = [];
            plan = Step.Construct [] no_chain ∷ Step.Complete no_chain ∷ [];
            methods = [];
            pre_destroy = no_chain;
          }) ∷
          managed_bean P scopes.Dependent (record {
            fields = [];
            plan = Step.Construct [] no_chain ∷ Step.Complete no_chain ∷ [];
            methods = [];
            pre_destroy = no_chain;
          }) ∷
          [];
      interceptors = [];
      types = (P, One 1) ∷ [];
      written = [];
      observed = (
        E,
        [],
        ((record {
          bean = 0;
          member = member D o body_nop (of_type P ∷ []) [];
          conditional = false;
        }) ∷
            []) ∷
            [],
      ) ∷
          [];
      events = E ∷ [];
      scripts = ([], []) ∷ [];
      checked = [];
      texts = [];
    }

abbrev pub observer_and_parameter_are_temporary_commands : List Command
observer_and_parameter_are_temporary_commands =
    Command.Boot ∷ Command.Fire None E [] (values.Int (pos 1)) ∷ []

abbrev pub observer_and_parameter_are_temporary_said : List Said
observer_and_parameter_are_temporary_said =
    (record {
      entries =
          of_context built_in.Initialized (codes "ApplicationScoped") ∷
          of_container built_in.Startup ∷
          [];
      reply = replies.Done;
    }) ∷
    (record {
      entries =
          entries.Event E [] ∷
          entries.New 1 (places.Class D) ∷
          entries.Ready 1 ∷
          entries.New 2 (places.Class P) ∷
          entries.Ready 2 ∷
          entries.Run 1 (places.Member D o) ∷
          entries.Did (acts.Give values.Null) ∷
          entries.End 2 ∷
          entries.Gone 2 ∷
          entries.End 1 ∷
          entries.Gone 1 ∷
          [];
      reply = replies.Done;
    }) ∷
    []

-- both are destroyed after the delivery, by falling number
abbrev pub observer_and_parameter_are_temporary : Type 0
observer_and_parameter_are_temporary =
    Shows deployment first_chosen 100000 32
    observer_and_parameter_are_temporary_commands
    observer_and_parameter_are_temporary_said
