-- A body that fires an event with uses that aren't in their written form.
use Rattle.std.specs.Prelude.{pos, List, [], ◌∷◌, None, false, codes}
use Rattle.cdi_base.specs.declared.value.Value.TheVariants as values
use Rattle.cdi_base.specs.declared.act.Act.TheVariants as acts
use Rattle.cdi_base.specs.declared.entry.Entry.TheVariants as entries
use Rattle.cdi_base.specs.declared.place.Place.TheVariants as places
use Rattle.cdi_base.specs.declared.scope.Scope.TheVariants as scopes
use Rattle.cdi_base.specs.declared.reply.Reply.TheVariants as replies
use Rattle.cdi_base.specs.declared.built_in.BuiltIn.TheVariants as built_in
use Rattle.cdi_base.specs.declared.uses.Use.{Use}
use Rattle.cdi_base.specs.BuiltIn.{number_of}
use Rattle.cdi_machine.specs.Words.{Name}
use Rattle.cdi_machine.specs.Tables.{Step, One}
use Rattle.cdi_machine.specs.Commands.{Command}
use Rattle.cdi_machine.specs.Container.{Said}
use Rattle.cdi_machine.specs.Scripts.{Plain, fire, give}
use Rattle.cdi_machine.specs.Deployments.{Deployment, of_type, no_chain, managed_bean, of_context, of_container, first_chosen, Shows, method, member}

abbrev K : Name
K = 20

abbrev go : Name
go = 21

abbrev h : Name
h = 22

abbrev E : Name
E = 23

abbrev Q : Name
Q = 24

abbrev R : Name
R = 25

abbrev v : Name
v = 26

-- the uses as the body gives them
abbrev raw : List Use
raw =
    record { name = R; members = [] } ∷
    record { name = number_of built_in.Any; members = [] } ∷
    record { name = Q; members = [] } ∷
    []

-- the same in their written form: in order, without Any, with all members
abbrev written : List Use
written =
    record { name = Q; members = record { name = v; value = values.Null } ∷ [] } ∷
    record { name = R; members = [] } ∷
    []

abbrev pub deployment : Deployment
deployment =
    record {
      beans =
          managed_bean K scopes.ApplicationScoped (record {
            fields = [];
            plan = Step.Construct [] no_chain ∷ Step.Complete no_chain ∷ [];
            methods = (go, method K go 0 0 []) ∷ [];
            pre_destroy = no_chain;
          }) ∷
          [];
      interceptors = [];
      types = (K, One 0) ∷ [];
      written = (raw, written) ∷ [];
      observed = (
        E,
        written,
        ((record { bean = 0; member = member K h 1 [] []; conditional = false }) ∷ []) ∷ [],
      ) ∷
          [];
      events = E ∷ [];
      scripts =
          (fire E raw (Plain (values.Int (pos 5))) ∷ give (Plain values.Null) ∷ [], []) ∷
          ([], []) ∷
          [];
      checked = [];
      texts = [];
    }

abbrev pub uses_are_taken_in_their_written_form_commands : List Command
uses_are_taken_in_their_written_form_commands =
    Command.Boot ∷ Command.Call None (of_type K) go [] ∷ []

abbrev pub uses_are_taken_in_their_written_form_said : List Said
uses_are_taken_in_their_written_form_said =
    (record {
      entries =
          of_context built_in.Initialized (codes "ApplicationScoped") ∷
          of_container built_in.Startup ∷
          [];
      reply = replies.Done;
    }) ∷
    (record {
      entries =
          entries.New 1 (places.Class K) ∷
          entries.Ready 1 ∷
          entries.Run 1 (places.Member K go) ∷
          entries.Did (acts.Fire E written (values.Int (pos 5))) ∷
          entries.Event E written ∷
          entries.Run 1 (places.Member K h) ∷
          entries.Did (acts.Give values.Null) ∷
          entries.Did (acts.Give values.Null) ∷
          [];
      reply = replies.Value values.Null;
    }) ∷
    []

-- the entry and the event have the written form
abbrev pub uses_are_taken_in_their_written_form : Type 0
uses_are_taken_in_their_written_form =
    Shows deployment first_chosen 100000 32
    uses_are_taken_in_their_written_form_commands
    uses_are_taken_in_their_written_form_said
