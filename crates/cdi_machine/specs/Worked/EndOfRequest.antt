-- Observers of the events at the end of a request.
use Rattle.std.specs.Prelude.{ℕ, List, [], ◌∷◌, None, false, codes}
use Rattle.cdi_base.specs.declared.value.Value.TheVariants as values
use Rattle.cdi_base.specs.declared.act.Act.TheVariants as acts
use Rattle.cdi_base.specs.declared.entry.Entry.TheVariants as entries
use Rattle.cdi_base.specs.declared.place.Place.TheVariants as places
use Rattle.cdi_base.specs.declared.scope.Scope.TheVariants as scopes
use Rattle.cdi_base.specs.declared.reply.Reply.TheVariants as replies
use Rattle.cdi_base.specs.declared.built_in.BuiltIn.TheVariants as built_in
use Rattle.cdi_base.specs.BuiltIn.{number_of}
use Rattle.cdi_machine.specs.Words.{Name}
use Rattle.cdi_machine.specs.Tables.{Step, One}
use Rattle.cdi_machine.specs.Commands.{Command}
use Rattle.cdi_machine.specs.Container.{Said}
use Rattle.cdi_machine.specs.Scripts.{find, destroy}
use Rattle.cdi_machine.specs.Deployments.{Deployment, of_type, no_chain, managed_bean, of_context, of_container, first_chosen, Shows, member}

abbrev r : List ℕ
r = codes "r"

abbrev R : Name
R = 21

abbrev o : Name
o = 22

abbrev A : Name
A = 23

abbrev d : Name
d = 24

abbrev body_nop : ℕ
body_nop = 0

abbrev body_d : ℕ
body_d = 1

abbrev pub deployment : Deployment
deployment =
    record {
      beans =
          managed_bean R scopes.RequestScoped (record {
            fields = [];
            plan = Step.Construct [] no_chain ∷ Step.Complete no_chain ∷ [];
            methods = [];
            pre_destroy = no_chain;
          }) ∷
          managed_bean A scopes.ApplicationScoped (record {
            fields = [];
            plan = Step.Construct [] no_chain ∷ Step.Complete no_chain ∷ [];
            methods = [];
            pre_destroy = no_chain;
          }) ∷
          [];
      interceptors = [];
      types = (R, One 0) ∷ (A, One 1) ∷ [];
      written = [];
      observed = (
        number_of built_in.Object,
        ((record {
          name = number_of built_in.BeforeDestroyed;
          members = (record {
            name = number_of built_in.Value;
            value = values.Text (codes "RequestScoped");
          }) ∷ [];
        }) ∷ []),
        ((record { bean = 0; member = member R o body_nop [] []; conditional = false }) ∷ []) ∷
            [],
      ) ∷ (
        number_of built_in.Object,
        ((record {
          name = number_of built_in.Destroyed;
          members = (record {
            name = number_of built_in.Value;
            value = values.Text (codes "RequestScoped");
          }) ∷ [];
        }) ∷ []),
        ((record { bean = 1; member = member A d body_d [] []; conditional = false }) ∷ []) ∷
            [],
      ) ∷
          [];
      events = [];
      scripts = ([], []) ∷ (find 0 ∷ destroy 0 ∷ [], of_type R ∷ []) ∷ [];
      checked = [];
      texts = [];
    }

abbrev pub context_is_open_before_its_end_and_gone_behind_it_commands : List Command
context_is_open_before_its_end_and_gone_behind_it_commands =
    Command.Boot ∷ Command.Begin r None ∷ Command.End r ∷ []

abbrev pub context_is_open_before_its_end_and_gone_behind_it_said : List Said
context_is_open_before_its_end_and_gone_behind_it_said =
    (record {
      entries =
          of_context built_in.Initialized (codes "ApplicationScoped") ∷
          of_container built_in.Startup ∷
          [];
      reply = replies.Done;
    }) ∷
    (record {
      entries = of_context built_in.Initialized (codes "RequestScoped") ∷ [];
      reply = replies.Done;
    }) ∷
    (record {
      entries =
          of_context built_in.BeforeDestroyed (codes "RequestScoped") ∷
          entries.New 1 (places.Class R) ∷
          entries.Ready 1 ∷
          entries.Run 1 (places.Member R o) ∷
          entries.Did (acts.Give values.Null) ∷
          entries.End 1 ∷
          entries.Gone 1 ∷
          of_context built_in.Destroyed (codes "RequestScoped") ∷
          entries.New 2 (places.Class A) ∷
          entries.Ready 2 ∷
          entries.Run 2 (places.Member A d) ∷
          entries.Did (acts.Find 0) ∷
          entries.Did (acts.Destroy 0) ∷
          entries.Did (acts.Throw (number_of built_in.ContextNotActiveException)) ∷
          [];
      reply = replies.Done;
    }) ∷
    []

-- an instance can be made until the end begins, and in the last event the context is not active
abbrev pub context_is_open_before_its_end_and_gone_behind_it : Type 0
context_is_open_before_its_end_and_gone_behind_it =
    Shows deployment first_chosen 100000 32
    context_is_open_before_its_end_and_gone_behind_it_commands
    context_is_open_before_its_end_and_gone_behind_it_said
