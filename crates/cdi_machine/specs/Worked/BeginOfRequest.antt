-- Observers of the events at the begin of a request and a session.
use Rattle.std.specs.Prelude.{ℕ, List, [], ◌∷◌, Some, None, false, codes}
use Rattle.cdi_base.specs.declared.value.Value.TheVariants as values
use Rattle.cdi_base.specs.declared.act.Act.TheVariants as acts
use Rattle.cdi_base.specs.declared.entry.Entry.TheVariants as entries
use Rattle.cdi_base.specs.declared.place.Place.TheVariants as places
use Rattle.cdi_base.specs.declared.scope.Scope.TheVariants as scopes
use Rattle.cdi_base.specs.declared.reply.Reply.TheVariants as replies
use Rattle.cdi_base.specs.declared.built_in.BuiltIn.TheVariants as built_in
use Rattle.cdi_base.specs.BuiltIn.{number_of}
use Rattle.cdi_machine.specs.Words.{Name}
use Rattle.cdi_machine.specs.Tables.{Step}
use Rattle.cdi_machine.specs.Commands.{Command}
use Rattle.cdi_machine.specs.Container.{Said}
use Rattle.cdi_machine.specs.Deployments.{Deployment, no_chain, managed_bean, of_context, of_container, first_chosen, Shows, member}

abbrev q : List ℕ
q = codes "q"

abbrev r : List ℕ
r = codes "r"

abbrev s : List ℕ
s = codes "s"

abbrev R : Name
R = 21

abbrev o : Name
o = 22

abbrev p : Name
p = 23

abbrev body_nop : ℕ
body_nop = 0

abbrev pub deployment : Deployment
deployment =
    record {
      beans =
          managed_bean R scopes.RequestScoped (record {
            fields = [];
            plan = Step.Construct [] no_chain ∷ Step.Complete no_chain ∷ [];
            methods = [];
            pre_destroy = no_chain;
          }) ∷
          [];
      interceptors = [];
      types = [];
      written = [];
      observed = (
        number_of built_in.Object,
        ((record {
          name = number_of built_in.Initialized;
          members = (record {
            name = number_of built_in.Value;
            value = values.Text (codes "SessionScoped");
          }) ∷ [];
        }) ∷ []),
        ((record { bean = 0; member = member R o body_nop [] []; conditional = false }) ∷ []) ∷
            [],
      ) ∷ (
        number_of built_in.Object,
        ((record {
          name = number_of built_in.Initialized;
          members = (record {
            name = number_of built_in.Value;
            value = values.Text (codes "RequestScoped");
          }) ∷ [];
        }) ∷ []),
        ((record { bean = 0; member = member R p body_nop [] []; conditional = false }) ∷ []) ∷
            [],
      ) ∷
          [];
      events = [];
      scripts = ([], []) ∷ [];
      checked = [];
      texts = [];
    }

abbrev pub contexts_are_open_before_their_first_event_commands : List Command
contexts_are_open_before_their_first_event_commands =
    Command.Boot ∷ Command.Begin r (Some s) ∷ Command.Begin q None ∷ []

abbrev pub contexts_are_open_before_their_first_event_said : List Said
contexts_are_open_before_their_first_event_said =
    (record {
      entries =
          of_context built_in.Initialized (codes "ApplicationScoped") ∷
          of_container built_in.Startup ∷
          [];
      reply = replies.Done;
    }) ∷
    (record {
      entries =
          of_context built_in.Initialized (codes "SessionScoped") ∷
          entries.New 1 (places.Class R) ∷
          entries.Ready 1 ∷
          entries.Run 1 (places.Member R o) ∷
          entries.Did (acts.Give values.Null) ∷
          of_context built_in.Initialized (codes "RequestScoped") ∷
          entries.Run 1 (places.Member R p) ∷
          entries.Did (acts.Give values.Null) ∷
          [];
      reply = replies.Done;
    }) ∷
    (record {
      entries =
          of_context built_in.Initialized (codes "RequestScoped") ∷
          entries.New 2 (places.Class R) ∷
          entries.Ready 2 ∷
          entries.Run 2 (places.Member R p) ∷
          entries.Did (acts.Give values.Null) ∷
          [];
      reply = replies.Done;
    }) ∷
    []

-- the request is open when the event of its new session is delivered, and when its own is
abbrev pub contexts_are_open_before_their_first_event : Type 0
contexts_are_open_before_their_first_event =
    Shows deployment first_chosen 100000 32
    contexts_are_open_before_their_first_event_commands
    contexts_are_open_before_their_first_event_said
