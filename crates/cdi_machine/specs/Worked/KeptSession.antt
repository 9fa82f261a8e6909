-- A session that nobody invalidates.
use Rattle.std.specs.Prelude.{ℕ, List, [], ◌∷◌, Some, codes}
use Rattle.cdi_base.specs.declared.value.Value.TheVariants as values
use Rattle.cdi_base.specs.declared.act.Act.TheVariants as acts
use Rattle.cdi_base.specs.declared.entry.Entry.TheVariants as entries
use Rattle.cdi_base.specs.declared.place.Place.TheVariants as places
use Rattle.cdi_base.specs.declared.scope.Scope.TheVariants as scopes
use Rattle.cdi_base.specs.declared.reply.Reply.TheVariants as replies
use Rattle.cdi_base.specs.declared.built_in.BuiltIn.TheVariants as built_in
use Rattle.cdi_machine.specs.Words.{Name}
use Rattle.cdi_machine.specs.Tables.{Step, One}
use Rattle.cdi_machine.specs.Commands.{Command}
use Rattle.cdi_machine.specs.Container.{Said}
use Rattle.cdi_machine.specs.Deployments.{Deployment, of_type, no_chain, managed_bean, of_context, of_container, first_chosen, Shows, method}

abbrev r : List ℕ
r = codes "r"

abbrev S : List ℕ
S = codes "S"

abbrev K : Name
K = 22

abbrev m : Name
m = 23

abbrev body_nop : ℕ
body_nop = 0

abbrev pub deployment : Deployment
deployment =
    record {
      beans =
          managed_bean K scopes.SessionScoped (record {
            fields = [];
            plan = Step.Construct [] no_chain ∷ Step.Complete no_chain ∷ [];
            methods = (m, method K m body_nop 0 []) ∷ [];
            pre_destroy = no_chain;
          }) ∷
          [];
      interceptors = [];
      types = (K, One 0) ∷ [];
      written = [];
      observed = [];
      events = [];
      scripts = ([], []) ∷ [];
      checked = [];
      texts = [];
    }

abbrev pub session_outlives_its_requests_commands : List Command
session_outlives_its_requests_commands =
    Command.Boot ∷
    Command.Begin r (Some S) ∷
    Command.Call (Some r) (of_type K) m [] ∷
    Command.End r ∷
    Command.Live ∷
    Command.Begin r (Some S) ∷
    Command.Call (Some r) (of_type K) m [] ∷
    Command.Shutdown ∷
    []

abbrev pub session_outlives_its_requests_said : List Said
session_outlives_its_requests_said =
    (record {
      entries =
          of_context built_in.Initialized (codes "ApplicationScoped") ∷
          of_container built_in.Startup ∷
          [];
      reply = replies.Done;
    }) ∷
    (record {
      entries =
          of_context built_in.Initialized (codes "SessionScoped") ∷
          of_context built_in.Initialized (codes "RequestScoped") ∷
          [];
      reply = replies.Done;
    }) ∷
    (record {
      entries =
          entries.New 1 (places.Class K) ∷
          entries.Ready 1 ∷
          entries.Run 1 (places.Member K m) ∷
          entries.Did (acts.Give values.Null) ∷
          [];
      reply = replies.Value values.Null;
    }) ∷
    (record {
      entries =
          of_context built_in.BeforeDestroyed (codes "RequestScoped") ∷
          of_context built_in.Destroyed (codes "RequestScoped") ∷
          [];
      reply = replies.Done;
    }) ∷
    (record { entries = []; reply = replies.Live (1 ∷ []) }) ∷
    (record {
      entries = of_context built_in.Initialized (codes "RequestScoped") ∷ [];
      reply = replies.Done;
    }) ∷
    (record {
      entries = entries.Run 1 (places.Member K m) ∷ entries.Did (acts.Give values.Null) ∷ [];
      reply = replies.Value values.Null;
    }) ∷
    (record {
      entries =
          of_context built_in.BeforeDestroyed (codes "RequestScoped") ∷
          of_context built_in.Destroyed (codes "RequestScoped") ∷
          of_context built_in.BeforeDestroyed (codes "SessionScoped") ∷
          entries.End 1 ∷
          entries.Gone 1 ∷
          of_context built_in.Destroyed (codes "SessionScoped") ∷
          of_container built_in.Shutdown ∷
          of_context built_in.BeforeDestroyed (codes "ApplicationScoped") ∷
          of_context built_in.Destroyed (codes "ApplicationScoped") ∷
          [];
      reply = replies.Done;
    }) ∷
    []

-- a session that is not marked stays, with its instances
abbrev pub session_outlives_its_requests : Type 0
session_outlives_its_requests =
    Shows deployment first_chosen 100000 32
    session_outlives_its_requests_commands
    session_outlives_its_requests_said
