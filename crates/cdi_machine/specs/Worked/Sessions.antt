-- Requests and sessions.
use Rattle.std.specs.Prelude.{ℕ, List, [], ◌∷◌, Some, codes}
use Rattle.cdi_base.specs.declared.reply.Reply.TheVariants as replies
use Rattle.cdi_base.specs.declared.reply.Refusal.TheVariants as refusals
use Rattle.cdi_base.specs.declared.built_in.BuiltIn.TheVariants as built_in
use Rattle.cdi_machine.specs.Commands.{Command}
use Rattle.cdi_machine.specs.Container.{Said}
use Rattle.cdi_machine.specs.Deployments.{Deployment, of_context, of_container, first_chosen, Shows}

abbrev r1 : List ℕ
r1 = codes "r1"

abbrev S : List ℕ
S = codes "S"

abbrev r2 : List ℕ
r2 = codes "r2"

abbrev r3 : List ℕ
r3 = codes "r3"

abbrev pub deployment : Deployment
deployment =
    record {
      beans = [];
      interceptors = [];
      types = [];
      written = [];
      observed = [];
      events = [];
      scripts = [];
      checked = [];
      texts = [];
    }

abbrev pub marked_session_ends_with_its_last_request_commands : List Command
marked_session_ends_with_its_last_request_commands =
    Command.Boot ∷
    Command.Begin r1 (Some S) ∷
    Command.Begin r2 (Some S) ∷
    Command.Invalidate S ∷
    Command.Invalidate S ∷
    Command.Begin r3 (Some S) ∷
    Command.End r1 ∷
    Command.End r2 ∷
    Command.Invalidate S ∷
    Command.Begin r1 (Some S) ∷
    []

abbrev pub marked_session_ends_with_its_last_request_said : List Said
marked_session_ends_with_its_last_request_said =
    (record {
      entries =
          of_context built_in.Initialized (codes "ApplicationScoped") ∷
          of_container built_in.Startup ∷
          [];
      reply = replies.Done;
    }) ∷
    (record {
      entries =
          of_context built_in.Initialized (codes "SessionScoped") ∷
          of_context built_in.Initialized (codes "RequestScoped") ∷
          [];
      reply = replies.Done;
    }) ∷
    (record {
      entries = of_context built_in.Initialized (codes "RequestScoped") ∷ [];
      reply = replies.Done;
    }) ∷
    (record { entries = []; reply = replies.Done }) ∷
    (record { entries = []; reply = replies.Refused refusals.SessionEnding }) ∷
    (record { entries = []; reply = replies.Refused refusals.SessionEnding }) ∷
    (record {
      entries =
          of_context built_in.BeforeDestroyed (codes "RequestScoped") ∷
          of_context built_in.Destroyed (codes "RequestScoped") ∷
          [];
      reply = replies.Done;
    }) ∷
    (record {
      entries =
          of_context built_in.BeforeDestroyed (codes "RequestScoped") ∷
          of_context built_in.Destroyed (codes "RequestScoped") ∷
          of_context built_in.BeforeDestroyed (codes "SessionScoped") ∷
          of_context built_in.Destroyed (codes "SessionScoped") ∷
          [];
      reply = replies.Done;
    }) ∷
    (record { entries = []; reply = replies.Refused refusals.NoSession }) ∷
    (record {
      entries =
          of_context built_in.Initialized (codes "SessionScoped") ∷
          of_context built_in.Initialized (codes "RequestScoped") ∷
          [];
      reply = replies.Done;
    }) ∷
    []

-- an invalidation is put off while a request has the session
abbrev pub marked_session_ends_with_its_last_request : Type 0
marked_session_ends_with_its_last_request =
    Shows deployment first_chosen 100000 32
    marked_session_ends_with_its_last_request_commands
    marked_session_ends_with_its_last_request_said
