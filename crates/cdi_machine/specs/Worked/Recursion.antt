-- A method that calls itself.
use Rattle.std.specs.Prelude.{ℕ, List, [], ◌∷◌, None, codes}
use Rattle.cdi_base.specs.declared.act.Act.TheVariants as acts
use Rattle.cdi_base.specs.declared.entry.Entry.TheVariants as entries
use Rattle.cdi_base.specs.declared.place.Place.TheVariants as places
use Rattle.cdi_base.specs.declared.scope.Scope.TheVariants as scopes
use Rattle.cdi_base.specs.declared.reply.Cause.TheVariants as causes
use Rattle.cdi_base.specs.declared.reply.Reply.TheVariants as replies
use Rattle.cdi_base.specs.declared.reply.Refusal.TheVariants as refusals
use Rattle.cdi_base.specs.declared.built_in.BuiltIn.TheVariants as built_in
use Rattle.cdi_machine.specs.Words.{Name}
use Rattle.cdi_machine.specs.Tables.{Step, One}
use Rattle.cdi_machine.specs.Commands.{Command}
use Rattle.cdi_machine.specs.Container.{Said}
use Rattle.cdi_machine.specs.Scripts.{own}
use Rattle.cdi_machine.specs.Deployments.{Deployment, of_type, no_chain, managed_bean, of_context, of_container, first_chosen, Shows, method}

abbrev K : Name
K = 20

abbrev a : Name
a = 21

abbrev body_a : ℕ
body_a = 0

abbrev pub deployment : Deployment
deployment =
    record {
      beans =
          managed_bean K scopes.ApplicationScoped (record {
            fields = [];
            plan = Step.Construct [] no_chain ∷ Step.Complete no_chain ∷ [];
            methods = (a, method K a body_a 0 []) ∷ [];
            pre_destroy = no_chain;
          }) ∷
          [];
      interceptors = [];
      types = (K, One 0) ∷ [];
      written = [];
      observed = [];
      events = [];
      scripts = (own a [] ∷ [], []) ∷ [];
      checked = [];
      texts = [];
    }

abbrev pub self_call_is_cut_at_the_last_level_commands : List Command
self_call_is_cut_at_the_last_level_commands =
    Command.Boot ∷ Command.Call None (of_type K) a [] ∷ Command.Call None (of_type K) a [] ∷ []

abbrev pub self_call_is_cut_at_the_last_level_said : List Said
self_call_is_cut_at_the_last_level_said =
    (record {
      entries =
          of_context built_in.Initialized (codes "ApplicationScoped") ∷
          of_container built_in.Startup ∷
          [];
      reply = replies.Done;
    }) ∷
    (record {
      entries =
          entries.New 1 (places.Class K) ∷
          entries.Ready 1 ∷
          entries.Run 1 (places.Member K a) ∷
          entries.Did (acts.Own a []) ∷
          entries.Run 1 (places.Member K a) ∷
          entries.Did (acts.Own a []) ∷
          entries.Run 1 (places.Member K a) ∷
          entries.Did (acts.Own a []) ∷
          entries.Run 1 (places.Member K a) ∷
          entries.Did (acts.Own a []) ∷
          entries.Run 1 (places.Member K a) ∷
          entries.Did (acts.Own a []) ∷
          entries.Run 1 (places.Member K a) ∷
          entries.Did (acts.Own a []) ∷
          entries.Run 1 (places.Member K a) ∷
          entries.Did (acts.Own a []) ∷
          entries.Run 1 (places.Member K a) ∷
          entries.Did (acts.Own a []) ∷
          entries.Run 1 (places.Member K a) ∷
          entries.Did (acts.Own a []) ∷
          entries.Run 1 (places.Member K a) ∷
          entries.Did (acts.Own a []) ∷
          entries.Run 1 (places.Member K a) ∷
          entries.Did (acts.Own a []) ∷
          entries.Run 1 (places.Member K a) ∷
          entries.Did (acts.Own a []) ∷
          entries.Run 1 (places.Member K a) ∷
          entries.Did (acts.Own a []) ∷
          entries.Run 1 (places.Member K a) ∷
          entries.Did (acts.Own a []) ∷
          entries.Run 1 (places.Member K a) ∷
          entries.Did (acts.Own a []) ∷
          entries.Run 1 (places.Member K a) ∷
          entries.Did (acts.Own a []) ∷
          entries.Run 1 (places.Member K a) ∷
          entries.Did (acts.Own a []) ∷
          entries.Run 1 (places.Member K a) ∷
          entries.Did (acts.Own a []) ∷
          entries.Run 1 (places.Member K a) ∷
          entries.Did (acts.Own a []) ∷
          entries.Run 1 (places.Member K a) ∷
          entries.Did (acts.Own a []) ∷
          entries.Run 1 (places.Member K a) ∷
          entries.Did (acts.Own a []) ∷
          entries.Run 1 (places.Member K a) ∷
          entries.Did (acts.Own a []) ∷
          entries.Run 1 (places.Member K a) ∷
          entries.Did (acts.Own a []) ∷
          entries.Run 1 (places.Member K a) ∷
          entries.Did (acts.Own a []) ∷
          entries.Run 1 (places.Member K a) ∷
          entries.Did (acts.Own a []) ∷
          entries.Run 1 (places.Member K a) ∷
          entries.Did (acts.Own a []) ∷
          entries.Run 1 (places.Member K a) ∷
          entries.Did (acts.Own a []) ∷
          entries.Run 1 (places.Member K a) ∷
          entries.Did (acts.Own a []) ∷
          entries.Run 1 (places.Member K a) ∷
          entries.Did (acts.Own a []) ∷
          entries.Run 1 (places.Member K a) ∷
          entries.Did (acts.Own a []) ∷
          entries.Run 1 (places.Member K a) ∷
          entries.Did (acts.Own a []) ∷
          entries.Run 1 (places.Member K a) ∷
          entries.Did (acts.Own a []) ∷
          [];
      reply = replies.Halted causes.Depth;
    }) ∷
    (record { entries = []; reply = replies.Refused refusals.Halted }) ∷ []

-- a self call goes one level deeper
abbrev pub self_call_is_cut_at_the_last_level : Type 0
self_call_is_cut_at_the_last_level =
    Shows deployment first_chosen 100000 32
    self_call_is_cut_at_the_last_level_commands
    self_call_is_cut_at_the_last_level_said
