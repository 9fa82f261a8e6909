-- A bean that counts its calls.
use Rattle.std.specs.Prelude.{ℕ, pos, List, [], ◌∷◌, None, codes}
use Rattle.cdi_base.specs.declared.value.Value.TheVariants as values
use Rattle.cdi_base.specs.declared.act.Act.TheVariants as acts
use Rattle.cdi_base.specs.declared.entry.Entry.TheVariants as entries
use Rattle.cdi_base.specs.declared.place.Place.TheVariants as places
use Rattle.cdi_base.specs.declared.scope.Scope.TheVariants as scopes
use Rattle.cdi_base.specs.declared.reply.Cause.TheVariants as causes
use Rattle.cdi_base.specs.declared.reply.Reply.TheVariants as replies
use Rattle.cdi_base.specs.declared.reply.Refusal.TheVariants as refusals
use Rattle.cdi_base.specs.declared.built_in.BuiltIn.TheVariants as built_in
use Rattle.cdi_machine.specs.Words.{Name}
use Rattle.cdi_machine.specs.Tables.{Step, One}
use Rattle.cdi_machine.specs.Commands.{Command}
use Rattle.cdi_machine.specs.Container.{Said}
use Rattle.cdi_machine.specs.Scripts.{Plain, TheField, Add, set, give}
use Rattle.cdi_machine.specs.Deployments.{Deployment, of_type, no_chain, managed_bean, of_context, of_container, first_chosen, Shows, method}

abbrev K : Name
K = 20

abbrev up : Name
up = 21

abbrev n : Name
n = 22

abbrev body_up : ℕ
body_up = 0

abbrev pub deployment : Deployment
deployment =
    record {
      beans =
          managed_bean K scopes.ApplicationScoped (record {
            fields = (n, values.Int (pos 0)) ∷ [];
            plan = Step.Construct [] no_chain ∷ Step.Complete no_chain ∷ [];
            methods = (up, method K up body_up 0 []) ∷ [];
            pre_destroy = no_chain;
          }) ∷
          [];
      interceptors = [];
      types = (K, One 0) ∷ [];
      written = [];
      observed = [];
      events = [];
      scripts =
          (set n (Add (TheField n) (Plain (values.Int (pos 1)))) ∷ give (TheField n) ∷ [], []) ∷ [];
      checked = [];
      texts = [];
    }

abbrev pub counts_its_calls_commands : List Command
counts_its_calls_commands =
    Command.Boot ∷ Command.Call None (of_type K) up [] ∷ Command.Call None (of_type K) up [] ∷ []

abbrev pub counts_its_calls_said : List Said
counts_its_calls_said =
    (record {
      entries =
          of_context built_in.Initialized (codes "ApplicationScoped") ∷
          of_container built_in.Startup ∷
          [];
      reply = replies.Done;
    }) ∷
    (record {
      entries =
          entries.New 1 (places.Class K) ∷
          entries.Ready 1 ∷
          entries.Run 1 (places.Member K up) ∷
          entries.Did (acts.Set n (values.Int (pos 1))) ∷
          entries.Did (acts.Give (values.Int (pos 1))) ∷
          [];
      reply = replies.Value (values.Int (pos 1));
    }) ∷
    (record {
      entries =
          entries.Run 1 (places.Member K up) ∷
          entries.Did (acts.Set n (values.Int (pos 2))) ∷
          entries.Did (acts.Give (values.Int (pos 2))) ∷
          [];
      reply = replies.Value (values.Int (pos 2));
    }) ∷
    []

-- the second call reaches the same instance
abbrev pub counts_its_calls : Type 0
counts_its_calls =
    Shows deployment first_chosen 100000 32 counts_its_calls_commands counts_its_calls_said

abbrev pub last_entry_uses_the_budget_up_commands : List Command
last_entry_uses_the_budget_up_commands = Command.Boot ∷ Command.Call None (of_type K) up [] ∷ []

abbrev pub last_entry_uses_the_budget_up_said : List Said
last_entry_uses_the_budget_up_said =
    (record {
      entries =
          of_context built_in.Initialized (codes "ApplicationScoped") ∷
          of_container built_in.Startup ∷
          [];
      reply = replies.Done;
    }) ∷
    (record {
      entries =
          entries.New 1 (places.Class K) ∷
          entries.Ready 1 ∷
          entries.Run 1 (places.Member K up) ∷
          entries.Did (acts.Set n (values.Int (pos 1))) ∷
          entries.Did (acts.Give (values.Int (pos 1))) ∷
          [];
      reply = replies.Value (values.Int (pos 1));
    }) ∷
    []

-- a command whose last entry uses the budget up is not cut
abbrev pub last_entry_uses_the_budget_up : Type 0
last_entry_uses_the_budget_up =
    Shows deployment first_chosen 5 32
    last_entry_uses_the_budget_up_commands
    last_entry_uses_the_budget_up_said

abbrev pub cut_where_an_entry_is_due_commands : List Command
cut_where_an_entry_is_due_commands =
    Command.Boot ∷ Command.Call None (of_type K) up [] ∷ Command.Call None (of_type K) up [] ∷ []

abbrev pub cut_where_an_entry_is_due_said : List Said
cut_where_an_entry_is_due_said =
    (record {
      entries =
          of_context built_in.Initialized (codes "ApplicationScoped") ∷
          of_container built_in.Startup ∷
          [];
      reply = replies.Done;
    }) ∷
    (record {
      entries =
          entries.New 1 (places.Class K) ∷
          entries.Ready 1 ∷
          entries.Run 1 (places.Member K up) ∷
          entries.Did (acts.Set n (values.Int (pos 1))) ∷
          [];
      reply = replies.Halted causes.Ticks;
    }) ∷
    (record { entries = []; reply = replies.Refused refusals.Halted }) ∷ []

-- where the budget is spent and an entry is due, the command is cut and the container halts
abbrev pub cut_where_an_entry_is_due : Type 0
cut_where_an_entry_is_due =
    Shows deployment first_chosen 4 32
    cut_where_an_entry_is_due_commands
    cut_where_an_entry_is_due_said
