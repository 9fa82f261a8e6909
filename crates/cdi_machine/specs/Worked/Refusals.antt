-- Commands that are refused.
use Rattle.std.specs.Prelude.{ℕ, pos, List, [], ◌∷◌, Some, None, codes}
use Rattle.cdi_base.specs.declared.value.Value.TheVariants as values
use Rattle.cdi_base.specs.declared.scope.Scope.TheVariants as scopes
use Rattle.cdi_base.specs.declared.reply.Reply.TheVariants as replies
use Rattle.cdi_base.specs.declared.reply.Refusal.TheVariants as refusals
use Rattle.cdi_base.specs.declared.built_in.BuiltIn.TheVariants as built_in
use Rattle.cdi_machine.specs.Words.{Name}
use Rattle.cdi_machine.specs.Tables.{Step, One}
use Rattle.cdi_machine.specs.Commands.{Command}
use Rattle.cdi_machine.specs.Container.{Said}
use Rattle.cdi_machine.specs.Scripts.{Plain, TheField, Add, set, give}
use Rattle.cdi_machine.specs.Deployments.{Deployment, of_type, no_chain, managed_bean, of_context, of_container, first_chosen, Shows, method}

abbrev Z : Name
Z = 20

abbrev up : Name
up = 21

abbrev K : Name
K = 22

abbrev x : Name
x = 23

abbrev r : List ℕ
r = codes "r"

abbrev n : Name
n = 25

abbrev body_up : ℕ
body_up = 0

abbrev pub deployment : Deployment
deployment =
    record {
      beans =
          managed_bean K scopes.ApplicationScoped (record {
            fields = (n, values.Int (pos 0)) ∷ [];
            plan = Step.Construct [] no_chain ∷ Step.Complete no_chain ∷ [];
            methods = (up, method K up body_up 0 []) ∷ [];
            pre_destroy = no_chain;
          }) ∷
          [];
      interceptors = [];
      types = (K, One 0) ∷ [];
      written = [];
      observed = [];
      events = [];
      scripts =
          (set n (Add (TheField n) (Plain (values.Int (pos 1)))) ∷ give (TheField n) ∷ [], []) ∷ [];
      checked = [];
      texts = [];
    }

abbrev pub refused_by_name_method_and_count_commands : List Command
refused_by_name_method_and_count_commands =
    Command.Boot ∷
    Command.Call None (of_type Z) up [] ∷
    Command.Call None (of_type K) x [] ∷
    Command.Call None (of_type K) up (values.Int (pos 1) ∷ []) ∷
    Command.Read None (of_type K) ∷
    Command.Call (Some r) (of_type Z) up [] ∷
    []

abbrev pub refused_by_name_method_and_count_said : List Said
refused_by_name_method_and_count_said =
    (record {
      entries =
          of_context built_in.Initialized (codes "ApplicationScoped") ∷
          of_container built_in.Startup ∷
          [];
      reply = replies.Done;
    }) ∷
    (record { entries = []; reply = replies.Refused refusals.UnknownName }) ∷
    (record { entries = []; reply = replies.Refused refusals.NoMethod }) ∷
    (record { entries = []; reply = replies.Refused refusals.WrongCount }) ∷
    (record { entries = []; reply = replies.Refused refusals.NoMethod }) ∷
    (record { entries = []; reply = replies.Refused refusals.NoRequest }) ∷ []

-- names first, then methods, then the number of values
abbrev pub refused_by_name_method_and_count : Type 0
refused_by_name_method_and_count =
    Shows deployment first_chosen 100000 32
    refused_by_name_method_and_count_commands
    refused_by_name_method_and_count_said
