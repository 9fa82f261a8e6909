-- A failed creation within each budget of entries.
use Rattle.std.specs.Prelude.{ℕ, List, [], ◌∷◌, None, codes}
use Rattle.cdi_base.specs.declared.act.Act.TheVariants as acts
use Rattle.cdi_base.specs.declared.entry.Entry.TheVariants as entries
use Rattle.cdi_base.specs.declared.place.Place.TheVariants as places
use Rattle.cdi_base.specs.declared.scope.Scope.TheVariants as scopes
use Rattle.cdi_base.specs.declared.reply.Cause.TheVariants as causes
use Rattle.cdi_base.specs.declared.reply.Reply.TheVariants as replies
use Rattle.cdi_base.specs.declared.reply.Refusal.TheVariants as refusals
use Rattle.cdi_base.specs.declared.built_in.BuiltIn.TheVariants as built_in
use Rattle.cdi_machine.specs.Words.{Name}
use Rattle.cdi_machine.specs.Tables.{Step, One}
use Rattle.cdi_machine.specs.Commands.{Command}
use Rattle.cdi_machine.specs.Container.{Said}
use Rattle.cdi_machine.specs.Scripts.{throw}
use Rattle.cdi_machine.specs.Deployments.{Deployment, of_type, no_chain, managed_bean, of_context, of_container, first_chosen, Shows, code, method}

abbrev A : Name
A = 20

abbrev m : Name
m = 21

abbrev D : Name
D = 22

abbrev p : Name
p = 23

abbrev Oops : Name
Oops = 24

abbrev d1 : Name
d1 = 25

abbrev d2 : Name
d2 = 26

abbrev body_p : ℕ
body_p = 0

abbrev body_nop : ℕ
body_nop = 1

abbrev pub deployment : Deployment
deployment =
    record {
      beans =
          managed_bean A scopes.ApplicationScoped (record {
            fields = [];
            plan =
                Step.Construct [] no_chain ∷
                Step.Inject d1 (of_type D) ∷
                Step.Inject d2 (of_type D) ∷
                Step.Complete (record { chain = []; callbacks = code A p body_p ∷ [] }) ∷
                [];
            methods = (m, method A m body_nop 0 []) ∷ [];
            pre_destroy = no_chain;
          }) ∷
          managed_bean D scopes.Dependent (record {
            fields = [];
            plan = Step.Construct [] no_chain ∷ Step.Complete no_chain ∷ [];
            methods = [];
            pre_destroy = no_chain;
          }) ∷
          [];
      interceptors = [];
      types = (A, One 0) ∷ (D, One 1) ∷ [];
      written = [];
      observed = [];
      events = [];
      scripts = (throw Oops ∷ [], []) ∷ ([], []) ∷ [];
      checked = [];
      texts = [];
    }

abbrev pub cut_behind_entry_2_commands : List Command
cut_behind_entry_2_commands = Command.Boot ∷ Command.Call None (of_type A) m [] ∷ []

abbrev pub cut_behind_entry_2_said : List Said
cut_behind_entry_2_said =
    (record {
      entries =
          of_context built_in.Initialized (codes "ApplicationScoped") ∷
          of_container built_in.Startup ∷
          [];
      reply = replies.Done;
    }) ∷
    (record {
      entries = entries.New 1 (places.Class A) ∷ entries.New 2 (places.Class D) ∷ [];
      reply = replies.Halted causes.Ticks;
    }) ∷
    []

-- the entries so far, and the container halts
abbrev pub cut_behind_entry_2 : Type 0
cut_behind_entry_2 =
    Shows deployment first_chosen 2 32 cut_behind_entry_2_commands cut_behind_entry_2_said

abbrev pub cut_behind_entry_3_commands : List Command
cut_behind_entry_3_commands = Command.Boot ∷ Command.Call None (of_type A) m [] ∷ []

abbrev pub cut_behind_entry_3_said : List Said
cut_behind_entry_3_said =
    (record {
      entries =
          of_context built_in.Initialized (codes "ApplicationScoped") ∷
          of_container built_in.Startup ∷
          [];
      reply = replies.Done;
    }) ∷
    (record {
      entries =
          entries.New 1 (places.Class A) ∷ entries.New 2 (places.Class D) ∷ entries.Ready 2 ∷ [];
      reply = replies.Halted causes.Ticks;
    }) ∷
    []

-- the entries so far, and the container halts
abbrev pub cut_behind_entry_3 : Type 0
cut_behind_entry_3 =
    Shows deployment first_chosen 3 32 cut_behind_entry_3_commands cut_behind_entry_3_said

abbrev pub cut_behind_entry_4_commands : List Command
cut_behind_entry_4_commands = Command.Boot ∷ Command.Call None (of_type A) m [] ∷ []

abbrev pub cut_behind_entry_4_said : List Said
cut_behind_entry_4_said =
    (record {
      entries =
          of_context built_in.Initialized (codes "ApplicationScoped") ∷
          of_container built_in.Startup ∷
          [];
      reply = replies.Done;
    }) ∷
    (record {
      entries =
          entries.New 1 (places.Class A) ∷
          entries.New 2 (places.Class D) ∷
          entries.Ready 2 ∷
          entries.New 3 (places.Class D) ∷
          [];
      reply = replies.Halted causes.Ticks;
    }) ∷
    []

-- the entries so far, and the container halts
abbrev pub cut_behind_entry_4 : Type 0
cut_behind_entry_4 =
    Shows deployment first_chosen 4 32 cut_behind_entry_4_commands cut_behind_entry_4_said

abbrev pub cut_behind_entry_5_commands : List Command
cut_behind_entry_5_commands = Command.Boot ∷ Command.Call None (of_type A) m [] ∷ []

abbrev pub cut_behind_entry_5_said : List Said
cut_behind_entry_5_said =
    (record {
      entries =
          of_context built_in.Initialized (codes "ApplicationScoped") ∷
          of_container built_in.Startup ∷
          [];
      reply = replies.Done;
    }) ∷
    (record {
      entries =
          entries.New 1 (places.Class A) ∷
          entries.New 2 (places.Class D) ∷
          entries.Ready 2 ∷
          entries.New 3 (places.Class D) ∷
          entries.Ready 3 ∷
          [];
      reply = replies.Halted causes.Ticks;
    }) ∷
    []

-- the entries so far, and the container halts
abbrev pub cut_behind_entry_5 : Type 0
cut_behind_entry_5 =
    Shows deployment first_chosen 5 32 cut_behind_entry_5_commands cut_behind_entry_5_said

abbrev pub cut_behind_entry_6_commands : List Command
cut_behind_entry_6_commands = Command.Boot ∷ Command.Call None (of_type A) m [] ∷ []

abbrev pub cut_behind_entry_6_said : List Said
cut_behind_entry_6_said =
    (record {
      entries =
          of_context built_in.Initialized (codes "ApplicationScoped") ∷
          of_container built_in.Startup ∷
          [];
      reply = replies.Done;
    }) ∷
    (record {
      entries =
          entries.New 1 (places.Class A) ∷
          entries.New 2 (places.Class D) ∷
          entries.Ready 2 ∷
          entries.New 3 (places.Class D) ∷
          entries.Ready 3 ∷
          entries.Run 1 (places.Member A p) ∷
          [];
      reply = replies.Halted causes.Ticks;
    }) ∷
    []

-- the entries so far, and the container halts
abbrev pub cut_behind_entry_6 : Type 0
cut_behind_entry_6 =
    Shows deployment first_chosen 6 32 cut_behind_entry_6_commands cut_behind_entry_6_said

abbrev pub cut_behind_entry_7_commands : List Command
cut_behind_entry_7_commands = Command.Boot ∷ Command.Call None (of_type A) m [] ∷ []

abbrev pub cut_behind_entry_7_said : List Said
cut_behind_entry_7_said =
    (record {
      entries =
          of_context built_in.Initialized (codes "ApplicationScoped") ∷
          of_container built_in.Startup ∷
          [];
      reply = replies.Done;
    }) ∷
    (record {
      entries =
          entries.New 1 (places.Class A) ∷
          entries.New 2 (places.Class D) ∷
          entries.Ready 2 ∷
          entries.New 3 (places.Class D) ∷
          entries.Ready 3 ∷
          entries.Run 1 (places.Member A p) ∷
          entries.Did (acts.Throw Oops) ∷
          [];
      reply = replies.Halted causes.Ticks;
    }) ∷
    []

-- the entries so far, and the container halts
abbrev pub cut_behind_entry_7 : Type 0
cut_behind_entry_7 =
    Shows deployment first_chosen 7 32 cut_behind_entry_7_commands cut_behind_entry_7_said

abbrev pub cut_behind_entry_8_commands : List Command
cut_behind_entry_8_commands = Command.Boot ∷ Command.Call None (of_type A) m [] ∷ []

abbrev pub cut_behind_entry_8_said : List Said
cut_behind_entry_8_said =
    (record {
      entries =
          of_context built_in.Initialized (codes "ApplicationScoped") ∷
          of_container built_in.Startup ∷
          [];
      reply = replies.Done;
    }) ∷
    (record {
      entries =
          entries.New 1 (places.Class A) ∷
          entries.New 2 (places.Class D) ∷
          entries.Ready 2 ∷
          entries.New 3 (places.Class D) ∷
          entries.Ready 3 ∷
          entries.Run 1 (places.Member A p) ∷
          entries.Did (acts.Throw Oops) ∷
          entries.Pick 2 0 ∷
          [];
      reply = replies.Halted causes.Ticks;
    }) ∷
    []

-- the entries so far, and the container halts
abbrev pub cut_behind_entry_8 : Type 0
cut_behind_entry_8 =
    Shows deployment first_chosen 8 32 cut_behind_entry_8_commands cut_behind_entry_8_said

abbrev pub cut_behind_entry_9_commands : List Command
cut_behind_entry_9_commands = Command.Boot ∷ Command.Call None (of_type A) m [] ∷ []

abbrev pub cut_behind_entry_9_said : List Said
cut_behind_entry_9_said =
    (record {
      entries =
          of_context built_in.Initialized (codes "ApplicationScoped") ∷
          of_container built_in.Startup ∷
          [];
      reply = replies.Done;
    }) ∷
    (record {
      entries =
          entries.New 1 (places.Class A) ∷
          entries.New 2 (places.Class D) ∷
          entries.Ready 2 ∷
          entries.New 3 (places.Class D) ∷
          entries.Ready 3 ∷
          entries.Run 1 (places.Member A p) ∷
          entries.Did (acts.Throw Oops) ∷
          entries.Pick 2 0 ∷
          entries.End 2 ∷
          [];
      reply = replies.Halted causes.Ticks;
    }) ∷
    []

-- the entries so far, and the container halts
abbrev pub cut_behind_entry_9 : Type 0
cut_behind_entry_9 =
    Shows deployment first_chosen 9 32 cut_behind_entry_9_commands cut_behind_entry_9_said

abbrev pub cut_behind_entry_10_commands : List Command
cut_behind_entry_10_commands = Command.Boot ∷ Command.Call None (of_type A) m [] ∷ []

abbrev pub cut_behind_entry_10_said : List Said
cut_behind_entry_10_said =
    (record {
      entries =
          of_context built_in.Initialized (codes "ApplicationScoped") ∷
          of_container built_in.Startup ∷
          [];
      reply = replies.Done;
    }) ∷
    (record {
      entries =
          entries.New 1 (places.Class A) ∷
          entries.New 2 (places.Class D) ∷
          entries.Ready 2 ∷
          entries.New 3 (places.Class D) ∷
          entries.Ready 3 ∷
          entries.Run 1 (places.Member A p) ∷
          entries.Did (acts.Throw Oops) ∷
          entries.Pick 2 0 ∷
          entries.End 2 ∷
          entries.Gone 2 ∷
          [];
      reply = replies.Halted causes.Ticks;
    }) ∷
    []

-- the entries so far, and the container halts
abbrev pub cut_behind_entry_10 : Type 0
cut_behind_entry_10 =
    Shows deployment first_chosen 10 32 cut_behind_entry_10_commands cut_behind_entry_10_said

abbrev pub cut_behind_entry_11_commands : List Command
cut_behind_entry_11_commands = Command.Boot ∷ Command.Call None (of_type A) m [] ∷ []

abbrev pub cut_behind_entry_11_said : List Said
cut_behind_entry_11_said =
    (record {
      entries =
          of_context built_in.Initialized (codes "ApplicationScoped") ∷
          of_container built_in.Startup ∷
          [];
      reply = replies.Done;
    }) ∷
    (record {
      entries =
          entries.New 1 (places.Class A) ∷
          entries.New 2 (places.Class D) ∷
          entries.Ready 2 ∷
          entries.New 3 (places.Class D) ∷
          entries.Ready 3 ∷
          entries.Run 1 (places.Member A p) ∷
          entries.Did (acts.Throw Oops) ∷
          entries.Pick 2 0 ∷
          entries.End 2 ∷
          entries.Gone 2 ∷
          entries.End 3 ∷
          [];
      reply = replies.Halted causes.Ticks;
    }) ∷
    []

-- the entries so far, and the container halts
abbrev pub cut_behind_entry_11 : Type 0
cut_behind_entry_11 =
    Shows deployment first_chosen 11 32 cut_behind_entry_11_commands cut_behind_entry_11_said

abbrev pub cut_behind_entry_12_commands : List Command
cut_behind_entry_12_commands = Command.Boot ∷ Command.Call None (of_type A) m [] ∷ []

abbrev pub cut_behind_entry_12_said : List Said
cut_behind_entry_12_said =
    (record {
      entries =
          of_context built_in.Initialized (codes "ApplicationScoped") ∷
          of_container built_in.Startup ∷
          [];
      reply = replies.Done;
    }) ∷
    (record {
      entries =
          entries.New 1 (places.Class A) ∷
          entries.New 2 (places.Class D) ∷
          entries.Ready 2 ∷
          entries.New 3 (places.Class D) ∷
          entries.Ready 3 ∷
          entries.Run 1 (places.Member A p) ∷
          entries.Did (acts.Throw Oops) ∷
          entries.Pick 2 0 ∷
          entries.End 2 ∷
          entries.Gone 2 ∷
          entries.End 3 ∷
          entries.Gone 3 ∷
          [];
      reply = replies.Halted causes.Ticks;
    }) ∷
    []

-- the entries so far, and the container halts
abbrev pub cut_behind_entry_12 : Type 0
cut_behind_entry_12 =
    Shows deployment first_chosen 12 32 cut_behind_entry_12_commands cut_behind_entry_12_said

abbrev pub budget_that_suffices_commands : List Command
budget_that_suffices_commands = Command.Boot ∷ Command.Call None (of_type A) m [] ∷ []

abbrev pub budget_that_suffices_said : List Said
budget_that_suffices_said =
    (record {
      entries =
          of_context built_in.Initialized (codes "ApplicationScoped") ∷
          of_container built_in.Startup ∷
          [];
      reply = replies.Done;
    }) ∷
    (record {
      entries =
          entries.New 1 (places.Class A) ∷
          entries.New 2 (places.Class D) ∷
          entries.Ready 2 ∷
          entries.New 3 (places.Class D) ∷
          entries.Ready 3 ∷
          entries.Run 1 (places.Member A p) ∷
          entries.Did (acts.Throw Oops) ∷
          entries.Pick 2 0 ∷
          entries.End 2 ∷
          entries.Gone 2 ∷
          entries.End 3 ∷
          entries.Gone 3 ∷
          entries.Drop 1 ∷
          [];
      reply = replies.Threw Oops;
    }) ∷
    []

-- the last entry uses the budget up
abbrev pub budget_that_suffices : Type 0
budget_that_suffices =
    Shows deployment first_chosen 13 32 budget_that_suffices_commands budget_that_suffices_said

abbrev pub boot_is_cut_commands : List Command
boot_is_cut_commands = Command.Boot ∷ Command.Call None (of_type A) m [] ∷ []

abbrev pub boot_is_cut_said : List Said
boot_is_cut_said =
    (record {
      entries = of_context built_in.Initialized (codes "ApplicationScoped") ∷ [];
      reply = replies.Halted causes.Ticks;
    }) ∷
    (record { entries = []; reply = replies.Refused refusals.Halted }) ∷ []

-- the boot has a budget too
abbrev pub boot_is_cut : Type 0
boot_is_cut = Shows deployment first_chosen 1 32 boot_is_cut_commands boot_is_cut_said
