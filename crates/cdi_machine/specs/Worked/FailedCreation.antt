-- A post-construct callback that throws, of a class with a pre-destroy callback.
use Rattle.std.specs.Prelude.{ℕ, List, [], ◌∷◌, None, codes}
use Rattle.cdi_base.specs.declared.act.Act.TheVariants as acts
use Rattle.cdi_base.specs.declared.entry.Entry.TheVariants as entries
use Rattle.cdi_base.specs.declared.place.Place.TheVariants as places
use Rattle.cdi_base.specs.declared.scope.Scope.TheVariants as scopes
use Rattle.cdi_base.specs.declared.reply.Reply.TheVariants as replies
use Rattle.cdi_base.specs.declared.built_in.BuiltIn.TheVariants as built_in
use Rattle.cdi_machine.specs.Words.{Name}
use Rattle.cdi_machine.specs.Tables.{Step, One}
use Rattle.cdi_machine.specs.Commands.{Command}
use Rattle.cdi_machine.specs.Container.{Said}
use Rattle.cdi_machine.specs.Scripts.{throw}
use Rattle.cdi_machine.specs.Deployments.{Deployment, of_type, no_chain, managed_bean, of_context, of_container, first_chosen, last_chosen, Shows, code, method}

abbrev A : Name
A = 20

abbrev m : Name
m = 21

abbrev D : Name
D = 22

abbrev p : Name
p = 23

abbrev Oops : Name
Oops = 24

abbrev d1 : Name
d1 = 25

abbrev d2 : Name
d2 = 26

abbrev bye : Name
bye = 27

abbrev body_p : ℕ
body_p = 0

abbrev body_nop : ℕ
body_nop = 1

abbrev pub deployment : Deployment
deployment =
    record {
      beans =
          managed_bean A scopes.ApplicationScoped (record {
            fields = [];
            plan =
                Step.Construct [] no_chain ∷
                Step.Inject d1 (of_type D) ∷
                Step.Inject d2 (of_type D) ∷
                Step.Complete (record { chain = []; callbacks = code A p body_p ∷ [] }) ∷
                [];
            methods = (m, method A m body_nop 0 []) ∷ [];
            pre_destroy = record { chain = []; callbacks = code A bye body_nop ∷ [] };
          }) ∷
          managed_bean D scopes.Dependent (record {
            fields = [];
            plan = Step.Construct [] no_chain ∷ Step.Complete no_chain ∷ [];
            methods = [];
            pre_destroy = no_chain;
          }) ∷
          [];
      interceptors = [];
      types = (A, One 0) ∷ (D, One 1) ∷ [];
      written = [];
      observed = [];
      events = [];
      scripts = (throw Oops ∷ [], []) ∷ ([], []) ∷ [];
      checked = [];
      texts = [];
    }

abbrev pub failed_creation_releases_in_the_first_order_commands : List Command
failed_creation_releases_in_the_first_order_commands =
    Command.Boot ∷ Command.Call None (of_type A) m [] ∷ Command.Call None (of_type A) m [] ∷ []

abbrev pub failed_creation_releases_in_the_first_order_said : List Said
failed_creation_releases_in_the_first_order_said =
    (record {
      entries =
          of_context built_in.Initialized (codes "ApplicationScoped") ∷
          of_container built_in.Startup ∷
          [];
      reply = replies.Done;
    }) ∷
    (record {
      entries =
          entries.New 1 (places.Class A) ∷
          entries.New 2 (places.Class D) ∷
          entries.Ready 2 ∷
          entries.New 3 (places.Class D) ∷
          entries.Ready 3 ∷
          entries.Run 1 (places.Member A p) ∷
          entries.Did (acts.Throw Oops) ∷
          entries.Pick 2 0 ∷
          entries.End 2 ∷
          entries.Gone 2 ∷
          entries.End 3 ∷
          entries.Gone 3 ∷
          entries.Drop 1 ∷
          [];
      reply = replies.Threw Oops;
    }) ∷
    (record {
      entries =
          entries.New 4 (places.Class A) ∷
          entries.New 5 (places.Class D) ∷
          entries.Ready 5 ∷
          entries.New 6 (places.Class D) ∷
          entries.Ready 6 ∷
          entries.Run 4 (places.Member A p) ∷
          entries.Did (acts.Throw Oops) ∷
          entries.Pick 2 0 ∷
          entries.End 5 ∷
          entries.Gone 5 ∷
          entries.End 6 ∷
          entries.Gone 6 ∷
          entries.Drop 4 ∷
          [];
      reply = replies.Threw Oops;
    }) ∷
    []

-- the dependents are destroyed, and no pre-destroy runs
abbrev pub failed_creation_releases_in_the_first_order : Type 0
failed_creation_releases_in_the_first_order =
    Shows deployment first_chosen 100000 32
    failed_creation_releases_in_the_first_order_commands
    failed_creation_releases_in_the_first_order_said

abbrev pub failed_creation_releases_in_the_last_order_commands : List Command
failed_creation_releases_in_the_last_order_commands =
    Command.Boot ∷ Command.Call None (of_type A) m [] ∷ Command.Call None (of_type A) m [] ∷ []

abbrev pub failed_creation_releases_in_the_last_order_said : List Said
failed_creation_releases_in_the_last_order_said =
    (record {
      entries =
          of_context built_in.Initialized (codes "ApplicationScoped") ∷
          of_container built_in.Startup ∷
          [];
      reply = replies.Done;
    }) ∷
    (record {
      entries =
          entries.New 1 (places.Class A) ∷
          entries.New 2 (places.Class D) ∷
          entries.Ready 2 ∷
          entries.New 3 (places.Class D) ∷
          entries.Ready 3 ∷
          entries.Run 1 (places.Member A p) ∷
          entries.Did (acts.Throw Oops) ∷
          entries.Pick 2 1 ∷
          entries.End 3 ∷
          entries.Gone 3 ∷
          entries.End 2 ∷
          entries.Gone 2 ∷
          entries.Drop 1 ∷
          [];
      reply = replies.Threw Oops;
    }) ∷
    (record {
      entries =
          entries.New 4 (places.Class A) ∷
          entries.New 5 (places.Class D) ∷
          entries.Ready 5 ∷
          entries.New 6 (places.Class D) ∷
          entries.Ready 6 ∷
          entries.Run 4 (places.Member A p) ∷
          entries.Did (acts.Throw Oops) ∷
          entries.Pick 2 1 ∷
          entries.End 6 ∷
          entries.Gone 6 ∷
          entries.End 5 ∷
          entries.Gone 5 ∷
          entries.Drop 4 ∷
          [];
      reply = replies.Threw Oops;
    }) ∷
    []

-- the same with the last candidate picked
abbrev pub failed_creation_releases_in_the_last_order : Type 0
failed_creation_releases_in_the_last_order =
    Shows deployment last_chosen 100000 32
    failed_creation_releases_in_the_last_order_commands
    failed_creation_releases_in_the_last_order_said
