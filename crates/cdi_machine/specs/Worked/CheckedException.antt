-- A constructor that throws a checked exception.
use Rattle.std.specs.Prelude.{ℕ, List, [], ◌∷◌, None, codes}
use Rattle.cdi_base.specs.declared.act.Act.TheVariants as acts
use Rattle.cdi_base.specs.declared.entry.Entry.TheVariants as entries
use Rattle.cdi_base.specs.declared.place.Place.TheVariants as places
use Rattle.cdi_base.specs.declared.scope.Scope.TheVariants as scopes
use Rattle.cdi_base.specs.declared.reply.Reply.TheVariants as replies
use Rattle.cdi_base.specs.declared.built_in.BuiltIn.TheVariants as built_in
use Rattle.cdi_base.specs.BuiltIn.{number_of}
use Rattle.cdi_machine.specs.Words.{Name}
use Rattle.cdi_machine.specs.Tables.{Step, One}
use Rattle.cdi_machine.specs.Commands.{Command}
use Rattle.cdi_machine.specs.Container.{Said}
use Rattle.cdi_machine.specs.Scripts.{throw}
use Rattle.cdi_machine.specs.Deployments.{Deployment, of_type, no_chain, constructor_of, managed_bean, of_context, of_container, first_chosen, Shows, code, method}

abbrev A : Name
A = 20

abbrev m : Name
m = 21

abbrev D : Name
D = 22

abbrev Chk : Name
Chk = 23

abbrev d : Name
d = 24

abbrev i : Name
i = 25

abbrev p : Name
p = 26

abbrev body_chk : ℕ
body_chk = 0

abbrev body_nop : ℕ
body_nop = 1

abbrev pub deployment : Deployment
deployment =
    record {
      beans =
          managed_bean A scopes.ApplicationScoped (record {
            fields = [];
            plan =
                Step.Construct (of_type D ∷ []) (record {
                  chain = [];
                  callbacks = constructor_of A body_chk ∷ [];
                }) ∷
                Step.Inject d (of_type D) ∷
                Step.Initialize (code A i body_nop) (of_type D ∷ []) ∷
                Step.Complete (record { chain = []; callbacks = code A p body_nop ∷ [] }) ∷
                [];
            methods = (m, method A m body_nop 0 []) ∷ [];
            pre_destroy = no_chain;
          }) ∷
          managed_bean D scopes.Dependent (record {
            fields = [];
            plan = Step.Construct [] no_chain ∷ Step.Complete no_chain ∷ [];
            methods = [];
            pre_destroy = no_chain;
          }) ∷
          [];
      interceptors = [];
      types = (A, One 0) ∷ (D, One 1) ∷ [];
      written = [];
      observed = [];
      events = [];
      scripts = (throw Chk ∷ [], []) ∷ ([], []) ∷ [];
      checked = Chk ∷ [];
      texts = [];
    }

abbrev pub checked_exception_becomes_another_commands : List Command
checked_exception_becomes_another_commands = Command.Boot ∷ Command.Call None (of_type A) m [] ∷ []

abbrev pub checked_exception_becomes_another_said : List Said
checked_exception_becomes_another_said =
    (record {
      entries =
          of_context built_in.Initialized (codes "ApplicationScoped") ∷
          of_container built_in.Startup ∷
          [];
      reply = replies.Done;
    }) ∷
    (record {
      entries =
          entries.New 1 (places.Class A) ∷
          entries.New 2 (places.Class D) ∷
          entries.Ready 2 ∷
          entries.Run 1 (places.Constructor A) ∷
          entries.Did (acts.Throw Chk) ∷
          entries.End 2 ∷
          entries.Gone 2 ∷
          entries.Drop 1 ∷
          [];
      reply = replies.Threw (number_of built_in.CreationException);
    }) ∷
    []

-- the dependents so far are destroyed, and the exception becomes a CreationException
abbrev pub checked_exception_becomes_another : Type 0
checked_exception_becomes_another =
    Shows deployment first_chosen 100000 32
    checked_exception_becomes_another_commands
    checked_exception_becomes_another_said
