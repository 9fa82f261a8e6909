-- The steps by which a bean is created.
use Rattle.std.specs.Prelude.{ℕ, List, [], ◌∷◌, None, codes}
use Rattle.cdi_base.specs.declared.value.Value.TheVariants as values
use Rattle.cdi_base.specs.declared.act.Act.TheVariants as acts
use Rattle.cdi_base.specs.declared.entry.Entry.TheVariants as entries
use Rattle.cdi_base.specs.declared.place.Place.TheVariants as places
use Rattle.cdi_base.specs.declared.scope.Scope.TheVariants as scopes
use Rattle.cdi_base.specs.declared.reply.Reply.TheVariants as replies
use Rattle.cdi_base.specs.declared.built_in.BuiltIn.TheVariants as built_in
use Rattle.cdi_machine.specs.Words.{Name}
use Rattle.cdi_machine.specs.Tables.{Step, One}
use Rattle.cdi_machine.specs.Commands.{Command}
use Rattle.cdi_machine.specs.Container.{Said}
use Rattle.cdi_machine.specs.Deployments.{Deployment, of_type, no_chain, constructor_of, managed_bean, of_context, of_container, first_chosen, Shows, code, method}

abbrev A : Name
A = 20

abbrev m : Name
m = 21

abbrev D : Name
D = 22

abbrev i : Name
i = 23

abbrev p : Name
p = 24

abbrev d : Name
d = 25

abbrev Chk : Name
Chk = 26

abbrev body_nop : ℕ
body_nop = 0

abbrev pub deployment : Deployment
deployment =
    record {
      beans =
          managed_bean A scopes.ApplicationScoped (record {
            fields = [];
            plan =
                Step.Construct (of_type D ∷ []) (record {
                  chain = [];
                  callbacks = constructor_of A body_nop ∷ [];
                }) ∷
                Step.Inject d (of_type D) ∷
                Step.Initialize (code A i body_nop) (of_type D ∷ []) ∷
                Step.Complete (record { chain = []; callbacks = code A p body_nop ∷ [] }) ∷
                [];
            methods = (m, method A m body_nop 0 []) ∷ [];
            pre_destroy = no_chain;
          }) ∷
          managed_bean D scopes.Dependent (record {
            fields = [];
            plan = Step.Construct [] no_chain ∷ Step.Complete no_chain ∷ [];
            methods = [];
            pre_destroy = no_chain;
          }) ∷
          [];
      interceptors = [];
      types = (A, One 0) ∷ (D, One 1) ∷ [];
      written = [];
      observed = [];
      events = [];
      scripts = ([], []) ∷ [];
      checked = Chk ∷ [];
      texts = [];
    }

abbrev pub creation_goes_step_by_step_commands : List Command
creation_goes_step_by_step_commands = Command.Boot ∷ Command.Call None (of_type A) m [] ∷ []

abbrev pub creation_goes_step_by_step_said : List Said
creation_goes_step_by_step_said =
    (record {
      entries =
          of_context built_in.Initialized (codes "ApplicationScoped") ∷
          of_container built_in.Startup ∷
          [];
      reply = replies.Done;
    }) ∷
    (record {
      entries =
          entries.New 1 (places.Class A) ∷
          entries.New 2 (places.Class D) ∷
          entries.Ready 2 ∷
          entries.Run 1 (places.Constructor A) ∷
          entries.Did (acts.Give values.Null) ∷
          entries.New 3 (places.Class D) ∷
          entries.Ready 3 ∷
          entries.New 4 (places.Class D) ∷
          entries.Ready 4 ∷
          entries.Run 1 (places.Member A i) ∷
          entries.Did (acts.Give values.Null) ∷
          entries.Run 1 (places.Member A p) ∷
          entries.Did (acts.Give values.Null) ∷
          entries.Ready 1 ∷
          entries.Run 1 (places.Member A m) ∷
          entries.Did (acts.Give values.Null) ∷
          [];
      reply = replies.Value values.Null;
    }) ∷
    []

-- constructor, injected fields, initializers, callbacks
abbrev pub creation_goes_step_by_step : Type 0
creation_goes_step_by_step =
    Shows deployment first_chosen 100000 32
    creation_goes_step_by_step_commands
    creation_goes_step_by_step_said
