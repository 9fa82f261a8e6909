-- A bean with two dependents of one bean.
use Rattle.std.specs.Prelude.{ℕ, List, [], ◌∷◌, None, codes}
use Rattle.cdi_base.specs.declared.value.Value.TheVariants as values
use Rattle.cdi_base.specs.declared.act.Act.TheVariants as acts
use Rattle.cdi_base.specs.declared.entry.Entry.TheVariants as entries
use Rattle.cdi_base.specs.declared.place.Place.TheVariants as places
use Rattle.cdi_base.specs.declared.scope.Scope.TheVariants as scopes
use Rattle.cdi_base.specs.declared.reply.Reply.TheVariants as replies
use Rattle.cdi_base.specs.declared.built_in.BuiltIn.TheVariants as built_in
use Rattle.cdi_machine.specs.Words.{Name}
use Rattle.cdi_machine.specs.Tables.{Step, One}
use Rattle.cdi_machine.specs.Commands.{Command}
use Rattle.cdi_machine.specs.Container.{Said}
use Rattle.cdi_machine.specs.Deployments.{Deployment, of_type, no_chain, managed_bean, of_context, of_container, first_chosen, Shows, method}

abbrev B : Name
B = 20

abbrev m : Name
m = 21

abbrev D : Name
D = 22

abbrev d1 : Name
d1 = 23

abbrev d2 : Name
d2 = 24

abbrev body_nop : ℕ
body_nop = 0

abbrev pub deployment : Deployment
deployment =
    record {
      beans =
          managed_bean D scopes.Dependent (record {
            fields = [];
            plan = Step.Construct [] no_chain ∷ Step.Complete no_chain ∷ [];
            methods = [];
            pre_destroy = no_chain;
          }) ∷
          managed_bean B scopes.ApplicationScoped (record {
            fields = [];
            plan =
                Step.Construct [] no_chain ∷
                Step.Inject d1 (of_type D) ∷
                Step.Inject d2 (of_type D) ∷
                Step.Complete no_chain ∷
                [];
            methods = (m, method B m body_nop 0 []) ∷ [];
            pre_destroy = no_chain;
          }) ∷
          [];
      interceptors = [];
      types = (B, One 1) ∷ (D, One 0) ∷ [];
      written = [];
      observed = [];
      events = [];
      scripts = ([], []) ∷ [];
      checked = [];
      texts = [];
    }

abbrev pub each_point_gets_its_own_dependent_commands : List Command
each_point_gets_its_own_dependent_commands =
    Command.Boot ∷ Command.Call None (of_type B) m [] ∷ Command.Live ∷ Command.Shutdown ∷ []

abbrev pub each_point_gets_its_own_dependent_said : List Said
each_point_gets_its_own_dependent_said =
    (record {
      entries =
          of_context built_in.Initialized (codes "ApplicationScoped") ∷
          of_container built_in.Startup ∷
          [];
      reply = replies.Done;
    }) ∷
    (record {
      entries =
          entries.New 1 (places.Class B) ∷
          entries.New 2 (places.Class D) ∷
          entries.Ready 2 ∷
          entries.New 3 (places.Class D) ∷
          entries.Ready 3 ∷
          entries.Ready 1 ∷
          entries.Run 1 (places.Member B m) ∷
          entries.Did (acts.Give values.Null) ∷
          [];
      reply = replies.Value values.Null;
    }) ∷
    (record { entries = []; reply = replies.Live (1 ∷ 2 ∷ 3 ∷ []) }) ∷
    (record {
      entries =
          of_container built_in.Shutdown ∷
          of_context built_in.BeforeDestroyed (codes "ApplicationScoped") ∷
          entries.End 1 ∷
          entries.Pick 2 0 ∷
          entries.End 2 ∷
          entries.Gone 2 ∷
          entries.End 3 ∷
          entries.Gone 3 ∷
          entries.Gone 1 ∷
          of_context built_in.Destroyed (codes "ApplicationScoped") ∷
          [];
      reply = replies.Done;
    }) ∷
    []

-- each point gets an instance of its own, and they are destroyed one at a time
abbrev pub each_point_gets_its_own_dependent : Type 0
each_point_gets_its_own_dependent =
    Shows deployment first_chosen 100000 32
    each_point_gets_its_own_dependent_commands
    each_point_gets_its_own_dependent_said
