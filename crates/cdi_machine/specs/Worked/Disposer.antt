-- A producer and a disposer of a dependent bean.
use Rattle.std.specs.Prelude.{ℕ, pos, List, [], ◌∷◌, None, codes}
use Rattle.cdi_base.specs.declared.value.Value.TheVariants as values
use Rattle.cdi_base.specs.declared.act.Act.TheVariants as acts
use Rattle.cdi_base.specs.declared.entry.Entry.TheVariants as entries
use Rattle.cdi_base.specs.declared.place.Place.TheVariants as places
use Rattle.cdi_base.specs.declared.scope.Scope.TheVariants as scopes
use Rattle.cdi_base.specs.declared.reply.Reply.TheVariants as replies
use Rattle.cdi_base.specs.declared.built_in.BuiltIn.TheVariants as built_in
use Rattle.cdi_machine.specs.Words.{Name}
use Rattle.cdi_machine.specs.Tables.{Step, Source, One}
use Rattle.cdi_machine.specs.Commands.{Command}
use Rattle.cdi_machine.specs.Container.{Said}
use Rattle.cdi_machine.specs.Scripts.{Plain, give}
use Rattle.cdi_machine.specs.Deployments.{Deployment, of_type, no_chain, managed_bean, product_bean, of_context, of_container, first_chosen, Shows, method, member}

abbrev B : Name
B = 20

abbrev m : Name
m = 21

abbrev M : Name
M = 22

abbrev mk : Name
mk = 23

abbrev del : Name
del = 24

abbrev t : Name
t = 25

abbrev T : Name
T = 26

abbrev body_mk : ℕ
body_mk = 0

abbrev body_nop : ℕ
body_nop = 1

abbrev pub deployment : Deployment
deployment =
    record {
      beans =
          managed_bean M scopes.Dependent (record {
            fields = [];
            plan = Step.Construct [] no_chain ∷ Step.Complete no_chain ∷ [];
            methods = [];
            pre_destroy = no_chain;
          }) ∷
          product_bean M mk scopes.Dependent (record {
            declaring = 0;
            source = Source.ProducerMethod (member M mk body_mk [] []);
            disposers = member M del body_nop [] [] ∷ [];
          }) ∷
          managed_bean B scopes.ApplicationScoped (record {
            fields = [];
            plan =
                Step.Construct [] no_chain ∷
                Step.Inject t (of_type T) ∷
                Step.Complete no_chain ∷
                [];
            methods = (m, method B m body_nop 0 []) ∷ [];
            pre_destroy = no_chain;
          }) ∷
          [];
      interceptors = [];
      types = (B, One 2) ∷ (T, One 1) ∷ [];
      written = [];
      observed = [];
      events = [];
      scripts = (give (Plain (values.Int (pos 4))) ∷ [], []) ∷ ([], []) ∷ [];
      checked = [];
      texts = [];
    }

abbrev pub products_have_receivers_of_their_own_commands : List Command
products_have_receivers_of_their_own_commands =
    Command.Boot ∷ Command.Call None (of_type B) m [] ∷ Command.Shutdown ∷ []

abbrev pub products_have_receivers_of_their_own_said : List Said
products_have_receivers_of_their_own_said =
    (record {
      entries =
          of_context built_in.Initialized (codes "ApplicationScoped") ∷
          of_container built_in.Startup ∷
          [];
      reply = replies.Done;
    }) ∷
    (record {
      entries =
          entries.New 1 (places.Class B) ∷
          entries.New 2 (places.Member M mk) ∷
          entries.New 3 (places.Class M) ∷
          entries.Ready 3 ∷
          entries.Run 3 (places.Member M mk) ∷
          entries.Did (acts.Give (values.Int (pos 4))) ∷
          entries.End 3 ∷
          entries.Gone 3 ∷
          entries.Ready 2 ∷
          entries.Ready 1 ∷
          entries.Run 1 (places.Member B m) ∷
          entries.Did (acts.Give values.Null) ∷
          [];
      reply = replies.Value values.Null;
    }) ∷
    (record {
      entries =
          of_container built_in.Shutdown ∷
          of_context built_in.BeforeDestroyed (codes "ApplicationScoped") ∷
          entries.End 1 ∷
          entries.End 2 ∷
          entries.New 4 (places.Class M) ∷
          entries.Ready 4 ∷
          entries.Run 4 (places.Member M del) ∷
          entries.Did (acts.Give values.Null) ∷
          entries.End 4 ∷
          entries.Gone 4 ∷
          entries.Gone 2 ∷
          entries.Gone 1 ∷
          of_context built_in.Destroyed (codes "ApplicationScoped") ∷
          [];
      reply = replies.Done;
    }) ∷
    []

-- the receiver of a producer and of a disposer is a temporary
abbrev pub products_have_receivers_of_their_own : Type 0
products_have_receivers_of_their_own =
    Shows deployment first_chosen 100000 32
    products_have_receivers_of_their_own_commands
    products_have_receivers_of_their_own_said
