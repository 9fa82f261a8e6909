-- A producer of a product with a normal scope gives null.
use Rattle.std.specs.Prelude.{ℕ, List, [], ◌∷◌, None, codes}
use Rattle.cdi_base.specs.declared.value.Value.TheVariants as values
use Rattle.cdi_base.specs.declared.act.Act.TheVariants as acts
use Rattle.cdi_base.specs.declared.entry.Entry.TheVariants as entries
use Rattle.cdi_base.specs.declared.place.Place.TheVariants as places
use Rattle.cdi_base.specs.declared.scope.Scope.TheVariants as scopes
use Rattle.cdi_base.specs.declared.reply.Reply.TheVariants as replies
use Rattle.cdi_base.specs.declared.built_in.BuiltIn.TheVariants as built_in
use Rattle.cdi_base.specs.BuiltIn.{number_of}
use Rattle.cdi_machine.specs.Words.{Name}
use Rattle.cdi_machine.specs.Tables.{Step, Source, One}
use Rattle.cdi_machine.specs.Commands.{Command}
use Rattle.cdi_machine.specs.Container.{Said}
use Rattle.cdi_machine.specs.Deployments.{Deployment, of_type, no_chain, managed_bean, product_bean, of_context, of_container, first_chosen, Shows, member}

abbrev T : Name
T = 20

abbrev M : Name
M = 21

abbrev mk : Name
mk = 22

abbrev body_nop : ℕ
body_nop = 0

abbrev pub deployment : Deployment
deployment =
    record {
      beans =
          managed_bean M scopes.ApplicationScoped (record {
            fields = [];
            plan = Step.Construct [] no_chain ∷ Step.Complete no_chain ∷ [];
            methods = [];
            pre_destroy = no_chain;
          }) ∷
          product_bean M mk scopes.ApplicationScoped (record {
            declaring = 0;
            source = Source.ProducerMethod (member M mk body_nop [] []);
            disposers = [];
          }) ∷
          [];
      interceptors = [];
      types = (T, One 1) ∷ [];
      written = [];
      observed = [];
      events = [];
      scripts = ([], []) ∷ [];
      checked = [];
      texts = [];
    }

abbrev pub null_product_of_a_normal_scope_commands : List Command
null_product_of_a_normal_scope_commands = Command.Boot ∷ Command.Read None (of_type T) ∷ []

abbrev pub null_product_of_a_normal_scope_said : List Said
null_product_of_a_normal_scope_said =
    (record {
      entries =
          of_context built_in.Initialized (codes "ApplicationScoped") ∷
          of_container built_in.Startup ∷
          [];
      reply = replies.Done;
    }) ∷
    (record {
      entries =
          entries.New 1 (places.Member M mk) ∷
          entries.New 2 (places.Class M) ∷
          entries.Ready 2 ∷
          entries.Run 2 (places.Member M mk) ∷
          entries.Did (acts.Give values.Null) ∷
          entries.Drop 1 ∷
          [];
      reply = replies.Threw (number_of built_in.IllegalProductException);
    }) ∷
    []

-- a product of a normal scope is never null
abbrev pub null_product_of_a_normal_scope : Type 0
null_product_of_a_normal_scope =
    Shows deployment first_chosen 100000 32
    null_product_of_a_normal_scope_commands
    null_product_of_a_normal_scope_said
