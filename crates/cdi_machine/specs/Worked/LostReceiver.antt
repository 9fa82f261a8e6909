-- A disposer whose receiver has no active context.
use Rattle.std.specs.Prelude.{ℕ, pos, List, [], ◌∷◌, Some, None, codes}
use Rattle.cdi_base.specs.declared.value.Value.TheVariants as values
use Rattle.cdi_base.specs.declared.act.Act.TheVariants as acts
use Rattle.cdi_base.specs.declared.entry.Entry.TheVariants as entries
use Rattle.cdi_base.specs.declared.place.Place.TheVariants as places
use Rattle.cdi_base.specs.declared.scope.Scope.TheVariants as scopes
use Rattle.cdi_base.specs.declared.reply.Reply.TheVariants as replies
use Rattle.cdi_base.specs.declared.built_in.BuiltIn.TheVariants as built_in
use Rattle.cdi_machine.specs.Words.{Name}
use Rattle.cdi_machine.specs.Tables.{Step, Source, One}
use Rattle.cdi_machine.specs.Commands.{Command}
use Rattle.cdi_machine.specs.Container.{Said}
use Rattle.cdi_machine.specs.Scripts.{Plain, give}
use Rattle.cdi_machine.specs.Deployments.{Deployment, of_type, no_chain, managed_bean, product_bean, of_context, of_container, first_chosen, Shows, member}

abbrev r : List ℕ
r = codes "r"

abbrev T : Name
T = 21

abbrev M : Name
M = 22

abbrev mk : Name
mk = 23

abbrev del : Name
del = 24

abbrev body_mk : ℕ
body_mk = 0

abbrev body_nop : ℕ
body_nop = 1

abbrev pub deployment : Deployment
deployment =
    record {
      beans =
          managed_bean M scopes.RequestScoped (record {
            fields = [];
            plan = Step.Construct [] no_chain ∷ Step.Complete no_chain ∷ [];
            methods = [];
            pre_destroy = no_chain;
          }) ∷
          product_bean M mk scopes.ApplicationScoped (record {
            declaring = 0;
            source = Source.ProducerMethod (member M mk body_mk [] []);
            disposers = member M del body_nop [] [] ∷ [];
          }) ∷
          [];
      interceptors = [];
      types = (T, One 1) ∷ [];
      written = [];
      observed = [];
      events = [];
      scripts = (give (Plain (values.Int (pos 3))) ∷ [], []) ∷ ([], []) ∷ [];
      checked = [];
      texts = [];
    }

abbrev pub disposer_without_receiver_is_not_run_commands : List Command
disposer_without_receiver_is_not_run_commands =
    Command.Boot ∷
    Command.Begin r None ∷
    Command.Read (Some r) (of_type T) ∷
    Command.End r ∷
    Command.Shutdown ∷
    []

abbrev pub disposer_without_receiver_is_not_run_said : List Said
disposer_without_receiver_is_not_run_said =
    (record {
      entries =
          of_context built_in.Initialized (codes "ApplicationScoped") ∷
          of_container built_in.Startup ∷
          [];
      reply = replies.Done;
    }) ∷
    (record {
      entries = of_context built_in.Initialized (codes "RequestScoped") ∷ [];
      reply = replies.Done;
    }) ∷
    (record {
      entries =
          entries.New 1 (places.Member M mk) ∷
          entries.New 2 (places.Class M) ∷
          entries.Ready 2 ∷
          entries.Run 2 (places.Member M mk) ∷
          entries.Did (acts.Give (values.Int (pos 3))) ∷
          entries.Ready 1 ∷
          [];
      reply = replies.Value (values.Int (pos 3));
    }) ∷
    (record {
      entries =
          of_context built_in.BeforeDestroyed (codes "RequestScoped") ∷
          entries.End 2 ∷
          entries.Gone 2 ∷
          of_context built_in.Destroyed (codes "RequestScoped") ∷
          [];
      reply = replies.Done;
    }) ∷
    (record {
      entries =
          of_container built_in.Shutdown ∷
          of_context built_in.BeforeDestroyed (codes "ApplicationScoped") ∷
          entries.End 1 ∷
          entries.Gone 1 ∷
          of_context built_in.Destroyed (codes "ApplicationScoped") ∷
          [];
      reply = replies.Done;
    }) ∷
    []

-- the product is destroyed, and its disposer is not run
abbrev pub disposer_without_receiver_is_not_run : Type 0
disposer_without_receiver_is_not_run =
    Shows deployment first_chosen 100000 32
    disposer_without_receiver_is_not_run_commands
    disposer_without_receiver_is_not_run_said
