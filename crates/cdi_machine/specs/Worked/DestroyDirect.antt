-- A body that destroys what it has found, twice.
use Rattle.std.specs.Prelude.{ℕ, List, [], ◌∷◌, None, codes}
use Rattle.cdi_base.specs.declared.value.Value.TheVariants as values
use Rattle.cdi_base.specs.declared.act.Act.TheVariants as acts
use Rattle.cdi_base.specs.declared.entry.Entry.TheVariants as entries
use Rattle.cdi_base.specs.declared.place.Place.TheVariants as places
use Rattle.cdi_base.specs.declared.scope.Scope.TheVariants as scopes
use Rattle.cdi_base.specs.declared.reply.Reply.TheVariants as replies
use Rattle.cdi_base.specs.declared.built_in.BuiltIn.TheVariants as built_in
use Rattle.cdi_base.specs.BuiltIn.{number_of}
use Rattle.cdi_machine.specs.Words.{Name}
use Rattle.cdi_machine.specs.Tables.{Step, One}
use Rattle.cdi_machine.specs.Commands.{Command}
use Rattle.cdi_machine.specs.Container.{Said}
use Rattle.cdi_machine.specs.Scripts.{Last, find, destroy, give, catch}
use Rattle.cdi_machine.specs.Deployments.{Deployment, of_type, no_chain, managed_bean, of_context, of_container, first_chosen, Shows, code, method}

abbrev H : Name
H = 20

abbrev g : Name
g = 21

abbrev D : Name
D = 22

abbrev bye : Name
bye = 23

abbrev body_nop : ℕ
body_nop = 0

abbrev body_g : ℕ
body_g = 1

abbrev pub deployment : Deployment
deployment =
    record {
      beans =
          managed_bean D scopes.Dependent (record {
            fields = [];
            plan = Step.Construct [] no_chain ∷ Step.Complete no_chain ∷ [];
            methods = [];
            pre_destroy = (record { chain = []; callbacks = code D bye body_nop ∷ [] });
          }) ∷
          managed_bean H scopes.ApplicationScoped (record {
            fields = [];
            plan = Step.Construct [] no_chain ∷ Step.Complete no_chain ∷ [];
            methods = (g, method H g body_g 0 []) ∷ [];
            pre_destroy = no_chain;
          }) ∷
          [];
      interceptors = [];
      types = (H, One 1) ∷ (D, One 0) ∷ [];
      written = [];
      observed = [];
      events = [];
      scripts =
          ([], []) ∷ (find 0 ∷ destroy 0 ∷ destroy 0 ∷ catch (give Last) ∷ [], of_type D ∷ []) ∷ [];
      checked = [];
      texts = (number_of built_in.IllegalStateException, codes "IllegalStateException") ∷ [];
    }

abbrev pub destroyed_once_only_commands : List Command
destroyed_once_only_commands = Command.Boot ∷ Command.Call None (of_type H) g [] ∷ Command.Live ∷ []

abbrev pub destroyed_once_only_said : List Said
destroyed_once_only_said =
    (record {
      entries =
          of_context built_in.Initialized (codes "ApplicationScoped") ∷
          of_container built_in.Startup ∷
          [];
      reply = replies.Done;
    }) ∷
    (record {
      entries =
          entries.New 1 (places.Class H) ∷
          entries.Ready 1 ∷
          entries.Run 1 (places.Member H g) ∷
          entries.Did (acts.Find 0) ∷
          entries.New 2 (places.Class D) ∷
          entries.Ready 2 ∷
          entries.Did (acts.Destroy 0) ∷
          entries.End 2 ∷
          entries.Run 2 (places.Member D bye) ∷
          entries.Did (acts.Give values.Null) ∷
          entries.Gone 2 ∷
          entries.Did (acts.Destroy 0) ∷
          entries.Did (acts.Give (values.Text (codes "IllegalStateException"))) ∷
          [];
      reply = replies.Value (values.Text (codes "IllegalStateException"));
    }) ∷
    (record { entries = []; reply = replies.Live (1 ∷ []) }) ∷ []

-- a second destroy of it is refused
abbrev pub destroyed_once_only : Type 0
destroyed_once_only =
    Shows deployment first_chosen 100000 32 destroyed_once_only_commands destroyed_once_only_said
