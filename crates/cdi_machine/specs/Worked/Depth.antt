-- A bean that looks itself up without end.
use Rattle.std.specs.Prelude.{ℕ, List, [], ◌∷◌, None, codes}
use Rattle.cdi_base.specs.declared.act.Act.TheVariants as acts
use Rattle.cdi_base.specs.declared.entry.Entry.TheVariants as entries
use Rattle.cdi_base.specs.declared.place.Place.TheVariants as places
use Rattle.cdi_base.specs.declared.scope.Scope.TheVariants as scopes
use Rattle.cdi_base.specs.declared.reply.Cause.TheVariants as causes
use Rattle.cdi_base.specs.declared.reply.Reply.TheVariants as replies
use Rattle.cdi_base.specs.declared.built_in.BuiltIn.TheVariants as built_in
use Rattle.cdi_machine.specs.Words.{Name}
use Rattle.cdi_machine.specs.Tables.{Step, One}
use Rattle.cdi_machine.specs.Commands.{Command}
use Rattle.cdi_machine.specs.Container.{Said}
use Rattle.cdi_machine.specs.Scripts.{find}
use Rattle.cdi_machine.specs.Deployments.{Deployment, of_type, no_chain, managed_bean, of_context, of_container, first_chosen, Shows, code, method}

abbrev R : Name
R = 20

abbrev m : Name
m = 21

abbrev p : Name
p = 22

abbrev body_p : ℕ
body_p = 0

abbrev body_nop : ℕ
body_nop = 1

abbrev pub deployment : Deployment
deployment =
    record {
      beans =
          managed_bean R scopes.Dependent (record {
            fields = [];
            plan =
                Step.Construct [] no_chain ∷
                Step.Complete (record { chain = []; callbacks = code R p body_p ∷ [] }) ∷
                [];
            methods = (m, method R m body_nop 0 []) ∷ [];
            pre_destroy = no_chain;
          }) ∷
          [];
      interceptors = [];
      types = (R, One 0) ∷ [];
      written = [];
      observed = [];
      events = [];
      scripts = (find 0 ∷ [], of_type R ∷ []) ∷ ([], []) ∷ [];
      checked = [];
      texts = [];
    }

abbrev pub cut_at_the_last_level_commands : List Command
cut_at_the_last_level_commands = Command.Boot ∷ Command.Call None (of_type R) m [] ∷ []

abbrev pub cut_at_the_last_level_said : List Said
cut_at_the_last_level_said =
    (record {
      entries =
          of_context built_in.Initialized (codes "ApplicationScoped") ∷
          of_container built_in.Startup ∷
          [];
      reply = replies.Done;
    }) ∷
    (record {
      entries =
          entries.New 1 (places.Class R) ∷
          entries.Run 1 (places.Member R p) ∷
          entries.Did (acts.Find 0) ∷
          entries.New 2 (places.Class R) ∷
          entries.Run 2 (places.Member R p) ∷
          entries.Did (acts.Find 0) ∷
          entries.New 3 (places.Class R) ∷
          [];
      reply = replies.Halted causes.Depth;
    }) ∷
    []

-- below the last level a body is cut before its entry
abbrev pub cut_at_the_last_level : Type 0
cut_at_the_last_level =
    Shows deployment first_chosen 100000 2 cut_at_the_last_level_commands cut_at_the_last_level_said
