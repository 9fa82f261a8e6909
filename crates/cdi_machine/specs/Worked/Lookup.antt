-- A body that looks a dependent bean up.
use Rattle.std.specs.Prelude.{ℕ, pos, List, [], ◌∷◌, None, codes}
use Rattle.cdi_base.specs.declared.value.Value.TheVariants as values
use Rattle.cdi_base.specs.declared.act.Act.TheVariants as acts
use Rattle.cdi_base.specs.declared.act.Via.TheVariants as vias
use Rattle.cdi_base.specs.declared.entry.Entry.TheVariants as entries
use Rattle.cdi_base.specs.declared.place.Place.TheVariants as places
use Rattle.cdi_base.specs.declared.scope.Scope.TheVariants as scopes
use Rattle.cdi_base.specs.declared.reply.Reply.TheVariants as replies
use Rattle.cdi_base.specs.declared.built_in.BuiltIn.TheVariants as built_in
use Rattle.cdi_machine.specs.Words.{Name}
use Rattle.cdi_machine.specs.Tables.{Step, One}
use Rattle.cdi_machine.specs.Commands.{Command}
use Rattle.cdi_machine.specs.Container.{Said}
use Rattle.cdi_machine.specs.Scripts.{Plain, Last, call, find, give}
use Rattle.cdi_machine.specs.Deployments.{Deployment, of_type, no_chain, managed_bean, of_context, of_container, first_chosen, Shows, method}

abbrev H : Name
H = 20

abbrev g : Name
g = 21

abbrev D : Name
D = 22

abbrev m : Name
m = 23

abbrev body_m : ℕ
body_m = 0

abbrev body_g : ℕ
body_g = 1

abbrev pub deployment : Deployment
deployment =
    record {
      beans =
          managed_bean D scopes.Dependent (record {
            fields = [];
            plan = Step.Construct [] no_chain ∷ Step.Complete no_chain ∷ [];
            methods = (m, method D m body_m 0 []) ∷ [];
            pre_destroy = no_chain;
          }) ∷
          managed_bean H scopes.ApplicationScoped (record {
            fields = [];
            plan = Step.Construct [] no_chain ∷ Step.Complete no_chain ∷ [];
            methods = (g, method H g body_g 0 []) ∷ [];
            pre_destroy = no_chain;
          }) ∷
          [];
      interceptors = [];
      types = (H, One 1) ∷ (D, One 0) ∷ [];
      written = [];
      observed = [];
      events = [];
      scripts =
          (give (Plain (values.Int (pos 8))) ∷ [], []) ∷
          (find 0 ∷ call (vias.Local 0) m [] ∷ give Last ∷ [], of_type D ∷ []) ∷
          [];
      checked = [];
      texts = [];
    }

abbrev pub what_is_found_belongs_to_the_finder_commands : List Command
what_is_found_belongs_to_the_finder_commands =
    Command.Boot ∷
    Command.Call None (of_type H) g [] ∷
    Command.Call None (of_type H) g [] ∷
    Command.Live ∷
    Command.Shutdown ∷
    []

abbrev pub what_is_found_belongs_to_the_finder_said : List Said
what_is_found_belongs_to_the_finder_said =
    (record {
      entries =
          of_context built_in.Initialized (codes "ApplicationScoped") ∷
          of_container built_in.Startup ∷
          [];
      reply = replies.Done;
    }) ∷
    (record {
      entries =
          entries.New 1 (places.Class H) ∷
          entries.Ready 1 ∷
          entries.Run 1 (places.Member H g) ∷
          entries.Did (acts.Find 0) ∷
          entries.New 2 (places.Class D) ∷
          entries.Ready 2 ∷
          entries.Did (acts.Call (vias.Local 0) m []) ∷
          entries.Run 2 (places.Member D m) ∷
          entries.Did (acts.Give (values.Int (pos 8))) ∷
          entries.Did (acts.Give (values.Int (pos 8))) ∷
          [];
      reply = replies.Value (values.Int (pos 8));
    }) ∷
    (record {
      entries =
          entries.Run 1 (places.Member H g) ∷
          entries.Did (acts.Find 0) ∷
          entries.New 3 (places.Class D) ∷
          entries.Ready 3 ∷
          entries.Did (acts.Call (vias.Local 0) m []) ∷
          entries.Run 3 (places.Member D m) ∷
          entries.Did (acts.Give (values.Int (pos 8))) ∷
          entries.Did (acts.Give (values.Int (pos 8))) ∷
          [];
      reply = replies.Value (values.Int (pos 8));
    }) ∷
    (record { entries = []; reply = replies.Live (1 ∷ 2 ∷ 3 ∷ []) }) ∷
    (record {
      entries =
          of_container built_in.Shutdown ∷
          of_context built_in.BeforeDestroyed (codes "ApplicationScoped") ∷
          entries.End 1 ∷
          entries.Pick 2 0 ∷
          entries.End 2 ∷
          entries.Gone 2 ∷
          entries.End 3 ∷
          entries.Gone 3 ∷
          entries.Gone 1 ∷
          of_context built_in.Destroyed (codes "ApplicationScoped") ∷
          [];
      reply = replies.Done;
    }) ∷
    []

-- each lookup makes an instance, which stays, and is destroyed with the finder
abbrev pub what_is_found_belongs_to_the_finder : Type 0
what_is_found_belongs_to_the_finder =
    Shows deployment first_chosen 100000 32
    what_is_found_belongs_to_the_finder_commands
    what_is_found_belongs_to_the_finder_said
