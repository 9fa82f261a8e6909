-- A body that destroys what stands behind a proxy.
use Rattle.std.specs.Prelude.{ℕ, List, [], ◌∷◌, None, codes}
use Rattle.cdi_base.specs.declared.value.Value.TheVariants as values
use Rattle.cdi_base.specs.declared.act.Act.TheVariants as acts
use Rattle.cdi_base.specs.declared.act.Via.TheVariants as vias
use Rattle.cdi_base.specs.declared.entry.Entry.TheVariants as entries
use Rattle.cdi_base.specs.declared.place.Place.TheVariants as places
use Rattle.cdi_base.specs.declared.scope.Scope.TheVariants as scopes
use Rattle.cdi_base.specs.declared.reply.Reply.TheVariants as replies
use Rattle.cdi_base.specs.declared.built_in.BuiltIn.TheVariants as built_in
use Rattle.cdi_machine.specs.Words.{Name}
use Rattle.cdi_machine.specs.Tables.{Step, One}
use Rattle.cdi_machine.specs.Commands.{Command}
use Rattle.cdi_machine.specs.Container.{Said}
use Rattle.cdi_machine.specs.Scripts.{call, find, destroy}
use Rattle.cdi_machine.specs.Deployments.{Deployment, of_type, no_chain, managed_bean, of_context, of_container, first_chosen, Shows, method}

abbrev Y : Name
Y = 20

abbrev g : Name
g = 21

abbrev m : Name
m = 22

abbrev X : Name
X = 23

abbrev body_g : ℕ
body_g = 0

abbrev body_nop : ℕ
body_nop = 1

abbrev pub deployment : Deployment
deployment =
    record {
      beans =
          managed_bean Y scopes.ApplicationScoped (record {
            fields = [];
            plan = Step.Construct [] no_chain ∷ Step.Complete no_chain ∷ [];
            methods = (g, method Y g body_g 0 []) ∷ [];
            pre_destroy = no_chain;
          }) ∷
          managed_bean X scopes.ApplicationScoped (record {
            fields = [];
            plan = Step.Construct [] no_chain ∷ Step.Complete no_chain ∷ [];
            methods = (m, method X m body_nop 0 []) ∷ [];
            pre_destroy = no_chain;
          }) ∷
          [];
      interceptors = [];
      types = (Y, One 0) ∷ (X, One 1) ∷ [];
      written = [];
      observed = [];
      events = [];
      scripts = (
        find 0 ∷
            call (vias.Local 0) m [] ∷
            destroy 0 ∷
            call (vias.Local 0) m [] ∷
            [],
        of_type X ∷
            [],
      ) ∷
          ([], []) ∷
          [];
      checked = [];
      texts = [];
    }

abbrev pub proxy_obtains_anew_commands : List Command
proxy_obtains_anew_commands = Command.Boot ∷ Command.Call None (of_type Y) g [] ∷ []

abbrev pub proxy_obtains_anew_said : List Said
proxy_obtains_anew_said =
    (record {
      entries =
          of_context built_in.Initialized (codes "ApplicationScoped") ∷
          of_container built_in.Startup ∷
          [];
      reply = replies.Done;
    }) ∷
    (record {
      entries =
          entries.New 1 (places.Class Y) ∷
          entries.Ready 1 ∷
          entries.Run 1 (places.Member Y g) ∷
          entries.Did (acts.Find 0) ∷
          entries.Did (acts.Call (vias.Local 0) m []) ∷
          entries.New 2 (places.Class X) ∷
          entries.Ready 2 ∷
          entries.Run 2 (places.Member X m) ∷
          entries.Did (acts.Give values.Null) ∷
          entries.Did (acts.Destroy 0) ∷
          entries.End 2 ∷
          entries.Gone 2 ∷
          entries.Did (acts.Call (vias.Local 0) m []) ∷
          entries.New 3 (places.Class X) ∷
          entries.Ready 3 ∷
          entries.Run 3 (places.Member X m) ∷
          entries.Did (acts.Give values.Null) ∷
          entries.Did (acts.Give values.Null) ∷
          [];
      reply = replies.Value values.Null;
    }) ∷
    []

-- the next use makes another instance
abbrev pub proxy_obtains_anew : Type 0
proxy_obtains_anew =
    Shows deployment first_chosen 100000 32 proxy_obtains_anew_commands proxy_obtains_anew_said
