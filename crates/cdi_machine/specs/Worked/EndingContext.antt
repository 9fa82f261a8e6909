-- A pre-destroy callback that calls a bean that is gone.
use Rattle.std.specs.Prelude.{ℕ, List, [], ◌∷◌, None, codes}
use Rattle.cdi_base.specs.declared.value.Value.TheVariants as values
use Rattle.cdi_base.specs.declared.act.Act.TheVariants as acts
use Rattle.cdi_base.specs.declared.act.Via.TheVariants as vias
use Rattle.cdi_base.specs.declared.entry.Entry.TheVariants as entries
use Rattle.cdi_base.specs.declared.place.Place.TheVariants as places
use Rattle.cdi_base.specs.declared.scope.Scope.TheVariants as scopes
use Rattle.cdi_base.specs.declared.reply.Reply.TheVariants as replies
use Rattle.cdi_base.specs.declared.built_in.BuiltIn.TheVariants as built_in
use Rattle.cdi_base.specs.BuiltIn.{number_of}
use Rattle.cdi_machine.specs.Words.{Name}
use Rattle.cdi_machine.specs.Tables.{Step, One}
use Rattle.cdi_machine.specs.Commands.{Command}
use Rattle.cdi_machine.specs.Container.{Said}
use Rattle.cdi_machine.specs.Scripts.{call}
use Rattle.cdi_machine.specs.Deployments.{Deployment, of_type, no_chain, managed_bean, of_context, of_container, first_chosen, Shows, code, method}

abbrev Y : Name
Y = 20

abbrev go : Name
go = 21

abbrev x : Name
x = 22

abbrev m : Name
m = 23

abbrev X : Name
X = 24

abbrev bye : Name
bye = 25

abbrev body_go : ℕ
body_go = 0

abbrev body_nop : ℕ
body_nop = 1

abbrev pub deployment : Deployment
deployment =
    record {
      beans =
          managed_bean Y scopes.ApplicationScoped (record {
            fields = [];
            plan =
                Step.Construct [] no_chain ∷
                Step.Inject x (of_type X) ∷
                Step.Complete no_chain ∷
                [];
            methods = (go, method Y go body_go 0 []) ∷ [];
            pre_destroy = (record { chain = []; callbacks = code Y bye body_go ∷ [] });
          }) ∷
          managed_bean X scopes.ApplicationScoped (record {
            fields = [];
            plan = Step.Construct [] no_chain ∷ Step.Complete no_chain ∷ [];
            methods = (m, method X m body_nop 0 []) ∷ [];
            pre_destroy = no_chain;
          }) ∷
          [];
      interceptors = [];
      types = (Y, One 0) ∷ (X, One 1) ∷ [];
      written = [];
      observed = [];
      events = [];
      scripts = (call (vias.Field x) m [] ∷ [], []) ∷ ([], []) ∷ [];
      checked = [];
      texts = [];
    }

abbrev pub nothing_is_made_in_an_ending_context_commands : List Command
nothing_is_made_in_an_ending_context_commands =
    Command.Boot ∷ Command.Call None (of_type Y) go [] ∷ Command.Shutdown ∷ []

abbrev pub nothing_is_made_in_an_ending_context_said : List Said
nothing_is_made_in_an_ending_context_said =
    (record {
      entries =
          of_context built_in.Initialized (codes "ApplicationScoped") ∷
          of_container built_in.Startup ∷
          [];
      reply = replies.Done;
    }) ∷
    (record {
      entries =
          entries.New 1 (places.Class Y) ∷
          entries.Ready 1 ∷
          entries.Run 1 (places.Member Y go) ∷
          entries.Did (acts.Call (vias.Field x) m []) ∷
          entries.New 2 (places.Class X) ∷
          entries.Ready 2 ∷
          entries.Run 2 (places.Member X m) ∷
          entries.Did (acts.Give values.Null) ∷
          entries.Did (acts.Give values.Null) ∷
          [];
      reply = replies.Value values.Null;
    }) ∷
    (record {
      entries =
          of_container built_in.Shutdown ∷
          of_context built_in.BeforeDestroyed (codes "ApplicationScoped") ∷
          entries.End 2 ∷
          entries.Gone 2 ∷
          entries.End 1 ∷
          entries.Run 1 (places.Member Y bye) ∷
          entries.Did (acts.Call (vias.Field x) m []) ∷
          entries.Did (acts.Throw (number_of built_in.ContextNotActiveException)) ∷
          entries.Gone 1 ∷
          of_context built_in.Destroyed (codes "ApplicationScoped") ∷
          [];
      reply = replies.Done;
    }) ∷
    []

-- no instance is made in a context that is ending
abbrev pub nothing_is_made_in_an_ending_context : Type 0
nothing_is_made_in_an_ending_context =
    Shows deployment first_chosen 100000 32
    nothing_is_made_in_an_ending_context_commands
    nothing_is_made_in_an_ending_context_said
