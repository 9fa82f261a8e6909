-- Two beans that call each other while the one is made.
use Rattle.std.specs.Prelude.{ℕ, List, [], ◌∷◌, None, codes}
use Rattle.cdi_base.specs.declared.act.Act.TheVariants as acts
use Rattle.cdi_base.specs.declared.act.Via.TheVariants as vias
use Rattle.cdi_base.specs.declared.entry.Entry.TheVariants as entries
use Rattle.cdi_base.specs.declared.place.Place.TheVariants as places
use Rattle.cdi_base.specs.declared.scope.Scope.TheVariants as scopes
use Rattle.cdi_base.specs.declared.reply.Reply.TheVariants as replies
use Rattle.cdi_base.specs.declared.built_in.BuiltIn.TheVariants as built_in
use Rattle.cdi_base.specs.BuiltIn.{number_of}
use Rattle.cdi_machine.specs.Words.{Name}
use Rattle.cdi_machine.specs.Tables.{Step, One}
use Rattle.cdi_machine.specs.Commands.{Command}
use Rattle.cdi_machine.specs.Container.{Said}
use Rattle.cdi_machine.specs.Scripts.{call}
use Rattle.cdi_machine.specs.Deployments.{Deployment, of_type, no_chain, managed_bean, of_context, of_container, first_chosen, Shows, code, method}

abbrev A : Name
A = 20

abbrev m : Name
m = 21

abbrev p : Name
p = 22

abbrev b : Name
b = 23

abbrev B : Name
B = 24

abbrev a : Name
a = 25

abbrev body_p : ℕ
body_p = 0

abbrev body_nop : ℕ
body_nop = 1

abbrev body_m : ℕ
body_m = 2

abbrev pub deployment : Deployment
deployment =
    record {
      beans =
          managed_bean A scopes.ApplicationScoped (record {
            fields = [];
            plan =
                Step.Construct [] no_chain ∷
                Step.Inject b (of_type B) ∷
                Step.Complete (record { chain = []; callbacks = code A p body_p ∷ [] }) ∷
                [];
            methods = (m, method A m body_nop 0 []) ∷ [];
            pre_destroy = no_chain;
          }) ∷
          managed_bean B scopes.ApplicationScoped (record {
            fields = [];
            plan =
                Step.Construct [] no_chain ∷
                Step.Inject a (of_type A) ∷
                Step.Complete no_chain ∷
                [];
            methods = (m, method B m body_m 0 []) ∷ [];
            pre_destroy = no_chain;
          }) ∷
          [];
      interceptors = [];
      types = (A, One 0) ∷ (B, One 1) ∷ [];
      written = [];
      observed = [];
      events = [];
      scripts =
          (call (vias.Field b) m [] ∷ [], []) ∷ ([], []) ∷ (call (vias.Field a) m [] ∷ [], []) ∷ [];
      checked = [];
      texts = [];
    }

abbrev pub a_bean_that_is_being_made_is_not_found_commands : List Command
a_bean_that_is_being_made_is_not_found_commands =
    Command.Boot ∷ Command.Call None (of_type A) m [] ∷ []

abbrev pub a_bean_that_is_being_made_is_not_found_said : List Said
a_bean_that_is_being_made_is_not_found_said =
    (record {
      entries =
          of_context built_in.Initialized (codes "ApplicationScoped") ∷
          of_container built_in.Startup ∷
          [];
      reply = replies.Done;
    }) ∷
    (record {
      entries =
          entries.New 1 (places.Class A) ∷
          entries.Run 1 (places.Member A p) ∷
          entries.Did (acts.Call (vias.Field b) m []) ∷
          entries.New 2 (places.Class B) ∷
          entries.Ready 2 ∷
          entries.Run 2 (places.Member B m) ∷
          entries.Did (acts.Call (vias.Field a) m []) ∷
          entries.Did (acts.Throw (number_of built_in.CreationException)) ∷
          entries.Did (acts.Throw (number_of built_in.CreationException)) ∷
          entries.Drop 1 ∷
          [];
      reply = replies.Threw (number_of built_in.CreationException);
    }) ∷
    []

-- a bean that is being made can not be obtained
abbrev pub a_bean_that_is_being_made_is_not_found : Type 0
a_bean_that_is_being_made_is_not_found =
    Shows deployment first_chosen 100000 32
    a_bean_that_is_being_made_is_not_found_commands
    a_bean_that_is_being_made_is_not_found_said
