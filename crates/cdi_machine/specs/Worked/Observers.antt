-- Observers in two groups, one of them conditional.
use Rattle.std.specs.Prelude.{ℕ, pos, List, [], ◌∷◌, None, true, false, codes}
use Rattle.cdi_base.specs.declared.value.Value.TheVariants as values
use Rattle.cdi_base.specs.declared.act.Act.TheVariants as acts
use Rattle.cdi_base.specs.declared.entry.Entry.TheVariants as entries
use Rattle.cdi_base.specs.declared.place.Place.TheVariants as places
use Rattle.cdi_base.specs.declared.scope.Scope.TheVariants as scopes
use Rattle.cdi_base.specs.declared.reply.Reply.TheVariants as replies
use Rattle.cdi_base.specs.declared.built_in.BuiltIn.TheVariants as built_in
use Rattle.cdi_base.specs.BuiltIn.{number_of}
use Rattle.cdi_machine.specs.Words.{Name}
use Rattle.cdi_machine.specs.Tables.{Step}
use Rattle.cdi_machine.specs.Commands.{Command}
use Rattle.cdi_machine.specs.Container.{Said}
use Rattle.cdi_machine.specs.Scripts.{throw}
use Rattle.cdi_machine.specs.Deployments.{Deployment, no_chain, managed_bean, of_context, of_container, first_chosen, last_chosen, Shows, member}

abbrev E : Name
E = 20

abbrev O : Name
O = 21

abbrev z : Name
z = 22

abbrev a : Name
a = 23

abbrev b : Name
b = 24

abbrev Chk : Name
Chk = 25

abbrev c : Name
c = 26

abbrev N : Name
N = 27

abbrev d : Name
d = 28

abbrev body_nop : ℕ
body_nop = 0

abbrev body_b : ℕ
body_b = 1

abbrev pub deployment : Deployment
deployment =
    record {
      beans =
          managed_bean O scopes.ApplicationScoped (record {
            fields = [];
            plan = Step.Construct [] no_chain ∷ Step.Complete no_chain ∷ [];
            methods = [];
            pre_destroy = no_chain;
          }) ∷
          managed_bean N scopes.ApplicationScoped (record {
            fields = [];
            plan = Step.Construct [] no_chain ∷ Step.Complete no_chain ∷ [];
            methods = [];
            pre_destroy = no_chain;
          }) ∷
          [];
      interceptors = [];
      types = [];
      written = [];
      observed = (
        E,
        [],
        ((record { bean = 0; member = member O z body_nop [] []; conditional = false }) ∷ []) ∷
            ((record { bean = 0; member = member O a body_nop [] []; conditional = false }) ∷
            (record { bean = 0; member = member O b body_b [] []; conditional = false }) ∷
            (record { bean = 0; member = member O c body_nop [] []; conditional = false }) ∷
            (record { bean = 1; member = member N d body_nop [] []; conditional = true }) ∷
            []) ∷
            [],
      ) ∷
          [];
      events = E ∷ [];
      scripts = ([], []) ∷ (throw Chk ∷ [], []) ∷ [];
      checked = Chk ∷ [];
      texts = [];
    }

abbrev pub observers_in_the_first_order_commands : List Command
observers_in_the_first_order_commands =
    Command.Boot ∷ Command.Fire None E [] (values.Int (pos 5)) ∷ []

abbrev pub observers_in_the_first_order_said : List Said
observers_in_the_first_order_said =
    (record {
      entries =
          of_context built_in.Initialized (codes "ApplicationScoped") ∷
          of_container built_in.Startup ∷
          [];
      reply = replies.Done;
    }) ∷
    (record {
      entries =
          entries.Event E [] ∷
          entries.New 1 (places.Class O) ∷
          entries.Ready 1 ∷
          entries.Run 1 (places.Member O z) ∷
          entries.Did (acts.Give values.Null) ∷
          entries.Pick 4 0 ∷
          entries.Run 1 (places.Member O a) ∷
          entries.Did (acts.Give values.Null) ∷
          entries.Pick 3 0 ∷
          entries.Run 1 (places.Member O b) ∷
          entries.Did (acts.Throw Chk) ∷
          [];
      reply = replies.Threw (number_of built_in.ObserverException);
    }) ∷
    []

-- groups by priority, and picks within a group
abbrev pub observers_in_the_first_order : Type 0
observers_in_the_first_order =
    Shows deployment first_chosen 100000 32
    observers_in_the_first_order_commands
    observers_in_the_first_order_said

abbrev pub observers_in_the_last_order_commands : List Command
observers_in_the_last_order_commands =
    Command.Boot ∷ Command.Fire None E [] (values.Int (pos 5)) ∷ []

abbrev pub observers_in_the_last_order_said : List Said
observers_in_the_last_order_said =
    (record {
      entries =
          of_context built_in.Initialized (codes "ApplicationScoped") ∷
          of_container built_in.Startup ∷
          [];
      reply = replies.Done;
    }) ∷
    (record {
      entries =
          entries.Event E [] ∷
          entries.New 1 (places.Class O) ∷
          entries.Ready 1 ∷
          entries.Run 1 (places.Member O z) ∷
          entries.Did (acts.Give values.Null) ∷
          entries.Pick 4 3 ∷
          entries.Pick 3 2 ∷
          entries.Run 1 (places.Member O c) ∷
          entries.Did (acts.Give values.Null) ∷
          entries.Pick 2 1 ∷
          entries.Run 1 (places.Member O b) ∷
          entries.Did (acts.Throw Chk) ∷
          [];
      reply = replies.Threw (number_of built_in.ObserverException);
    }) ∷
    []

-- a conditional observer without an instance is picked and skipped
abbrev pub observers_in_the_last_order : Type 0
observers_in_the_last_order =
    Shows deployment last_chosen 100000 32
    observers_in_the_last_order_commands
    observers_in_the_last_order_said
