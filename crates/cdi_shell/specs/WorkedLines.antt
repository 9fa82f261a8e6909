-- Worked lines: what is read and written for the counter.
use Rattle.std.specs.Prelude.{ℕ, pos, ◌≡◌, List, [], ◌∷◌, codes, Option, Some, None}
use Rattle.cdi_base.specs.declared.place.Place.TheVariants as places
use Rattle.cdi_base.specs.declared.reply.Cause.TheVariants as causes
use Rattle.cdi_base.specs.declared.reply.Refusal.{Refusal}
use Rattle.cdi_base.specs.declared.reply.Refusal.TheVariants as refusals
use Rattle.cdi_base.specs.declared.reply.Reply.TheVariants as replies
use Rattle.cdi_base.specs.declared.value.Value.{Value}
use Rattle.cdi_base.specs.declared.value.Value.TheVariants as values
use Rattle.cdi_deploy.specs.declared.fault.ReadFault.TheVariants as faults
use Rattle.cdi_base.specs.declared.scope.Scope.TheVariants as scopes
use Rattle.cdi_problems.specs.declared.problem.ProblemKind.TheVariants as kinds
use Rattle.cdi_machine.specs.Commands.{Command}
use Rattle.cdi_machine.specs.Container.{before_commands, refusal}
use Rattle.cdi_machine.specs.Deployments.{Deployment, managed_bean, method, no_chain, tables_of}
use Rattle.cdi_machine.specs.Tables.{Nothing, One}
use Rattle.cdi_host.specs.Asked.{of_type}
use Rattle.cdi_script.specs.declared.fault.ScriptFault.TheVariants as script_faults
use Rattle.cdi_lines.specs.Lines.{complete_lines, all_lines}
use Rattle.cdi_prepare.specs.FaultText.{fault_line, script_line}
use Rattle.cdi_report.specs.Reports.{problem_line}
use Rattle.cdi_text.specs.ReplyText.{reply_line}

-- the names of the counter at 0, 1 and 2
abbrev pub names : List (List ℕ)
names = codes "K" ∷ codes "n" ∷ codes "up" ∷ []

-- each kind of reply
pub record Replied : Type 0 where
  pub one : reply_line names (replies.Value (values.Int (pos 1))) ≡ codes "[\"value\",1]\n"
  pub null : reply_line names (replies.Value values.Null) ≡ codes "[\"value\",null]\n"
  pub text :
      reply_line names
      (replies.Value (values.Text (codes "a\"b"))) ≡ codes "[\"value\",\"a\\\"b\"]\n"
  pub threw : reply_line names (replies.Threw 0) ≡ codes "[\"threw\",\"K\"]\n"
  pub done : reply_line names replies.Done ≡ codes "[\"done\"]\n"
  pub live : reply_line names (replies.Live (1 ∷ 12 ∷ [])) ≡ codes "[\"live\",[1,12]]\n"
  pub refused :
      reply_line names (replies.Refused refusals.BadLine) ≡ codes "[\"refused\",\"BadLine\"]\n"
  pub halted : reply_line names (replies.Halted causes.Depth) ≡ codes "[\"halted\",\"depth\"]\n"

-- the lines of a refused deployment
pub record RefusedBy : Type 0 where
  pub not_json : fault_line faults.NotJson ≡ codes "NotJson\n"
  pub shape : fault_line (faults.Shape (codes "/classes/0")) ≡ codes "Shape /classes/0\n"
  pub root : fault_line (faults.Shape []) ≡ codes "Shape \n"
  pub script : script_line (codes "up") script_faults.TooLong ≡ codes "script up TooLong\n"
  pub body :
      problem_line names (record { kind = kinds.UnknownBody; place = Some (places.Member 0 2) })
      ≡ codes "P12 UnknownBody K#up\n"
  pub many :
      problem_line names (record { kind = kinds.TooMany; place = None }) ≡ codes "P22 TooMany\n"

-- where lines end
pub record Split : Type 0 where
  pub nothing : all_lines [] ≡ []
  pub whole : all_lines (codes "a\nb\n") ≡ codes "a" ∷ codes "b" ∷ []
  pub begun : all_lines (codes "a\nb") ≡ codes "a" ∷ codes "b" ∷ []
  pub complete : complete_lines (codes "a\nb") ≡ codes "a" ∷ []
  pub empty : all_lines (codes "\n\n") ≡ [] ∷ [] ∷ []

-- ---- a counter, whose class, field and method have these numbers

abbrev pub K : ℕ
K = 19

abbrev pub n : ℕ
n = 20

abbrev pub up : ℕ
up = 21

-- a class that is no bean
abbrev pub L : ℕ
L = 22

abbrev pub counter : Deployment
counter =
    record {
      beans =
          managed_bean K scopes.ApplicationScoped
          (record {
            fields = (n, values.Int (pos 0)) ∷ [];
            plan = [];
            methods = (up, method K up 0 0 []) ∷ [];
            pre_destroy = no_chain;
          }) ∷
          [];
      interceptors = [];
      types = (K, One 0) ∷ (L, Nothing) ∷ [];
      written = [];
      observed = [];
      events = [];
      scripts = [];
      checked = [];
      texts = [];
    }

-- why a container of the counter refuses a call, if it does
abbrev pub refusal_of_call : ℕ → ℕ → List Value → Option Refusal
refusal_of_call type method args =
    refusal (tables_of counter) (before_commands 100 32)
    (Command.Call None (of_type type) method args)

-- why it is refused: an unknown name before an unknown method, and that before a wrong count
pub record Asked : Type 0 where
  pub served : refusal_of_call K up [] ≡ None
  pub type : refusal_of_call 30 up (values.Null ∷ []) ≡ Some refusals.UnknownName
  pub method : refusal_of_call K n (values.Null ∷ []) ≡ Some refusals.NoMethod
  pub count : refusal_of_call K up (values.Null ∷ []) ≡ Some refusals.WrongCount
  -- a class that is no bean resolves to nothing, which the call itself tells
  pub no_bean : refusal_of_call L up [] ≡ None

pub record WorkedLines : Type 0 where
  pub replied : Replied
  pub refused : RefusedBy
  pub split : Split
  pub asked : Asked
