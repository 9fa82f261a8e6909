-- A reply that tells an exception by a text of a table of names tells it by a name.
use Rattle.std.proofs.Common.{ℕ, ◌≡◌, List, true, Result, Ok, Err, IfOk, sym, subst}
use Rattle.std.specs.List.{list_all}
use Rattle.cdi_base.specs.declared.reply.Reply.{Reply}
use Rattle.cdi_base.specs.declared.reply.Reply.TheVariants as replies
use Rattle.cdi_base.specs.Name.{is_name}
use Rattle.cdi_bodies.specs.declared.entry.Entry.{Entry}
use Rattle.cdi_deployment.specs.declared.deployment.Deployment.{Deployment}
use Rattle.cdi_machine.specs.Registered.{legal_of}
use Rattle.cdi_prepare.specs.Ready.{Readied, readied_in}
use Rattle.cdi_run_tables.specs.declared.tables.RunTables.{RunTables}
use Rattle.cdi_report.proofs.TrueNames.{name-at}
use Rattle.cdi_report.specs.Facts.{HasFacts}
use Rattle.cdi_problems.specs.Places.{name_text}
use Rattle.cdi_container.specs.Accepted.{IsAccepted}
use Rattle.cdi_container.specs.Sound.{IsSound}
use Rattle.cdi_container.specs.Thrown.{TellsName}
use Rattle.cdi_shell.specs.Thrown.{TellsThem, TellsTrueName, TellsTrueNames}

pub true_name : (names : List (List ℕ)) (reply : Reply) → list_all is_name names ≡ true → TellsName names reply → TellsTrueName names reply
true_name names (replies.Threw x) are at = name-at names x (name_text names x) are at
true_name names (replies.Value v) are at = tt
true_name names replies.Done are at = tt
true_name names (replies.Live numbers) are at = tt
true_name names (replies.Refused r) are at = tt
true_name names (replies.Halted cause) are at = tt

module _ {X : Type 0} {F : X → Type 0} {g : _} (entries : List (Entry X F g)) where
  -- each container that is accepted with these bodies is sound
  abbrev pub SoundIfAccepted : Type 0
  SoundIfAccepted = (d : Deployment) (t : RunTables) → IsAccepted d entries t → IsSound t (legal_of entries)

  pub tells_true_names : SoundIfAccepted → ((bytes : List ℕ) → IfOk (readied_in bytes) (λ r. HasFacts r.deployment)) → TellsTrueNames entries
  tells_true_names sound facts bytes = by (readied_in bytes) (facts bytes)
    where
      by : (found : Result Readied (List ℕ)) → IfOk found (λ r. HasFacts r.deployment)
          → IfOk found (λ r. (t : RunTables) → IsAccepted r.deployment entries t → TellsThem t (legal_of entries))
      by (Ok r) has = λ t accepted s u h history c reply a.
          let names : list_all is_name t.deployment.names ≡ true = subst (λ (d : Deployment). list_all is_name d.names ≡ true) (sym accepted.are.deployment_is) has.texts in
          true_name t.deployment.names reply names ((sound r.deployment t accepted).names s u h history c reply a)
      by (Err line) has = tt
