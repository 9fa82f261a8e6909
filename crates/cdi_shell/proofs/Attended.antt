-- What is said of serving a responder holds of what stands for it.
use Rattle.std.proofs.Common.{ℕ, List, ap, Option}
use Rattle.std.specs.Prelude.{Result}
use Rattle.cdi_lines.specs.declared.fault.ServeFault.{ServeFault}
use Rattle.cdi_lines.proofs.Mapped.{serves}
use Rattle.cdi_container.specs.Sessions.{Served}

module _ {S T : Type 0} (A : S → List ℕ → List ℕ → S → Type 0) (B : T → List ℕ → List ℕ → T → Type 0) (f : S → T) (Keeps : S → Type 0)
    (keeps : (s : S) (line text : List ℕ) (t : S) → Keeps s → A s line text t → Keeps t)
    (maps : (s : S) (line text : List ℕ) (t : S) → Keeps s → A s line text t → B (f s) line text (f t)) where
  pub attended : (limit : ℕ) (greeting : List ℕ) (s t : S) (a b c d : Option (List ℕ)) → Keeps s → (result : Result (Unit {0}) ServeFault)
      → Served limit A greeting s t a b c d result → Served limit B greeting (f s) (f t) a b c d result
  attended limit greeting s t a b c d k _ (Served.silent same unread held) = Served.silent (ap f same) unread held
  attended limit greeting s t a b c d k result (Served.serves h) = Served.serves (serves A B f Keeps keeps maps limit greeting s t result a b c d k h)
