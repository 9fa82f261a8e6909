-- One member more that a disposer may serve.
use Rattle.std.proofs.Common.{◌≡◌, ◌∙◌, ℕ, ◌+◌, ◌<◌, List, [], ◌∷◌, ◌++◌, length, take, get_or, refl, sym, ap, subst}
use Rattle.std.proofs.lemmas.List.{map-append}
use Rattle.cdi_deployment.specs.declared.deployment.Disposer.{Disposer}
use Rattle.cdi_deployment.specs.declared.deployment.Member.{Member}
use Rattle.cdi_deployment.specs.Member.{member_name}
use Rattle.cdi_quals.specs.declared.types.QualifierType.{QualifierType}
use Rattle.cdi_types.specs.ListsThose.{ListsThose}
use Rattle.cdi_types.proofs.Listings.{keep_last, skip_last}
use Rattle.cdi_types.specs.declared.declaration.TypeDeclaration.{TypeDeclaration}
use Rattle.cdi_bean_rules.specs.Disposers.{Serves}
use Rattle.cdi_beans.specs.DisposerMethods.{AreServed}
use Rattle.cdi_beans.proofs.Adding.{next_of}

module _ (types : List TypeDeclaration) (qualifiers : List QualifierType) (m : Disposer) (ms : List Member) (i : ℕ) (x : Member) (lt : i < length ms) (is : x ≡ get_or ms i x) where
  next : take i ms ++ x ∷ [] ≡ take (i + 1) ms
  next = next_of (λ ys. ys) (λ a b. refl) ms i x lt is

  pub serves_next : (names new : List ℕ) → Serves types qualifiers m x → new ≡ names ++ member_name x ∷ [] → AreServed types qualifiers m (take i ms) names → AreServed types qualifiers m (take (i + 1) ms) new
  serves_next names new p grown so_far =
      let P : List Member → Type 0 = λ ys. ListsThose (Serves types qualifiers m) ys (so_far.producers ++ x ∷ []) in
      record {
        producers = so_far.producers ++ x ∷ [];
        served = subst P next (keep_last x so_far.served p);
        are = grown ∙ ap (λ ns. ns ++ member_name x ∷ []) so_far.are ∙ sym (map-append member_name so_far.producers (x ∷ []));
      }

  pub passes_next : (names : List ℕ) → ¬ Serves types qualifiers m x → AreServed types qualifiers m (take i ms) names → AreServed types qualifiers m (take (i + 1) ms) names
  passes_next names p so_far =
      let P : List Member → Type 0 = λ ys. ListsThose (Serves types qualifiers m) ys so_far.producers in
      record {
        producers = so_far.producers;
        served = subst P next (skip_last x so_far.served p);
        are = so_far.are;
      }
