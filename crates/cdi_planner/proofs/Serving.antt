-- One member more that may be a disposer which serves a producer.
use Rattle.std.proofs.Common.{◌≡◌, ◌∙◌, ℕ, ◌+◌, ◌<◌, List, [], ◌∷◌, ◌++◌, length, take, get_or, refl, sym, ap, subst}
use Rattle.std.proofs.lemmas.List.Elements.{filter_map-append}
use Rattle.std.specs.List.{filter_map}
use Rattle.cdi_bean_rules.specs.Disposers.{Disposes}
use Rattle.cdi_beans.proofs.Adding.{next_of}
use Rattle.cdi_plans.specs.Chains.{ChainTables}
use Rattle.cdi_deployment.specs.declared.deployment.Class.{Class}
use Rattle.cdi_deployment.specs.declared.deployment.Disposer.{Disposer}
use Rattle.cdi_deployment.specs.declared.deployment.Member.{Member}
use Rattle.cdi_deployment.specs.declared.deployment.Member.TheVariants as members
use Rattle.cdi_quals.specs.declared.types.QualifierType.{QualifierType}
use Rattle.cdi_types.specs.ListsThose.{ListsThose}
use Rattle.cdi_types.proofs.Listings.{keep_last, skip_last}
use Rattle.cdi_types.specs.declared.declaration.TypeDeclaration.{TypeDeclaration}
use Rattle.cdi_planner.specs.Codes.{injected_method}
use Rattle.cdi_planner.specs.Products.{AreDisposersOf, disposer_method}
use Rattle.cdi_plans.specs.declared.plan.InjectedMethod.{InjectedMethod}

module _ (types : List TypeDeclaration) (qualifiers : List QualifierType) (t : ChainTables) (c : Class) (producer : Member) where
  pub none_yet : AreDisposersOf types qualifiers t c producer [] []
  none_yet = record { serving = []; serve = ListsThose.none; are = refl }

  module _ (ms : List Member) (i : ℕ) (m : Member) (lt : i < length ms) (is : m ≡ get_or ms i m) (found : List InjectedMethod) where
    next : take i ms ++ m ∷ [] ≡ take (i + 1) ms
    next = next_of (λ ys. ys) (λ a b. refl) ms i m lt is

    pub serves : (d : Disposer) (new : List InjectedMethod) → Disposes types qualifiers m producer → m ≡ members.Disposer d
        → new ≡ found ++ injected_method t c.name c d.name d.body d.params ∷ []
        → AreDisposersOf types qualifiers t c producer (take i ms) found → AreDisposersOf types qualifiers t c producer (take (i + 1) ms) new
    serves d new p disposes grown so_far =
        let P : List Member → Type 0 = λ ys. ListsThose (λ k. Disposes types qualifiers k producer) ys (so_far.serving ++ m ∷ []) in
        let method = injected_method t c.name c d.name d.body d.params in
        record {
          serving = so_far.serving ++ m ∷ [];
          serve = subst P next (keep_last m so_far.serve p);
          are = grown ∙ ap (λ ds. ds ++ method ∷ []) so_far.are
              ∙ ap (λ k. filter_map (disposer_method t c) so_far.serving ++ filter_map (disposer_method t c) (k ∷ [])) (sym disposes)
              ∙ sym (filter_map-append (disposer_method t c) so_far.serving (m ∷ []));
        }

    pub passes_over : ¬ Disposes types qualifiers m producer
        → AreDisposersOf types qualifiers t c producer (take i ms) found → AreDisposersOf types qualifiers t c producer (take (i + 1) ms) found
    passes_over p so_far =
        let P : List Member → Type 0 = λ ys. ListsThose (λ k. Disposes types qualifiers k producer) ys so_far.serving in
        record { serving = so_far.serving; serve = subst P next (skip_last m so_far.serve p); are = so_far.are }
