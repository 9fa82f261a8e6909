-- What holds of each instance that any context has for a bean, and what the changes of contexts leave of that.
use Rattle.std.proofs.Common.{ℕ, ◌≢◌, inl, inr, List, Option, Some, None, sym, subst}
use Rattle.std.specs.Prelude.{option_map}
use Rattle.cdi_contexts.specs.Contexts.{Active, Contexts, context_at, with_context, without_context, with_mark, with_request, with_session}
use Rattle.cdi_store.specs.declared.instance.Context.{Context}
use Rattle.cdi_ledger.proofs.Holdings.{AllHeld, all_held_map}
use Rattle.cdi_ledger.proofs.Places.{Opens, context_or, context_own, context_other, closed_own, closed_other, request_comes, session_comes, marked_same}

pub record AllContexts (P : Context → ℕ → ℕ → Type 0) (c : Contexts) : Type 0 where
  pub holds : (k : Context) → AllHeld (P k) (context_at c k)

pub held_at : (P : Context → ℕ → ℕ → Type 0) (c : Contexts) (k : Context) → AllContexts P c → AllHeld (P k) (context_at c k)
held_at P c k h = h.holds k

pub contexts_map : (P Q : Context → ℕ → ℕ → Type 0) (c : Contexts) → ((k : Context) (b n : ℕ) → P k b n → Q k b n) → AllContexts P c → AllContexts Q c
contexts_map P Q c f h = record { holds = λ k. all_held_map (P k) (Q k) (context_at c k) (f k) (h.holds k) }

-- a context changes, and what holds of the others
pub context_changed : (P Q : Context → ℕ → ℕ → Type 0) (c : Contexts) (k : Context) (f : Active → Active) → ((j : Context) (b n : ℕ) → j ≢ k → P j b n → Q j b n) → ((a : Active) → AllHeld (P k) (Some a) → AllHeld (Q k) (Some (f a))) → AllContexts P c → AllContexts Q (with_context k f c)
context_changed P Q c k f m g h = record {
  holds = λ j. elim (context_or j k) [
    | inl e ↦ subst (λ z. AllHeld (Q z) (context_at (with_context k f c) z)) (sym e) (subst (AllHeld (Q k)) (sym (context_own k f c)) (own (context_at c k) (h.holds k)))
    | inr d ↦ subst (AllHeld (Q j)) (sym (context_other k j f c d)) (all_held_map (P j) (Q j) (context_at c j) (λ b n q. m j b n d q) (h.holds j))
  ];
}
  where
    own : (a : Option Active) → AllHeld (P k) a → AllHeld (Q k) (option_map f a)
    own None q = tt
    own (Some a) q = g a q

-- a context closes
pub context_gone : (P : Context → ℕ → ℕ → Type 0) (c : Contexts) (k : Context) → AllContexts P c → AllContexts P (without_context k c)
context_gone P c k h = record {
  holds = λ j. elim (context_or j k) [
    | inl e ↦ subst (λ z. AllHeld (P z) (context_at (without_context k c) z)) (sym e) (subst (AllHeld (P k)) (sym (closed_own k c)) tt)
    | inr d ↦ subst (AllHeld (P j)) (sym (closed_other k j c d)) (h.holds j)
  ];
}

-- a session is marked
pub context_marked : (P : Context → ℕ → ℕ → Type 0) (c : Contexts) (name : List ℕ) → AllContexts P c → AllContexts P (with_mark name c)
context_marked P c name h = record { holds = λ j. subst (AllHeld (P j)) (sym (marked_same name c j)) (h.holds j) }

-- a context begins
opened : (P : Context → ℕ → ℕ → Type 0) (c d : Contexts) → Opens c d → AllContexts P c → AllContexts P d
opened P c d q h = record {
  holds = λ j. elim (q j) [
    | inl e ↦ subst (AllHeld (P j)) (sym e) (h.holds j)
    | inr e ↦ subst (AllHeld (P j)) (sym e.1) tt
  ];
}

pub context_requested : (P : Context → ℕ → ℕ → Type 0) (c : Contexts) (name : List ℕ) (session : Option (List ℕ)) → AllContexts P c → AllContexts P (with_request name session c)
context_requested P c name session h = opened P c (with_request name session c) (request_comes name session c) h

pub context_sessioned : (P : Context → ℕ → ℕ → Type 0) (c : Contexts) (name : List ℕ) → AllContexts P c → AllContexts P (with_session name c)
context_sessioned P c name h = opened P c (with_session name c) (session_comes name c) h
