-- The contexts after one of them changed, closed or began, looked up by their names.
use Rattle.std.proofs.Common.{ℕ, ◌≡◌, ◌≢◌, Bool, true, false, cond, not, List, [], ◌∷◌, ◌++◌, ◌⊎◌, inl, inr, Option, Some, None, refl, sym, ap, ◌∙◌, subst}
use Rattle.std.specs.Prelude.{map, option_map, bytes_eq}
use Rattle.cdi_store.specs.declared.instance.Context.{Context}
use Rattle.cdi_store.specs.declared.instance.Context.TheVariants.{Application, Request, Session}
use Rattle.cdi_contexts.specs.Named.{named, changed, without_name}
use Rattle.cdi_contexts.specs.Contexts.{Contexts, Active, OpenRequest, OpenSession, context_at, with_context, without_context, with_request, with_session, with_mark, fresh}
use Rattle.cdi_contexts.proofs.Slots.{same_bytes, own_bytes}
use Rattle.cdi_ledger.specs.Whose.{IsIn}

pub names_differ : (a b : List ℕ) → (a ≡ b) ⊎ ((bytes_eq a b ≡ false) × (a ≢ b))
names_differ a b = by (bytes_eq a b) refl
  where
    by : (c : Bool) → bytes_eq a b ≡ c → (a ≡ b) ⊎ ((bytes_eq a b ≡ false) × (a ≢ b))
    by true e = inl (same_bytes a b e)
    by false e = inr (e, λ q. let t : bytes_eq b b ≡ false = subst (λ z. bytes_eq z b ≡ false) q e in let s = own_bytes b in let r : true ≡ false = sym s ∙ t in cc)

pub context_or : (c d : Context) → (c ≡ d) ⊎ (c ≢ d)
context_or Application Application = inl refl
context_or Application (Request b) = inr (λ e. cc)
context_or Application (Session b) = inr (λ e. cc)
context_or (Request a) Application = inr (λ e. cc)
context_or (Request a) (Request b) = elim (names_differ a b) [ inl e ↦ inl (ap Request e) | inr e ↦ inr (λ q. e.1 (let t : a ≡ b = cc in t)) ]
context_or (Request a) (Session b) = inr (λ e. cc)
context_or (Session a) Application = inr (λ e. cc)
context_or (Session a) (Request b) = inr (λ e. cc)
context_or (Session a) (Session b) = elim (names_differ a b) [ inl e ↦ inl (ap Session e) | inr e ↦ inr (λ q. e.1 (let t : a ≡ b = cc in t)) ]

module _ {X : Type 0} (name_of : X → List ℕ) (f : X → X) (keeps : (x : X) → name_of (f x) ≡ name_of x) where
  pub named_own : (xs : List X) (n : List ℕ) → named name_of (changed name_of n f xs) n ≡ option_map f (named name_of xs n)
  named_own [] n = refl
  named_own (x ∷ xs) n = by (bytes_eq (name_of x) n) refl (named_own xs n)
    where
      by : (b : Bool) → bytes_eq (name_of x) n ≡ b → named name_of (changed name_of n f xs) n ≡ option_map f (named name_of xs n)
          → named name_of (cond b (f x ∷ xs) (x ∷ changed name_of n f xs)) n ≡ option_map f (cond b (Some x) (named name_of xs n))
      by true e h = ap (λ z. cond z (Some (f x)) (named name_of xs n)) (ap (λ z. bytes_eq z n) (keeps x) ∙ e)
      by false e h = ap (λ z. cond z (Some x) (named name_of (changed name_of n f xs) n)) e ∙ h

  pub named_other : (xs : List X) (n m : List ℕ) → m ≢ n → named name_of (changed name_of n f xs) m ≡ named name_of xs m
  named_other [] n m d = refl
  named_other (x ∷ xs) n m d = by (bytes_eq (name_of x) n) refl (named_other xs n m d)
    where
      by : (b : Bool) → bytes_eq (name_of x) n ≡ b → named name_of (changed name_of n f xs) m ≡ named name_of xs m
          → named name_of (cond b (f x ∷ xs) (x ∷ changed name_of n f xs)) m ≡ cond (bytes_eq (name_of x) m) (Some x) (named name_of xs m)
      by true e h =
          let s : name_of x ≡ n = same_bytes (name_of x) n e in
          elim (names_differ (name_of x) m) [
            | inl q ↦ absurd (d (sym q ∙ s))
            | inr q ↦ ap (λ z. cond z (Some (f x)) (named name_of xs m)) (ap (λ z. bytes_eq z m) (keeps x) ∙ q.0) ∙ sym (ap (λ z. cond z (Some x) (named name_of xs m)) q.0)
          ]
      by false e h = ap (cond (bytes_eq (name_of x) m) (Some x)) h

module _ {X : Type 0} (name_of : X → List ℕ) where
  named_gone : (xs : List X) (n : List ℕ) → named name_of (without_name name_of n xs) n ≡ None
  named_gone [] n = refl
  named_gone (x ∷ xs) n = by (bytes_eq (name_of x) n) refl (named_gone xs n)
    where
      by : (b : Bool) → bytes_eq (name_of x) n ≡ b → named name_of (without_name name_of n xs) n ≡ None → named name_of (cond (not b) (x ∷ without_name name_of n xs) (without_name name_of n xs)) n ≡ None
      by true e h = h
      by false e h = ap (λ z. cond z (Some x) (named name_of (without_name name_of n xs) n)) e ∙ h

  named_left : (xs : List X) (n m : List ℕ) → m ≢ n → named name_of (without_name name_of n xs) m ≡ named name_of xs m
  named_left [] n m d = refl
  named_left (x ∷ xs) n m d = by (bytes_eq (name_of x) n) refl (named_left xs n m d)
    where
      by : (b : Bool) → bytes_eq (name_of x) n ≡ b → named name_of (without_name name_of n xs) m ≡ named name_of xs m
          → named name_of (cond (not b) (x ∷ without_name name_of n xs) (without_name name_of n xs)) m ≡ cond (bytes_eq (name_of x) m) (Some x) (named name_of xs m)
      by true e h =
          let s : name_of x ≡ n = same_bytes (name_of x) n e in
          elim (names_differ (name_of x) m) [
            | inl q ↦ absurd (d (sym q ∙ s))
            | inr q ↦ h ∙ sym (ap (λ z. cond z (Some x) (named name_of xs m)) q.0)
          ]
      by false e h = ap (cond (bytes_eq (name_of x) m) (Some x)) h

-- ---- contexts

act_req : (f : Active → Active) (o : Option OpenRequest) → option_map (λ r. r.active) (option_map (λ (r : OpenRequest). record r { active = f r.active }) o) ≡ option_map f (option_map (λ r. r.active) o)
act_req f None = refl
act_req f (Some r) = refl

act_ses : (f : Active → Active) (o : Option OpenSession) → option_map (λ s. s.active) (option_map (λ (s : OpenSession). record s { active = f s.active }) o) ≡ option_map f (option_map (λ s. s.active) o)
act_ses f None = refl
act_ses f (Some r) = refl

pub context_own : (c : Context) (f : Active → Active) (cs : Contexts) → context_at (with_context c f cs) c ≡ option_map f (context_at cs c)
context_own Application f cs = refl
context_own (Request n) f cs = ap (option_map (λ r. r.active)) (named_own (λ (r : OpenRequest). r.name) (λ r. record r { active = f r.active }) (λ r. refl) cs.requests n) ∙ act_req f (named (λ r. r.name) cs.requests n)
context_own (Session n) f cs = ap (option_map (λ r. r.active)) (named_own (λ (r : OpenSession). r.name) (λ r. record r { active = f r.active }) (λ r. refl) cs.sessions n) ∙ act_ses f (named (λ r. r.name) cs.sessions n)

pub context_other : (c d : Context) (f : Active → Active) (cs : Contexts) → d ≢ c → context_at (with_context c f cs) d ≡ context_at cs d
context_other Application Application f cs e = absurd (e refl)
context_other Application (Request m) f cs e = refl
context_other Application (Session m) f cs e = refl
context_other (Request n) Application f cs e = refl
context_other (Request n) (Request m) f cs e = ap (option_map (λ r. r.active)) (named_other (λ (r : OpenRequest). r.name) (λ r. record r { active = f r.active }) (λ r. refl) cs.requests n m (λ q. e (ap Request q)))
context_other (Request n) (Session m) f cs e = refl
context_other (Session n) Application f cs e = refl
context_other (Session n) (Request m) f cs e = refl
context_other (Session n) (Session m) f cs e = ap (option_map (λ r. r.active)) (named_other (λ (r : OpenSession). r.name) (λ r. record r { active = f r.active }) (λ r. refl) cs.sessions n m (λ q. e (ap Session q)))

pub closed_own : (c : Context) (cs : Contexts) → context_at (without_context c cs) c ≡ None
closed_own Application cs = refl
closed_own (Request n) cs = ap (option_map (λ r. r.active)) (named_gone (λ (r : OpenRequest). r.name) cs.requests n)
closed_own (Session n) cs = ap (option_map (λ r. r.active)) (named_gone (λ (r : OpenSession). r.name) cs.sessions n)

pub closed_other : (c d : Context) (cs : Contexts) → d ≢ c → context_at (without_context c cs) d ≡ context_at cs d
closed_other Application Application cs e = absurd (e refl)
closed_other Application (Request m) cs e = refl
closed_other Application (Session m) cs e = refl
closed_other (Request n) Application cs e = refl
closed_other (Request n) (Request m) cs e = ap (option_map (λ r. r.active)) (named_left (λ (r : OpenRequest). r.name) cs.requests n m (λ q. e (ap Request q)))
closed_other (Request n) (Session m) cs e = refl
closed_other (Session n) Application cs e = refl
closed_other (Session n) (Request m) cs e = refl
closed_other (Session n) (Session m) cs e = ap (option_map (λ r. r.active)) (named_left (λ (r : OpenSession). r.name) cs.sessions n m (λ q. e (ap Session q)))

-- ---- contexts that begin, and marks

module _ {X : Type 0} (name_of : X → List ℕ) where
  pub named_last : (xs : List X) (x : X) (n : List ℕ) → (named name_of (xs ++ x ∷ []) n ≡ named name_of xs n) ⊎ ((named name_of xs n ≡ None) × (named name_of (xs ++ x ∷ []) n ≡ Some x))
  named_last [] x n = by (bytes_eq (name_of x) n)
    where
      by : (b : Bool) → (cond b (Some x) None ≡ None) ⊎ ((◌≡◌ {A = Option X} None None) × (cond b (Some x) None ≡ Some x))
      by true = inr (refl, refl)
      by false = inl refl
  named_last (y ∷ xs) x n = by (bytes_eq (name_of y) n) (named_last xs x n)
    where
      by : (b : Bool) → (named name_of (xs ++ x ∷ []) n ≡ named name_of xs n) ⊎ ((named name_of xs n ≡ None) × (named name_of (xs ++ x ∷ []) n ≡ Some x))
          → (cond b (Some y) (named name_of (xs ++ x ∷ []) n) ≡ cond b (Some y) (named name_of xs n)) ⊎ ((cond b (Some y) (named name_of xs n) ≡ None) × (cond b (Some y) (named name_of (xs ++ x ∷ []) n) ≡ Some x))
      by true q = inl refl
      by false q = q

  -- a name that none has, or one of theirs
  pub named_or : (xs : List X) (n : List ℕ) → (named name_of xs n ≡ None) ⊎ IsIn n (map name_of xs)
  named_or [] n = inl refl
  named_or (x ∷ xs) n = elim (names_differ (name_of x) n) [
    | inl e ↦ inr (inl e)
    | inr e ↦ elim (named_or xs n) [
      | inl q ↦ inl (ap (λ z. cond z (Some x) (named name_of xs n)) e.0 ∙ q)
      | inr q ↦ inr (inr q)
    ]
  ]

-- each context is what it was, or a fresh one where none was
abbrev pub Opens : Contexts → Contexts → Type 0
Opens a b = (c : Context) → (context_at b c ≡ context_at a c) ⊎ ((context_at a c ≡ None) × (context_at b c ≡ Some fresh))

pub request_comes : (name : List ℕ) (session : Option (List ℕ)) (c : Contexts) → Opens c (with_request name session c)
request_comes name session c Application = inl refl
request_comes name session c (Session s) = inl refl
request_comes name session c (Request r) = elim (named_last (λ (r : OpenRequest). r.name) c.requests (record { name = name; session = session; active = fresh }) r) [
  | inl e ↦ inl (ap (option_map (λ r. r.active)) e)
  | inr e ↦ inr (ap (option_map (λ r. r.active)) e.0, ap (option_map (λ r. r.active)) e.1)
]

pub session_comes : (name : List ℕ) (c : Contexts) → Opens c (with_session name c)
session_comes name c Application = inl refl
session_comes name c (Request s) = inl refl
session_comes name c (Session r) = elim (named_last (λ (r : OpenSession). r.name) c.sessions (record { name = name; is_marked = false; active = fresh }) r) [
  | inl e ↦ inl (ap (option_map (λ r. r.active)) e)
  | inr e ↦ inr (ap (option_map (λ r. r.active)) e.0, ap (option_map (λ r. r.active)) e.1)
]

-- a mark changes no context
pub marked_same : (name : List ℕ) (c : Contexts) (x : Context) → context_at (with_mark name c) x ≡ context_at c x
marked_same name c Application = refl
marked_same name c (Request r) = refl
marked_same name c (Session s) = elim (names_differ s name) [
  | inl e ↦ subst (λ z. context_at (with_mark z c) (Session s) ≡ context_at c (Session s)) e
      (ap (option_map (λ r. r.active)) (named_own (λ (r : OpenSession). r.name) (λ s. record s { is_marked = true }) (λ r. refl) c.sessions s) ∙ same (named (λ r. r.name) c.sessions s))
  | inr e ↦ ap (option_map (λ r. r.active)) (named_other (λ (r : OpenSession). r.name) (λ s. record s { is_marked = true }) (λ r. refl) c.sessions name s e.1)
]
  where
    same : (o : Option OpenSession) → option_map (λ r. r.active) (option_map (λ (s : OpenSession). record s { is_marked = true }) o) ≡ option_map (λ r. r.active) o
    same None = refl
    same (Some s) = refl
