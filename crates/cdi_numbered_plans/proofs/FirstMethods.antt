-- The first method of a name, by what is kept of it.
use Rattle.std.proofs.Common.{ℕ, ◌≡◌, ◌∙◌, ◌+◌, ◌<◌, length, take, get_or, ◌⊎◌, inl, inr, Bool, true, false, cond, List, [], ◌∷◌, ◌++◌, Option, Some, None, nat_eq, option_map, refl, sym, ap}
use Rattle.std.specs.Option.{option_or}
use Rattle.std.specs.List.{cons_option, find}
use Rattle.std.proofs.lemmas.Bool.{cases_eq, eq-eqb, ne_eqb}
use Rattle.std.proofs.lemmas.List.{take_more}
use Rattle.std.proofs.lemmas.List.Elements.{filter_map-append}
use Rattle.cdi_base.specs.Maps.{Map, at}
use Rattle.cdi_machine.specs.Tables as machine
use Rattle.cdi_numbered_plans.specs.Machine.{machine_method, machine_methods, method_with}
use Rattle.cdi_machine.specs.declared.member.Method.{Method}
use Rattle.cdi_method_maps.specs.NamedMethods.{method_named}
use Rattle.cdi_method_maps.specs.declared.named_method.NamedMethod.{NamedMethod}
use Rattle.cdi_numbered_plans.specs.Methods.{method_by}
use Rattle.cdi_plans.specs.declared.plan.BusinessMethod.{BusinessMethod}

at-append : {X : Type 0} (xs ys : Map X) (key : ℕ) → at (xs ++ ys) key ≡ option_or (at xs key) (at ys key)
at-append [] ys key = refl
at-append (p ∷ xs) ys key = by (at-append xs ys key) (nat_eq key p.0)
  where
    by : at (xs ++ ys) key ≡ option_or (at xs key) (at ys key) → (b : Bool) → cond b (Some p.1) (at (xs ++ ys) key) ≡ option_or (cond b (Some p.1) (at xs key)) (at ys key)
    by more true = refl
    by more false = more

map_or : {X Y : Type 0} (f : X → Y) (a b : Option X) → option_map f (option_or a b) ≡ option_or (option_map f a) (option_map f b)
map_or f None b = refl
map_or f (Some x) b = refl

or_none : {X : Type 0} (a b : Option X) → b ≡ None → a ≡ option_or a b
or_none None b e = sym e
or_none (Some x) b e = refl

module _ {M : Type 0} (kept : machine.Method → M) (ids : ℕ → Option ℕ) where
  abbrev pub found_in : List BusinessMethod → ℕ → Option M
  found_in methods name = option_map kept (at (machine_methods ids methods) name)

  -- among more methods
  found_more : (xs ys : List BusinessMethod) (name : ℕ) → found_in (xs ++ ys) name ≡ option_or (found_in xs name) (found_in ys name)
  found_more xs ys name =
      ap (λ ms. option_map kept (at ms name)) (filter_map-append (machine_method ids) xs ys)
      ∙ ap (option_map kept) (at-append (machine_methods ids xs) (machine_methods ids ys) name)
      ∙ map_or kept (at (machine_methods ids xs) name) (at (machine_methods ids ys) name)

  -- a loop looks at one method more
  pub found_next : (ms : List BusinessMethod) (i : ℕ) (m : BusinessMethod) → i < length ms → m ≡ get_or ms i m → (name : ℕ) → found_in (take (i + 1) ms) name ≡ option_or (found_in (take i ms) name) (found_in (m ∷ []) name)
  found_next ms i m lt is name = ap (λ xs. found_in xs name) (take_more ms i m lt ∙ ap (λ x. take i ms ++ x ∷ []) (sym is)) ∙ found_more (take i ms) (m ∷ []) name

  found_with : (m : BusinessMethod) (o : Option ℕ) → ids m.code.body ≡ o → (name : ℕ) → found_in (m ∷ []) name ≡ option_map kept (at (cons_option (option_map (method_with m) o) []) name)
  found_with m o e name = ap (λ x. option_map kept (at (cons_option (option_map (method_with m) x) []) name)) e

  none_of_other : (m : BusinessMethod) (o : Option ℕ) (name : ℕ) → (m.name ≡ name → ⊥) → option_map kept (at (cons_option (option_map (method_with m) o) []) name) ≡ None
  none_of_other m None name other = refl
  none_of_other m (Some body) name other = ap (λ b. option_map kept (cond b (Some (method_with m body).1) None)) (ne_eqb name m.name (λ e. other (sym e)))

-- ---- methods in a list, with their names

named_push : (name : ℕ) (xs : List NamedMethod) (y : NamedMethod) → method_named name (xs ++ y ∷ []) ≡ option_or (method_named name xs) (method_named name (y ∷ []))
named_push name [] y = refl
named_push name (x ∷ xs) y = by (named_push name xs y) (nat_eq x.name name)
  where
    by : method_named name (xs ++ y ∷ []) ≡ option_or (method_named name xs) (method_named name (y ∷ [])) → (b : Bool)
        → option_map (λ (m : NamedMethod). m.method) (cond b (Some x) (find (λ (m : NamedMethod). nat_eq m.name name) (xs ++ y ∷ [])))
        ≡ option_or (option_map (λ (m : NamedMethod). m.method) (cond b (Some x) (find (λ (m : NamedMethod). nat_eq m.name name) xs))) (method_named name (y ∷ []))
    by more true = refl
    by more false = more

module _ (ids : ℕ → Option ℕ) (named : List NamedMethod) (m : BusinessMethod) where
  -- one more, if its body is registered
  pub named_next : (body : ℕ) (method : Method) → ids m.code.body ≡ Some body → method ≡ method_by (method_with m body).1 → (name : ℕ)
      → method_named name (named ++ record { name = m.name; method = method } ∷ []) ≡ option_or (method_named name named) (found_in method_by ids (m ∷ []) name)
  named_next body method e is name =
      named_push name named (record { name = m.name; method = method })
      ∙ ap (option_or (method_named name named)) (ap (λ (k : Method). method_named name (record { name = m.name; method = k } ∷ [])) is ∙ by (cases_eq m.name name) ∙ sym (found_with method_by ids m (Some body) e name))
    where
      made : Method
      made = method_by (method_with m body).1

      by : (m.name ≡ name) ⊎ (m.name ≡ name → ⊥) → method_named name (record { name = m.name; method = made } ∷ []) ≡ option_map method_by (cond (nat_eq name m.name) (Some (method_with m body).1) None)
      by (inl same) =
          ap (λ b. option_map (λ (k : NamedMethod). k.method) (cond b (Some (record { name = m.name; method = made })) None)) (eq-eqb m.name name same)
          ∙ sym (ap (λ b. option_map method_by (cond b (Some (method_with m body).1) None)) (eq-eqb name m.name (sym same)))
      by (inr other) =
          ap (λ b. option_map (λ (k : NamedMethod). k.method) (cond b (Some (record { name = m.name; method = made })) None)) (ne_eqb m.name name other)
          ∙ sym (ap (λ b. option_map method_by (cond b (Some (method_with m body).1) None)) (ne_eqb name m.name (λ e. other (sym e))))

  -- one whose body isn't registered is passed over
  pub not_named : ids m.code.body ≡ None → (name : ℕ) → method_named name named ≡ option_or (method_named name named) (found_in method_by ids (m ∷ []) name)
  not_named e name = or_none (method_named name named) (found_in method_by ids (m ∷ []) name) (found_with method_by ids m None e name)
