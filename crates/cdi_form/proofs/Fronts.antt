-- A loop over items reads them as the definitions do: what was read stands before what the others give.
use Rattle.std.proofs.Common.{◌≡◌, ◌∙◌, ℕ, List, [], ◌∷◌, ◌++◌, Option, Some, None, option_map, option_and_then, true, refl, sym, ap, append_assoc, append-nil}
use Rattle.std.specs.Option.{is_some}
use Rattle.cdi_base.specs.declared.uses.WrittenMember.{WrittenMember}
use Rattle.cdi_base.specs.declared.value.Value.{Value}
use Rattle.serde_json.specs.Data.{Data, Items, item, Members, member}
use Rattle.cdi_form.specs.ValueForms.{value_in, members_in, each_in}

module _ {X : Type 0} where
  abbrev pub with_front : List X → Option (List X) → Option (List X)
  with_front front (Some xs) = Some (front ++ xs)
  with_front front None = None

  regroup : (front : List X) (x : X) (r : Option (List X)) → with_front front (option_map (λ rest. x ∷ rest) r) ≡ with_front (front ++ x ∷ []) r
  regroup front x (Some xs) = ap Some (sym (append_assoc front (x ∷ []) xs))
  regroup front x None = refl

  pub starts : (r : Option (List X)) → with_front [] r ≡ r
  starts (Some xs) = refl
  starts None = refl

  pub is_done : (front : List X) (total : Option (List X)) → with_front front (Some []) ≡ total → total ≡ Some front
  is_done front total so_far = sym so_far ∙ ap Some (append-nil front)

  pub goes_on : (form : Data → Option X) (front : List X) (d : Data) (x : X) (ds : Items) (total : Option (List X)) → form d ≡ Some x
      → with_front front (each_in form (item d ds)) ≡ total → with_front (front ++ x ∷ []) (each_in form ds) ≡ total
  goes_on form front d x ds total found so_far =
      sym (ap (λ (o : Option X). with_front front (option_and_then (λ first. option_map (λ rest. first ∷ rest) (each_in form ds)) o)) found ∙ regroup front x (each_in form ds)) ∙ so_far

  pub ends : (form : Data → Option X) (front : List X) (d : Data) (ds : Items) (total : Option (List X)) → form d ≡ None
      → with_front front (each_in form (item d ds)) ≡ total → total ≡ None
  ends form front d ds total found so_far =
      sym so_far ∙ ap (λ (o : Option X). with_front front (option_and_then (λ first. option_map (λ rest. first ∷ rest) (each_in form ds)) o)) found

pub member_goes_on : (front : List WrittenMember) (key : List ℕ) (d : Data) (v : Value) (ms : Members) (total : Option (List WrittenMember)) → value_in d ≡ Some v
    → with_front front (members_in (member key d ms)) ≡ total → with_front (front ++ (record { name = key; value = v }) ∷ []) (members_in ms) ≡ total
member_goes_on front key d v ms total found so_far =
    sym (ap (λ (o : Option Value). with_front front (option_and_then (λ value. option_map (λ rest. (record { name = key; value = value }) ∷ rest) (members_in ms)) o)) found
    ∙ regroup front (record { name = key; value = v }) (members_in ms)) ∙ so_far

pub member_ends : (front : List WrittenMember) (key : List ℕ) (d : Data) (ms : Members) (total : Option (List WrittenMember)) → value_in d ≡ None
    → with_front front (members_in (member key d ms)) ≡ total → total ≡ None
member_ends front key d ms total found so_far =
    sym so_far ∙ ap (λ (o : Option Value). with_front front (option_and_then (λ value. option_map (λ rest. (record { name = key; value = value }) ∷ rest) (members_in ms)) o)) found

-- members are values where the first is one and the others are
pub is_some-members : (key : List ℕ) (d : Data) (ms : Members) → is_some (value_in d) ≡ true → is_some (members_in (member key d ms)) ≡ is_some (members_in ms)
is_some-members key d ms h = by (value_in d) (members_in ms) h
  where
    rest : (m : WrittenMember) (r : Option (List WrittenMember)) → is_some (option_map (λ rest. m ∷ rest) r) ≡ is_some r
    rest m (Some xs) = refl
    rest m None = refl

    by : (o : Option Value) (r : Option (List WrittenMember)) → is_some o ≡ true
        → is_some (option_and_then (λ value. option_map (λ rest. (record { name = key; value = value }) ∷ rest) r) o) ≡ is_some r
    by (Some v) r h = rest (record { name = key; value = v }) r
    by None r h = absurd cc
