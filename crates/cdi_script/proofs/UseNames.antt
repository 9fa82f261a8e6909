-- The names of a use are names exactly if the texts are at the places where names are due.
use Rattle.std.proofs.Common.{◌≡◌, sym, ap, refl, ℕ, ◌&&◌, Bool, true, false, true≢false, is_some, List, ◌∷◌, Option, Some, None, option_map}
use Rattle.std.proofs.Math.Bool.{and-true}
use Rattle.std.specs.List.{list_all}
use Rattle.std.specs.Option.{option_map_or, option_and_then}
use Rattle.cdi_base.specs.Name.{is_name}
use Rattle.cdi_base.specs.Uses.{has_name, has_names}
use Rattle.cdi_base.specs.declared.uses.WrittenMember.{WrittenMember}
use Rattle.cdi_base.specs.declared.uses.WrittenUse.{WrittenUse}
use Rattle.cdi_base.specs.declared.value.Value.{Value}
use Rattle.cdi_form.specs.ValueForms.{use_in, members_in, value_in}
use Rattle.serde_json.specs.Data.{Data, null, boolean, number, string, array, object, no_items, item, Members, no_members, member}
use Rattle.cdi_script.specs.Qualifier.{has_named_keys, has_use_names}

nothing : {A : Type 0} → false ≡ true → A
nothing h = absurd (true≢false (sym h))

abbrev are_named : Option (List WrittenMember) → Bool
are_named read = option_map_or (list_all has_name) read false

one_more : (key : List ℕ) (b : Bool) (value : Option Value) (others : Option (List WrittenMember)) → (is_some others ≡ true → b ≡ are_named others)
    → is_some (option_and_then (λ v. option_map (λ rest. (record { name = key; value = v }) ∷ rest) others) value) ≡ true
    → (is_name key && b) ≡ are_named (option_and_then (λ v. option_map (λ rest. (record { name = key; value = v }) ∷ rest) others) value)
one_more key b None others so_far h = nothing h
one_more key b (Some v) None so_far h = nothing h
one_more key b (Some v) (Some rest) so_far h = ap (λ x. is_name key && x) (so_far refl)

named_members : (ms : Members) → is_some (members_in ms) ≡ true → has_named_keys ms ≡ are_named (members_in ms)
named_members no_members h = refl
named_members (member key d ms) h = one_more key (has_named_keys ms) (value_in d) (members_in ms) (named_members ms) h

with_members : (text : List ℕ) (b : Bool) (members : Option (List WrittenMember)) → (is_some members ≡ true → b ≡ are_named members)
    → is_some (option_map (λ ms. let written : WrittenUse = record { name = text; members = ms } in written) members) ≡ true
    → (is_name text && b) ≡ option_map_or has_names (option_map (λ ms. let written : WrittenUse = record { name = text; members = ms } in written) members) false
with_members text b None named h = nothing h
with_members text b (Some ms) named h = ap (λ x. is_name text && x) (named refl)

pub named_use : (d : Data) → is_some (use_in d) ≡ true → has_use_names d ≡ option_map_or has_names (use_in d) false
named_use null h = nothing h
named_use (boolean b) h = nothing h
named_use (number n) h = nothing h
named_use (object ms) h = nothing h
named_use (string text) h = sym (and-true (is_name text))
named_use (array no_items) h = nothing h
named_use (array (item name no_items)) h = nothing h
named_use (array (item name (item members (item d ds)))) h = nothing h
named_use (array (item (string text) (item (object ms) no_items))) h = with_members text (has_named_keys ms) (members_in ms) (named_members ms) h
named_use (array (item (string text) (item null no_items))) h = nothing h
named_use (array (item (string text) (item (boolean b) no_items))) h = nothing h
named_use (array (item (string text) (item (number n) no_items))) h = nothing h
named_use (array (item (string text) (item (string s) no_items))) h = nothing h
named_use (array (item (string text) (item (array ds) no_items))) h = nothing h
named_use (array (item null (item members no_items))) h = nothing h
named_use (array (item (boolean b) (item members no_items))) h = nothing h
named_use (array (item (number n) (item members no_items))) h = nothing h
named_use (array (item (array ds) (item members no_items))) h = nothing h
named_use (array (item (object ms) (item members no_items))) h = nothing h
