-- No entry has a float.
use Rattle.std.proofs.Common.{◌≡◌, ◌||◌, ℕ, List, [], ◌∷◌, map, fold, false, Bool, Option, Some, None, refl}
use Rattle.std.proofs.lemmas.Bool.{or_from, or_parts}
use Rattle.std.specs.Ordering.{match_ordering, nat_cmp}
use Rattle.std.specs.Cmp.Lexicographic.{slice_cmp}
use Rattle.std.specs.declared.cmp.Ordering.{Ordering}
use Rattle.std.specs.declared.cmp.Ordering.TheVariants as orderings
use Rattle.cdi_base.specs.declared.act.Act.{Act}
use Rattle.cdi_base.specs.declared.act.Act.TheVariants as acts
use Rattle.cdi_base.specs.declared.act.Via.{Via}
use Rattle.cdi_base.specs.declared.act.Via.TheVariants as vias
use Rattle.cdi_base.specs.declared.entry.Entry.{Entry}
use Rattle.cdi_base.specs.declared.entry.Entry.TheVariants as entries
use Rattle.cdi_base.specs.declared.uses.MemberValue.{MemberValue}
use Rattle.cdi_base.specs.declared.uses.Use.{Use}
use Rattle.cdi_base.specs.declared.value.Value.{Value}
use Rattle.cdi_problems.specs.Places.{name_text}
use Rattle.serde_json.specs.Data.{Data, Members, member, no_members, put}
use Rattle.serde_json.specs.View.{items_of}
use Rattle.serde_json.specs.Written.{has_float, items_have_float, members_have_float}
use Rattle.cdi_text.specs.EntryText.{act_data, entry_data, members_data, proceed_data, use_data, use_with, uses_data, values_data, via_data}
use Rattle.cdi_text.specs.ReplyText.{value_data}
use Rattle.cdi_text.proofs.NoFloats.{no_float_in_value}

no_float_in_values : (values : List Value) → items_have_float (items_of (map value_data values)) ≡ false
no_float_in_values [] = refl
no_float_in_values (v ∷ vs) = or_from (has_float (value_data v)) (items_have_float (items_of (map value_data vs))) (no_float_in_value v) (no_float_in_values vs)

-- a member more
no_float_put : (k : List ℕ) (d : Data) (ms : Members) → has_float d ≡ false → members_have_float ms ≡ false → members_have_float (put k d ms) ≡ false
no_float_put k d no_members e f = or_from (has_float d) false e refl
no_float_put k d (member l x ms) e f = by (no_float_put k d ms e) (slice_cmp nat_cmp k l)
  where
    x_none : has_float x ≡ false
    x_none = (or_parts (has_float x) (members_have_float ms) f).0

    more_none : members_have_float ms ≡ false
    more_none = (or_parts (has_float x) (members_have_float ms) f).1

    by : (members_have_float ms ≡ false → members_have_float (put k d ms) ≡ false) → (o : Ordering) → members_have_float (match_ordering o (member k d (member l x ms)) (member l d ms) (member l x (put k d ms))) ≡ false
    by rest orderings.Less = or_from (has_float d) (members_have_float (member l x ms)) e f
    by rest orderings.Equal = or_from (has_float d) (members_have_float ms) e more_none
    by rest orderings.Greater = or_from (has_float x) (members_have_float (put k d ms)) x_none (rest more_none)

module _ (names : List (List ℕ)) where
  no_float_in_members : (members : List MemberValue) (so_far : Members) → members_have_float so_far ≡ false
      → members_have_float (fold (λ k (m : MemberValue). put (name_text names m.name) (value_data m.value) k) so_far members) ≡ false
  no_float_in_members [] so_far e = e
  no_float_in_members (m ∷ ms) so_far e =
      no_float_in_members ms (put (name_text names m.name) (value_data m.value) so_far)
      (no_float_put (name_text names m.name) (value_data m.value) so_far (no_float_in_value m.value) e)

  no_float_with : (name : ℕ) (members : List MemberValue) → has_float (use_with names name members) ≡ false
  no_float_with name [] = refl
  no_float_with name (m ∷ ms) = or_from (members_have_float (members_data names (m ∷ ms))) false (no_float_in_members (m ∷ ms) no_members refl) refl

  no_float_in_uses : (uses : List Use) → items_have_float (items_of (map (use_data names) uses)) ≡ false
  no_float_in_uses [] = refl
  no_float_in_uses (u ∷ us) = or_from (has_float (use_data names u)) (items_have_float (items_of (map (use_data names) us))) (no_float_with u.name u.members) (no_float_in_uses us)

  no_float_in_via : (via : Via) → has_float (via_data names via) ≡ false
  no_float_in_via (vias.Field field) = refl
  no_float_in_via (vias.Param k) = refl
  no_float_in_via (vias.Local k) = refl

  no_float_in_proceed : (args : Option (List Value)) → has_float (proceed_data args) ≡ false
  no_float_in_proceed None = refl
  no_float_in_proceed (Some args) = rw (no_float_in_values args) refl

  no_float_in_act : (act : Act) → has_float (act_data names act) ≡ false
  no_float_in_act (acts.Set field value) = rw (no_float_in_value value) refl
  no_float_in_act (acts.Call via method args) = rw (no_float_in_via via, no_float_in_values args) refl
  no_float_in_act (acts.Own method args) = rw (no_float_in_values args) refl
  no_float_in_act (acts.Read via) = rw (no_float_in_via via) refl
  no_float_in_act (acts.Write via value) = rw (no_float_in_via via, no_float_in_value value) refl
  no_float_in_act (acts.Fire class qualifiers value) = rw (no_float_in_uses qualifiers, no_float_in_value value) refl
  no_float_in_act (acts.Proceed args) = no_float_in_proceed args
  no_float_in_act (acts.Find lookup) = refl
  no_float_in_act (acts.Keep key value) = rw (no_float_in_value value) refl
  no_float_in_act (acts.Peek key) = refl
  no_float_in_act (acts.Destroy local) = refl
  no_float_in_act (acts.Give value) = rw (no_float_in_value value) refl
  no_float_in_act (acts.Throw exception) = refl

  pub no_float_in_entry : (entry : Entry) → has_float (entry_data names entry) ≡ false
  no_float_in_entry (entries.New number bean) = refl
  no_float_in_entry (entries.Ready number) = refl
  no_float_in_entry (entries.Drop number) = refl
  no_float_in_entry (entries.Run number place) = refl
  no_float_in_entry (entries.Did act) = rw (no_float_in_act act) refl
  no_float_in_entry (entries.Pick count choice) = refl
  no_float_in_entry (entries.Event class qualifiers) = rw (no_float_in_uses qualifiers) refl
  no_float_in_entry (entries.End number) = refl
  no_float_in_entry (entries.Gone number) = refl
