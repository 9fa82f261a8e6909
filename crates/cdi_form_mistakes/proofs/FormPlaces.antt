-- The place of a mistake of the form is the first wrong place.
use Rattle.std.proofs.Common.{◌≡◌, ◌∙◌, ℕ, ◌+◌, Bool, true, false, not, ◌&&◌, List, [], ◌∷◌, find, Option, Some, None, cond, option_map, decimal, refl, ap, ap₂}
use Rattle.std.specs.List.{list_all}
use Rattle.std.specs.Option.{is_none, is_some, option_or}
use Rattle.serde_json.specs.Data.{Data, null, boolean, number, string, array, object, Items, no_items, item, Members, no_members, member}
use Rattle.cdi_form.specs.declared.form.Kind.{Kind}
use Rattle.cdi_form.specs.declared.form.Part.{Part}
use Rattle.cdi_form.specs.Form.{part_at, item_part}
use Rattle.cdi_form.specs.Keys.{are_listed, has_right_keys, is_met, kind_of}
use Rattle.cdi_form.specs.Shape.{may_be_null, may_be_mark, may_be_number, may_be_text, may_be_array, here_unless, or_else, wrong, wrong_items, wrong_members}
use Rattle.cdi_form.specs.Shape as shape
use Rattle.cdi_form.specs.Table.{Row, rows}
use Rattle.cdi_form_mistakes.specs.Mistake.{here, under}
use Rattle.cdi_form_mistakes.specs.FormMistake.{at_part, first_missing, first_unlisted, form_mistake, in_kind, key_mistake, kind_mistake, mistake_in_items, mistake_in_members, or_inside}
use Rattle.cdi_form_mistakes.specs.declared.mistake.FormMistake.{FormMistake}
use Rattle.cdi_form_mistakes.specs.declared.mistake.PlacedMistake.{PlacedMistake}

-- ---- keys

is_none-if : (b rest : Bool) (o : Option (List ℕ)) (key : List ℕ) → is_none o ≡ rest → is_none (cond b o (Some key)) ≡ (b && rest)
is_none-if true rest o key h = h
is_none-if false rest o key h = refl

listed-where_none : (kind : Kind) (ms : Members) → is_none (first_unlisted kind ms) ≡ are_listed kind ms
listed-where_none kind no_members = refl
listed-where_none kind (member key d ms) = is_none-if (is_some (part_at kind key)) (are_listed kind ms) (first_unlisted kind ms) key (listed-where_none kind ms)

met-where_none : (ms : Members) (table : List Row) → is_none (option_map (λ (row : Row). row.key) (find (λ row. not (is_met ms row)) table)) ≡ list_all (is_met ms) table
met-where_none ms [] = refl
met-where_none ms (row ∷ table) = by (is_met ms row) (met-where_none ms table)
  where
    found : Bool → Option Row
    found b = cond (not b) (Some row) (find (λ r. not (is_met ms r)) table)

    by : (b : Bool) → is_none (option_map (λ (r : Row). r.key) (find (λ r. not (is_met ms r)) table)) ≡ list_all (is_met ms) table
        → is_none (option_map (λ (r : Row). r.key) (found b)) ≡ (b && list_all (is_met ms) table)
    by true h = h
    by false h = refl

neither : {X Y : Type 0} (f : X → FormMistake) (g : Y → FormMistake) (o : Option X) (p : Option Y)
    → is_none (option_or (option_map f o) (option_map g p)) ≡ (is_none p && is_none o)
neither f g None None = refl
neither f g None (Some y) = refl
neither f g (Some x) None = refl
neither f g (Some x) (Some y) = refl

right-where_none : (kind : Kind) (ms : Members) → is_none (key_mistake kind ms) ≡ has_right_keys kind ms
right-where_none kind ms =
    neither _ _ (first_unlisted kind ms) (first_missing kind ms) ∙ ap₂ ◌&&◌ (met-where_none ms (rows kind)) (listed-where_none kind ms)

-- ---- places

abbrev place : Option PlacedMistake → Option (List ℕ)
place o = option_map (λ m. m.path) o

unless : (b : Bool) (m : FormMistake) → place (cond b None (Some (here m))) ≡ here_unless b
unless true m = refl
unless false m = refl

first : (step : List ℕ) (o p : Option PlacedMistake) (a b : Option (List ℕ)) → place o ≡ a → place p ≡ b → place (option_or (under step o) p) ≡ or_else (shape.under step a) b
first step None p None b here_is later = later
first step None p (Some path) b here_is later = absurd cc
first step (Some m) p None b here_is later = absurd cc
first step (Some m) p (Some path) b here_is later = ap (λ o. shape.under step o) here_is

inside : (o : Option Part) (found : Part → Option PlacedMistake) (path : Part → Option (List ℕ)) → ((part : Part) → place (found part) ≡ path part)
    → place (at_part o found) ≡ shape.at_part o path
inside None found path h = refl
inside (Some part) found path h = h part

looked_at : (k : Option FormMistake) (b : Bool) (o : Option PlacedMistake) (path : Option (List ℕ)) → is_none k ≡ b → place o ≡ path
    → place (or_inside k o) ≡ cond b path (Some [])
looked_at None true o path k_is h = h
looked_at None false o path k_is h = absurd cc
looked_at (Some m) true o path k_is h = absurd cc
looked_at (Some m) false o path k_is h = refl

of_kind : (o : Option Kind) (m : FormMistake) (found : Kind → Option PlacedMistake) (path : Kind → Option (List ℕ)) → ((kind : Kind) → place (found kind) ≡ path kind)
    → place (in_kind o m found) ≡ shape.in_kind o path
of_kind None m found path h = refl
of_kind (Some kind) m found path h = h kind

of_array : (b : Bool) (m : FormMistake) (o : Option PlacedMistake) (path : Option (List ℕ)) → place o ≡ path
    → place (cond b o (Some (here m))) ≡ cond b path (Some [])
of_array true m o path h = h
of_array false m o path h = refl

mutual
  pub form-place : (d : Data) (part : Part) → place (form_mistake d part) ≡ wrong d part
  form-place null part = unless (may_be_null part) _
  form-place (boolean b) part = unless (may_be_mark part) _
  form-place (number n) part = unless (may_be_number part n) _
  form-place (string s) part = unless (may_be_text part s) _
  form-place (array ds) part =
      of_array (may_be_array part (array ds)) _ _ _ (inside (item_part part) (λ inner. mistake_in_items ds inner 0) (λ inner. wrong_items ds inner 0) (λ inner. items-place ds inner 0))
  form-place (object ms) part =
      of_kind (kind_of part ms) (kind_mistake ms (object ms) part) (λ kind. or_inside (key_mistake kind ms) (mistake_in_members ms kind))
      (λ kind. cond (has_right_keys kind ms) (wrong_members ms kind) (Some []))
      (λ kind. looked_at (key_mistake kind ms) (has_right_keys kind ms) (mistake_in_members ms kind) (wrong_members ms kind) (right-where_none kind ms) (members-place ms kind))

  items-place : (ds : Items) (part : Part) (i : ℕ) → place (mistake_in_items ds part i) ≡ wrong_items ds part i
  items-place no_items part i = refl
  items-place (item d ds) part i =
      first (decimal i) (form_mistake d part) (mistake_in_items ds part (i + 1)) (wrong d part) (wrong_items ds part (i + 1)) (form-place d part) (items-place ds part (i + 1))

  members-place : (ms : Members) (kind : Kind) → place (mistake_in_members ms kind) ≡ wrong_members ms kind
  members-place no_members kind = refl
  members-place (member key d ms) kind =
      first key (at_part (part_at kind key) (λ part. form_mistake d part)) (mistake_in_members ms kind)
      (shape.at_part (part_at kind key) (λ part. wrong d part)) (wrong_members ms kind)
      (inside (part_at kind key) (λ part. form_mistake d part) (λ part. wrong d part) (λ part. form-place d part)) (members-place ms kind)
