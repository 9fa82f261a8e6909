-- The name that is found is the first that is none.
use Rattle.std.proofs.Common.{◌≡◌, ℕ, ◌+◌, List, Option, Some, None, option_map, option_and_then, decimal, refl}
use Rattle.std.specs.Option.{option_or}
use Rattle.serde_json.specs.Data.{Data, null, boolean, number, string, array, object, Items, no_items, item, Members, no_members, member}
use Rattle.cdi_form.specs.declared.form.Kind.{Kind}
use Rattle.cdi_form.specs.declared.form.Part.{Part}
use Rattle.cdi_form.specs.declared.form.Part.TheVariants as parts
use Rattle.cdi_form.specs.Form.{part_at, named_part}
use Rattle.cdi_form.specs.Keys.{kind_of}
use Rattle.cdi_form.specs.Names.{bad_text, first_bad_key, first_bad_name, bad_name_in_items, bad_name_in_members}
use Rattle.cdi_form_mistakes.specs.Mistake.{under}
use Rattle.cdi_form_mistakes.specs.NameMistake.{no_name, name_mistake, name_in_items, name_in_members}
use Rattle.cdi_form_mistakes.specs.declared.mistake.FormMistake.{FormMistake}
use Rattle.cdi_form_mistakes.specs.declared.mistake.FormMistake.TheVariants as mistakes
use Rattle.cdi_form_mistakes.specs.declared.mistake.PlacedMistake.{PlacedMistake}

abbrev mistake : Option PlacedMistake → Option FormMistake
mistake o = option_map (λ m. m.mistake) o

-- the same text is found
abbrev Finds : Option PlacedMistake → Option (List ℕ) → Type 0
Finds o text = mistake o ≡ option_map mistakes.NoName text

itself : (text : Option (List ℕ)) → Finds (no_name text) text
itself None = refl
itself (Some s) = refl

first : (step : List ℕ) (o p : Option PlacedMistake) (s t : Option (List ℕ)) → Finds o s → Finds p t → Finds (option_or (under step o) p) (option_or s t)
first step None p None t here later = later
first step None p (Some s) t here later = absurd cc
first step (Some m) p None t here later = absurd cc
first step (Some m) p (Some s) t here later = here

inside : {X : Type 0} (o : Option X) (found : X → Option PlacedMistake) (text : X → Option (List ℕ)) → ((x : X) → Finds (found x) (text x))
    → Finds (option_and_then found o) (option_and_then text o)
inside None found text h = refl
inside (Some x) found text h = h x

mutual
  pub name-found : (d : Data) (part : Part) → Finds (name_mistake d part) (first_bad_name d part)
  name-found null part = refl
  name-found (boolean b) part = refl
  name-found (number n) part = refl
  name-found (string s) part = itself (bad_text part s)
  name-found (array ds) part = inside (named_part part) _ _ (λ inner. found-in-items ds inner 0)
  name-found (object ms) parts.Use = itself (first_bad_key ms)
  name-found (object ms) part = inside (kind_of part ms) _ _ (λ kind. found-in-members ms kind)

  found-in-items : (ds : Items) (part : Part) (i : ℕ) → Finds (name_in_items ds part i) (bad_name_in_items ds part)
  found-in-items no_items part i = refl
  found-in-items (item d ds) part i =
      first (decimal i) (name_mistake d part) (name_in_items ds part (i + 1)) _ _ (name-found d part) (found-in-items ds part (i + 1))

  found-in-members : (ms : Members) (kind : Kind) → Finds (name_in_members ms kind) (bad_name_in_members ms kind)
  found-in-members no_members kind = refl
  found-in-members (member key d ms) kind =
      first key _ (name_in_members ms kind) _ _ (inside (part_at kind key) (λ part. name_mistake d part) (λ part. first_bad_name d part) (λ part. name-found d part))
      (found-in-members ms kind)
