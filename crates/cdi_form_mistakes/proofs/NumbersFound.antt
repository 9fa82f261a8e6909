-- A number is found exactly where the numbers of a value don't fit.
use Rattle.std.proofs.Common.{◌≡◌, ◌∙◌, ℕ, ◌+◌, Bool, true, false, ◌&&◌, List, Option, Some, None, cond, decimal, refl, ap₂}
use Rattle.std.specs.Option.{is_none, is_some, option_or}
use Rattle.serde_json.specs.Data.{Data, null, boolean, number, string, array, object, Items, no_items, item, Members, no_members, member}
use Rattle.serde_json.specs.Find.{as_i64}
use Rattle.cdi_form.specs.Numbers.{numbers_fit, items_fit, members_fit}
use Rattle.cdi_form_mistakes.specs.Mistake.{under}
use Rattle.cdi_form_mistakes.specs.NumberMistake.{number_mistake, number_in_items, number_in_members}
use Rattle.cdi_form_mistakes.specs.declared.mistake.PlacedMistake.{PlacedMistake}

unless : (b : Bool) (m : PlacedMistake) → is_none (cond b None (Some m)) ≡ b
unless true m = refl
unless false m = refl

neither : (step : List ℕ) (o p : Option PlacedMistake) → is_none (option_or (under step o) p) ≡ (is_none o && is_none p)
neither step None p = refl
neither step (Some m) p = refl

mutual
  pub number-found : (d : Data) → is_none (number_mistake d) ≡ numbers_fit d
  number-found null = refl
  number-found (boolean b) = refl
  number-found (number n) = unless (is_some (as_i64 n)) _
  number-found (string s) = refl
  number-found (array ds) = found-in-items ds 0
  number-found (object ms) = found-in-members ms

  found-in-items : (ds : Items) (i : ℕ) → is_none (number_in_items ds i) ≡ items_fit ds
  found-in-items no_items i = refl
  found-in-items (item d ds) i =
      neither (decimal i) (number_mistake d) (number_in_items ds (i + 1)) ∙ ap₂ ◌&&◌ (number-found d) (found-in-items ds (i + 1))

  found-in-members : (ms : Members) → is_none (number_in_members ms) ≡ members_fit ms
  found-in-members no_members = refl
  found-in-members (member key d ms) =
      neither key (number_mistake d) (number_in_members ms) ∙ ap₂ ◌&&◌ (number-found d) (found-in-members ms)
