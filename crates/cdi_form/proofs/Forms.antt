-- No place of a value is wrong exactly where the value is of the form that is wanted.
use Rattle.std.proofs.Common.{◌≡◌, ◌∙◌, ℕ, ◌+◌, ◌&&◌, inl, inr, Bool, true, false, List, [], Option, Some, None, option_and_then, codes, if◌then◌else◌, refl, sym, ap, ap₂, subst}
use Rattle.std.proofs.lemmas.Bool.{eqb-true, leb-true, le-leb}
use Rattle.std.proofs.lemmas.List.Sums.{AllPass-from_list_all, list_all-from_AllPass}
use Rattle.std.specs.Option.{is_some}
use Rattle.cdi_form.specs.ValueForms.{use_in}
use Rattle.serde_json.specs.Data.{Num, unsigned, negative, float, Data, null, boolean, number, string, array, object, Items, no_items, item, Members, no_members, member}
use Rattle.serde_json.specs.Find.{as_str, get_member}
use Rattle.cdi_form.specs.declared.form.Kind.{Kind}
use Rattle.cdi_form.specs.declared.form.Part.{Part}
use Rattle.cdi_form.specs.declared.form.Part.TheVariants as parts
use Rattle.cdi_form.specs.Table.{rows}
use Rattle.cdi_form.specs.Form.{part_at, item_part}
use Rattle.cdi_form.specs.Keys.{kind_of, are_listed, has_right_keys}
use Rattle.cdi_form.specs.Words.{member_kind}
use Rattle.cdi_form.specs.HasForm.{HasItem, HasMember, HasRequired, AreListed, IsLongEnough, HasForm, one, name, null_value, number_value, text_value, count, mark, whole_number, scope, kind_text, a_use, steps, a_list, an_object, a_member}
use Rattle.cdi_form.specs.Shape.{here_unless, under, or_else, in_kind, at_part, wrong, wrong_items, wrong_members}

pub both : (a b : Bool) → (a && b) ≡ true → (a ≡ true) × (b ≡ true)
both true b e = (refl, e)
both false b e = absurd cc

passes : (b : Bool) → here_unless b ≡ None → b ≡ true
passes true e = refl
passes false e = absurd cc

under_none : (step : List ℕ) (o : Option (List ℕ)) → under step o ≡ None → o ≡ None
under_none step None e = refl
under_none step (Some path) e = absurd cc

first_none : (a b : Option (List ℕ)) → or_else a b ≡ None → (a ≡ None) × (b ≡ None)
first_none None b e = (refl, e)
first_none (Some path) b e = absurd cc

-- ---- keys

listed-all : (kind : Kind) (ms : Members) → are_listed kind ms ≡ true → AreListed kind ms
listed-all kind no_members e key d h = absurd h
listed-all kind (member k x ms) e key d (inl same) = ap (λ w. is_some (part_at kind w)) (sym same.0) ∙ (both _ _ e).0
listed-all kind (member k x ms) e key d (inr h) = listed-all kind ms (both _ _ e).1 key d h

all-listed : (kind : Kind) (ms : Members) → AreListed kind ms → are_listed kind ms ≡ true
all-listed kind no_members h = refl
all-listed kind (member k x ms) h = ap₂ (λ a b. a && b) (h k x (inl (refl, refl))) (all-listed kind ms (λ key d m. h key d (inr m)))

-- ---- from no wrong place to the form

null_form : (part : Part) → wrong null part ≡ None → HasForm part null
null_form parts.Value e = null_value
null_form _ e = absurd cc

mark_form : (part : Part) (b : Bool) → wrong (boolean b) part ≡ None → HasForm part (boolean b)
mark_form parts.Mark b e = mark b
mark_form _ b e = absurd cc

number_form : (part : Part) (n : Num) → wrong (number n) part ≡ None → HasForm part (number n)
number_form parts.Value n e = number_value n
number_form parts.WholeNumber n e = whole_number n
number_form parts.FormNumber (unsigned n) e =
    subst (λ k. HasForm parts.FormNumber (number (unsigned k))) (sym (eqb-true n 1 (passes _ e))) one
number_form parts.FormNumber (negative z) e = absurd cc
number_form parts.FormNumber (float x) e = absurd cc
number_form parts.ArgumentCount (unsigned n) e = count n (leb-true n 8 (passes _ e))
number_form parts.ArgumentCount (negative z) e = absurd cc
number_form parts.ArgumentCount (float x) e = absurd cc
number_form _ n e = absurd cc

text_form : (part : Part) (s : List ℕ) → wrong (string s) part ≡ None → HasForm part (string s)
text_form parts.Name s e = name s
text_form parts.Value s e = text_value s
text_form parts.Scope s e = scope s (passes _ e)
text_form parts.MemberKind s e = kind_text s
text_form parts.Use s e = a_use (string s) refl
text_form _ s e = absurd cc

array_form : (part : Part) (ds : Items) → ((inner : Part) → wrong_items ds inner 0 ≡ None → (d : Data) → HasItem ds d → HasForm inner d)
    → wrong (array ds) part ≡ None → HasForm part (array ds)
array_form parts.Names ds inside e = a_list parts.Names parts.Name ds refl tt (inside parts.Name e)
array_form parts.Uses ds inside e = a_list parts.Uses parts.Use ds refl tt (inside parts.Use e)
array_form parts.SomeUses no_items inside e = absurd cc
array_form parts.SomeUses (item d ds) inside e = a_list parts.SomeUses parts.Use (item d ds) refl tt (inside parts.Use e)
array_form (parts.Objects kind) ds inside e = a_list (parts.Objects kind) (parts.Object kind) ds refl tt (inside (parts.Object kind) e)
array_form parts.Members ds inside e = a_list parts.Members parts.Member ds refl tt (inside parts.Member e)
array_form parts.Steps ds inside e = steps ds
array_form parts.Use ds inside e = a_use (array ds) (passes (is_some (use_in (array ds))) e)
array_form _ ds inside e = absurd cc

-- the members of an object of a kind have the forms of their parts
abbrev HasForms : Kind → Members → Type 0
HasForms kind ms = (key : List ℕ) (d : Data) (part : Part) → HasMember ms key d → part_at kind key ≡ Some part → HasForm part d

-- what is looked at in an object of a kind
abbrev looked_at : Members → Kind → Option (List ℕ)
looked_at ms kind = if has_right_keys kind ms then wrong_members ms kind else Some []

keys_form : (kind : Kind) (ms : Members) → (wrong_members ms kind ≡ None → HasForms kind ms) → (b : Bool) → has_right_keys kind ms ≡ b
    → (if b then wrong_members ms kind else Some []) ≡ None → HasForm (parts.Object kind) (object ms)
keys_form kind ms inside true right e =
    let keys = both _ _ right in
    an_object kind ms (AllPass-from_list_all _ (rows kind) keys.0) (listed-all kind ms keys.1) (inside e)
keys_form kind ms inside false right e = absurd cc

kind_form : (ms : Members) → ((kind : Kind) → wrong_members ms kind ≡ None → HasForms kind ms) → (word : List ℕ)
    → get_member (codes "kind") ms ≡ Some (string word) → (o : Option Kind) → member_kind word ≡ o → in_kind o (looked_at ms) ≡ None
    → HasForm parts.Member (object ms)
kind_form ms inside word at None names e = absurd cc
kind_form ms inside word at (Some kind) names e =
    a_member kind ms (word, at, names) (keys_form kind ms (inside kind) (has_right_keys kind ms) refl e)

member_form : (ms : Members) → ((kind : Kind) → wrong_members ms kind ≡ None → HasForms kind ms) → (o : Option Data)
    → get_member (codes "kind") ms ≡ o → in_kind (option_and_then member_kind (option_and_then as_str o)) (looked_at ms) ≡ None
    → HasForm parts.Member (object ms)
member_form ms inside None at e = absurd cc
member_form ms inside (Some (string word)) at e = kind_form ms inside word at (member_kind word) refl e
member_form ms inside (Some d) at e = absurd cc

object_form : (part : Part) (ms : Members) → ((kind : Kind) → wrong_members ms kind ≡ None → HasForms kind ms)
    → wrong (object ms) part ≡ None → HasForm part (object ms)
object_form (parts.Object kind) ms inside e = keys_form kind ms (inside kind) (has_right_keys kind ms) refl e
object_form parts.Member ms inside e = member_form ms inside (get_member (codes "kind") ms) refl e
object_form _ ms inside e = absurd cc

mutual
  pub form-of : (d : Data) (part : Part) → wrong d part ≡ None → HasForm part d
  form-of null part e = null_form part e
  form-of (boolean b) part e = mark_form part b e
  form-of (number n) part e = number_form part n e
  form-of (string s) part e = text_form part s e
  form-of (array ds) part e = array_form part ds (λ inner none. forms-of_items ds inner 0 none) e
  form-of (object ms) part e = object_form part ms (λ kind none. forms-of_members ms kind none) e

  forms-of_items : (ds : Items) (part : Part) (i : ℕ) → wrong_items ds part i ≡ None → (d : Data) → HasItem ds d → HasForm part d
  forms-of_items no_items part i e d h = absurd h
  forms-of_items (item x ds) part i e d (inl same) =
      subst (HasForm part) same (form-of x part (under_none _ _ (first_none _ _ e).0))
  forms-of_items (item x ds) part i e d (inr h) = forms-of_items ds part (i + 1) (first_none _ _ e).1 d h

  forms-of_members : (ms : Members) (kind : Kind) → wrong_members ms kind ≡ None
      → (key : List ℕ) (d : Data) (part : Part) → HasMember ms key d → part_at kind key ≡ Some part → HasForm part d
  forms-of_members no_members kind e key d part h at = absurd h
  forms-of_members (member k x ms) kind e key d part (inl same) at =
      let here : at_part (part_at kind k) (λ p. wrong x p) ≡ None = under_none _ _ (first_none _ _ e).0 in
      let found : part_at kind k ≡ Some part = ap (part_at kind) same.0 ∙ at in
      let right : wrong x part ≡ None = ap (λ o. at_part o (λ p. wrong x p)) (sym found) ∙ here in
      subst (HasForm part) same.1 (form-of x part right)
  forms-of_members (member k x ms) kind e key d part (inr h) at = forms-of_members ms kind (first_none _ _ e).1 key d part h at

-- ---- from the form to no wrong place

items_right : (ds : Items) (part : Part) (i : ℕ) → ((d : Data) → HasItem ds d → wrong d part ≡ None) → wrong_items ds part i ≡ None
items_right no_items part i h = refl
items_right (item x ds) part i h =
    ap₂ or_else (ap (under _) (h x (inl refl))) (items_right ds part (i + 1) (λ d m. h d (inr m)))

at_right : (d : Data) (o : Option Part) → ((part : Part) → o ≡ Some part → wrong d part ≡ None) → at_part o (λ part. wrong d part) ≡ None
at_right d None h = refl
at_right d (Some part) h = h part refl

members_right : (ms : Members) (kind : Kind)
    → ((key : List ℕ) (d : Data) (part : Part) → HasMember ms key d → part_at kind key ≡ Some part → wrong d part ≡ None)
    → wrong_members ms kind ≡ None
members_right no_members kind h = refl
members_right (member k x ms) kind h =
    ap₂ or_else (ap (under k) (at_right x (part_at kind k) (λ part at. h k x part (inl (refl, refl)) at)))
    (members_right ms kind (λ key d part m at. h key d part (inr m) at))

object_right : (kind : Kind) (ms : Members) → HasRequired kind ms → AreListed kind ms → wrong_members ms kind ≡ None
    → looked_at ms kind ≡ None
object_right kind ms all listed inside =
    let right : has_right_keys kind ms ≡ true =
    ap₂ (λ a b. a && b) (list_all-from_AllPass _ (rows kind) all) (all-listed kind ms listed) in
    ap (λ b. if b then wrong_members ms kind else Some []) right ∙ inside

array_right : (part inner : Part) (ds : Items) → item_part part ≡ Some inner → IsLongEnough part ds → wrong_items ds inner 0 ≡ None
    → wrong (array ds) part ≡ None
array_right parts.Names inner ds at long none = cc
array_right parts.Uses inner ds at long none = cc
array_right parts.SomeUses inner no_items at long none = absurd long
array_right parts.SomeUses inner (item d ds) at long none = cc
array_right (parts.Objects kind) inner ds at long none = cc
array_right parts.Members inner ds at long none = cc
array_right _ inner ds at long none = absurd cc

use_right : (d : Data) → is_some (use_in d) ≡ true → wrong d parts.Use ≡ None
use_right (string s) h = refl
use_right (array ds) h = ap here_unless h
use_right _ h = absurd cc

pub nothing_wrong : (part : Part) (d : Data) → HasForm part d → wrong d part ≡ None
nothing_wrong part d one = refl
nothing_wrong part d (name s) = refl
nothing_wrong part d null_value = refl
nothing_wrong part d (number_value n) = refl
nothing_wrong part d (text_value s) = refl
nothing_wrong part d (count n h) = ap here_unless (le-leb n 8 h)
nothing_wrong part d (mark b) = refl
nothing_wrong part d (whole_number n) = refl
nothing_wrong part d (scope s h) = ap here_unless h
nothing_wrong part d (kind_text s) = refl
nothing_wrong part d (a_use e h) = use_right e h
nothing_wrong part d (steps ds) = refl
nothing_wrong part d (a_list whole inner ds at long inside) =
    array_right whole inner ds at long (items_right ds inner 0 (λ e m. nothing_wrong inner e (inside e m)))
nothing_wrong part d (an_object kind ms all listed inside) =
    object_right kind ms all listed (members_right ms kind (λ key e p m at. nothing_wrong p e (inside key e p m at)))
nothing_wrong part d (a_member kind ms named f) =
    let found : kind_of parts.Member ms ≡ Some kind =
    ap (λ o. option_and_then member_kind (option_and_then as_str o)) named.1 ∙ named.2 in
    ap (λ o. in_kind o (looked_at ms)) found ∙ nothing_wrong (parts.Object kind) (object ms) f
