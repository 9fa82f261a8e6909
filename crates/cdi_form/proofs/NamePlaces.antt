-- The names of a value fit exactly where each text in the place of a name is one, and a bad name that is found stands in such a place.
use Rattle.std.proofs.Common.{◌≡◌, ◌∙◌, ℕ, Bool, true, false, cond, ◌⊎◌, inl, inr, List, Option, Some, None, option_and_then, refl, sym, ap, subst, true≢false}
use Rattle.std.specs.Option.{is_none, option_or}
use Rattle.cdi_base.specs.Name.{is_name}
use Rattle.serde_json.specs.Data.{Data, null, boolean, number, string, array, object, Items, no_items, item, Members, no_members, member}
use Rattle.cdi_form.specs.declared.form.Kind.{Kind}
use Rattle.cdi_form.specs.declared.form.Part.{Part}
use Rattle.cdi_form.specs.declared.form.Part.TheVariants as parts
use Rattle.cdi_form.specs.Form.{part_at, named_part}
use Rattle.cdi_form.specs.Keys.{kind_of}
use Rattle.cdi_form.specs.HasForm.{HasItem, HasMember}
use Rattle.cdi_form.specs.Names.{no_name, bad_text, first_bad_key, first_bad_name, bad_name_in_items, bad_name_in_members, names_fit}
use Rattle.cdi_form.specs.NamePlaces.{StandsAsName, itself, used, given, in_items, in_object}

-- ---- options

none-of : {X : Type 0} (o : Option X) → is_none o ≡ true → o ≡ None
none-of None h = refl
none-of (Some x) h = absurd cc

neither : {X : Type 0} (o p : Option X) → option_or o p ≡ None → (o ≡ None) × (p ≡ None)
neither None p e = (refl, e)
neither (Some x) p e = absurd cc

either : {X : Type 0} (o p : Option X) (x : X) → option_or o p ≡ Some x → (o ≡ Some x) ⊎ (p ≡ Some x)
either None p x e = inr e
either (Some y) p x e = inl e

record Inside {X Y : Type 0} (o : Option X) (found : X → Option Y) (y : Y) : Type 0 where
  value : X
  is : o ≡ Some value
  found_in : found value ≡ Some y

inside : {X Y : Type 0} (o : Option X) (found : X → Option Y) (y : Y) → option_and_then found o ≡ Some y → Inside o found y
inside None found y e = absurd cc
inside (Some x) found y e = record { value = x; is = refl; found_in = e }

-- ---- texts

name-of : (s : List ℕ) → no_name s ≡ None → is_name s ≡ true
name-of s e = by (is_name s) e
  where
    by : (b : Bool) → cond b None (Some s) ≡ None → b ≡ true
    by true h = refl
    by false h = absurd cc

-- a text that was found is the one that was looked at, and is no name
found-is : (t s : List ℕ) → no_name t ≡ Some s → (t ≡ s) × (is_name t ≡ false)
found-is t s e = by (is_name t) e
  where
    by : (b : Bool) → cond b None (Some t) ≡ Some s → (t ≡ s) × (b ≡ false)
    by true h = absurd cc
    by false h = (cc, refl)

-- ---- where none is found, each text in the place of a name is one

item_fits : (ds : Items) (part : Part) (d : Data) → HasItem ds d → bad_name_in_items ds part ≡ None → first_bad_name d part ≡ None
item_fits no_items part d h none = absurd h
item_fits (item x ds) part d (inl same) none = ap (λ y. first_bad_name y part) (sym same) ∙ (neither _ _ none).0
item_fits (item x ds) part d (inr h) none = item_fits ds part d h (neither _ _ none).1

member_fits : (ms : Members) (kind : Kind) (key : List ℕ) (d : Data) (inner : Part) → HasMember ms key d → part_at kind key ≡ Some inner
    → bad_name_in_members ms kind ≡ None → first_bad_name d inner ≡ None
member_fits no_members kind key d inner h at none = absurd h
member_fits (member k x ms) kind key d inner (inl same) at none =
    let found : part_at kind k ≡ Some inner = ap (part_at kind) same.0 ∙ at in
    ap (λ y. first_bad_name y inner) (sym same.1) ∙ ap (λ o. option_and_then (λ part. first_bad_name x part) o) (sym found)
    ∙ (neither _ _ none).0
member_fits (member k x ms) kind key d inner (inr h) at none = member_fits ms kind key d inner h at (neither _ _ none).1

key_fits : (ms : Members) (key : List ℕ) (d : Data) → HasMember ms key d → first_bad_key ms ≡ None → is_name key ≡ true
key_fits no_members key d h none = absurd h
key_fits (member k x ms) key d (inl same) none = ap is_name (sym same.0) ∙ name-of k (neither _ _ none).0
key_fits (member k x ms) key d (inr h) none = key_fits ms key d h (neither _ _ none).1

-- an object of a kind is looked at by its kind, and one in a use by its keys
members_fit : (part : Part) (ms : Members) (kind : Kind) → kind_of part ms ≡ Some kind → first_bad_name (object ms) part ≡ None
    → bad_name_in_members ms kind ≡ None
members_fit parts.Use ms kind of_kind none = absurd cc
members_fit part ms kind of_kind none = ap (λ o. option_and_then (λ k. bad_name_in_members ms k) o) (sym of_kind) ∙ none

is_name-of : (s : List ℕ) (part : Part) (d : Data) → StandsAsName s part d → first_bad_name d part ≡ None → is_name s ≡ true
is_name-of s part d itself none = name-of s none
is_name-of s part d used none = name-of s none
is_name-of s part d (given ms e h) none = key_fits ms s e h none
is_name-of s part d (in_items whole inner ds e at h stands) none =
    let within : bad_name_in_items ds inner ≡ None = ap (λ o. option_and_then (λ p. bad_name_in_items ds p) o) (sym at) ∙ none in
    is_name-of s inner e stands (item_fits ds inner e h within)
is_name-of s part d (in_object whole inner ms kind key e of_kind h at stands) none =
    is_name-of s inner e stands (member_fits ms kind key e inner h at (members_fit whole ms kind of_kind none))

pub is_name-of_fitting : (s : List ℕ) (part : Part) (d : Data) → StandsAsName s part d → names_fit d part ≡ true → is_name s ≡ true
is_name-of_fitting s part d stands fits = is_name-of s part d stands (none-of (first_bad_name d part) fits)

-- ---- one that is found stands in the place of a name, and is none

pub record IsBadName (s : List ℕ) (part : Part) (d : Data) : Type 0 where
  pub stands : StandsAsName s part d
  pub is_none : is_name s ≡ false

record IsBadInItems (s : List ℕ) (part : Part) (ds : Items) : Type 0 where
  inner : Data
  has : HasItem ds inner
  bad : IsBadName s part inner

record IsBadInMembers (s : List ℕ) (kind : Kind) (ms : Members) : Type 0 where
  key : List ℕ
  inner : Data
  part : Part
  has : HasMember ms key inner
  listed : part_at kind key ≡ Some part
  bad : IsBadName s part inner

record IsBadKey (s : List ℕ) (ms : Members) : Type 0 where
  inner : Data
  has : HasMember ms s inner
  is_none : is_name s ≡ false

bad_text_at : (part : Part) (t s : List ℕ) → StandsAsName t part (string t) → no_name t ≡ Some s → IsBadName s part (string t)
bad_text_at part t s stands e =
    let found = found-is t s e in
    record { stands = subst (λ u. StandsAsName u part (string t)) found.0 stands; is_none = ap is_name (sym found.0) ∙ found.1 }

bad-text : (part : Part) (t s : List ℕ) → bad_text part t ≡ Some s → IsBadName s part (string t)
bad-text parts.Name t s e = bad_text_at parts.Name t s itself e
bad-text parts.Use t s e = bad_text_at parts.Use t s used e
bad-text _ t s e = absurd cc

bad-key : (ms : Members) (s : List ℕ) → first_bad_key ms ≡ Some s → IsBadKey s ms
bad-key no_members s e = absurd cc
bad-key (member key d ms) s e =
    elim (either (no_name key) (first_bad_key ms) s e) [
      | inl here ↦
          let found = found-is key s here in
          record { inner = d; has = inl (found.0, refl); is_none = ap is_name (sym found.0) ∙ found.1 }
      | inr later ↦
          let found : IsBadKey s ms = bad-key ms s later in
          record { inner = found.inner; has = inr found.has; is_none = found.is_none }
    ]

mutual
  pub bad-name : (d : Data) (part : Part) (s : List ℕ) → first_bad_name d part ≡ Some s → IsBadName s part d
  bad-name null part s e = absurd cc
  bad-name (boolean b) part s e = absurd cc
  bad-name (number n) part s e = absurd cc
  bad-name (string t) part s e = bad-text part t s e
  bad-name (array ds) part s e =
      let at = inside (named_part part) (λ inner. bad_name_in_items ds inner) s e in
      let found : IsBadInItems s at.value ds = bad-in-items ds at.value s at.found_in in
      record { stands = in_items part at.value ds found.inner at.is found.has found.bad.stands; is_none = found.bad.is_none }
  bad-name (object ms) parts.Use s e =
      let found : IsBadKey s ms = bad-key ms s e in
      record { stands = given ms found.inner found.has; is_none = found.is_none }
  bad-name (object ms) part s e =
      let at = inside (kind_of part ms) (λ kind. bad_name_in_members ms kind) s e in
      let found : IsBadInMembers s at.value ms = bad-in-members ms at.value s at.found_in in
      record {
        stands = in_object part found.part ms at.value found.key found.inner at.is found.has found.listed found.bad.stands;
        is_none = found.bad.is_none;
      }

  bad-in-items : (ds : Items) (part : Part) (s : List ℕ) → bad_name_in_items ds part ≡ Some s → IsBadInItems s part ds
  bad-in-items no_items part s e = absurd cc
  bad-in-items (item d ds) part s e =
      elim (either (first_bad_name d part) (bad_name_in_items ds part) s e) [
        | inl here ↦ record { inner = d; has = inl refl; bad = bad-name d part s here }
        | inr later ↦
            let found : IsBadInItems s part ds = bad-in-items ds part s later in
            record { inner = found.inner; has = inr found.has; bad = found.bad }
      ]

  bad-in-members : (ms : Members) (kind : Kind) (s : List ℕ) → bad_name_in_members ms kind ≡ Some s → IsBadInMembers s kind ms
  bad-in-members no_members kind s e = absurd cc
  bad-in-members (member key d ms) kind s e =
      elim (either (option_and_then (λ part. first_bad_name d part) (part_at kind key)) (bad_name_in_members ms kind) s e) [
        | inl here ↦
            let at = inside (part_at kind key) (λ part. first_bad_name d part) s here in
            record { key = key; inner = d; part = at.value; has = inl (refl, refl); listed = at.is; bad = bad-name d at.value s at.found_in }
        | inr later ↦
            let found : IsBadInMembers s kind ms = bad-in-members ms kind s later in
            record { key = found.key; inner = found.inner; part = found.part; has = inr found.has; listed = found.listed; bad = found.bad }
      ]

-- ---- where each such text is a name, none is found

pub names_fit-of : (d : Data) (part : Part) → ((s : List ℕ) → StandsAsName s part d → is_name s ≡ true) → names_fit d part ≡ true
names_fit-of d part h = by (first_bad_name d part) refl
  where
    by : (o : Option (List ℕ)) → first_bad_name d part ≡ o → is_none o ≡ true
    by None e = refl
    by (Some s) e =
        let bad : IsBadName s part d = bad-name d part s e in
        absurd (true≢false (sym (h s bad.stands) ∙ bad.is_none))
