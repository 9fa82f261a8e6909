-- The table of the names of a value keeps what stood in it, and has each text in the place of a name.
use Rattle.std.proofs.Common.{◌≡◌, ◌∙◌, ℕ, Bool, true, false, ◌||◌, inl, inr, List, [], ◌∷◌, ◌++◌, Option, Some, None, Ok, Err, bytes_eq, if◌then◌else◌, ◌⊎◌, subst, refl, sym, ap}
use Rattle.std.proofs.lemmas.Slice.Eq.{bytes_eq-Decides}
use Rattle.std.specs.List.{list_any}
use Rattle.cdi_base.specs.Name.{is_name, is_known, has_room, with_name}
use Rattle.cdi_base.specs.Reading.{◌>>=◌}
use Rattle.cdi_form.specs.declared.form.Kind.{Kind}
use Rattle.cdi_form.specs.declared.form.Part.{Part}
use Rattle.cdi_form.specs.declared.form.Part.TheVariants as parts
use Rattle.cdi_form.specs.Form.{part_at, named_part}
use Rattle.cdi_form.specs.Keys.{kind_of}
use Rattle.cdi_form.specs.HasForm.{HasItem, HasMember}
use Rattle.cdi_form.specs.NamePlaces.{StandsAsName, itself, used, given, in_items, in_object}
use Rattle.serde_json.specs.Data.{Data, null, boolean, number, string, array, object, Items, no_items, item, Members, no_members, member}
use Rattle.cdi_deploy.specs.declared.fault.ReadFault.{ReadFault}
use Rattle.cdi_deploy.specs.Naming.{Table, added, text_added, keys_added, added_at, names_added, items_added, members_added}

any-append : {X : Type 0} (p : X → Bool) (xs : List X) (x : X) → list_any p (xs ++ x ∷ []) ≡ (list_any p xs || p x)
any-append p [] x = by (p x)
  where
    by : (b : Bool) → (b || false) ≡ (false || b)
    by true = refl
    by false = refl
any-append p (y ∷ ys) x = by (p y) (any-append p ys x)
  where
    by : (b : Bool) → list_any p (ys ++ x ∷ []) ≡ (list_any p ys || p x) → (b || list_any p (ys ++ x ∷ [])) ≡ ((b || list_any p ys) || p x)
    by true later = refl
    by false later = later

or-left : (a b : Bool) → a ≡ true → (a || b) ≡ true
or-left true b e = refl
or-left false b e = absurd cc

or-right : (a b : Bool) → b ≡ true → (a || b) ≡ true
or-right true b e = refl
or-right false b e = e

with_name-keeps : (names : List (List ℕ)) (s t : List ℕ) → is_known names t ≡ true → is_known (with_name names s) t ≡ true
with_name-keeps names s t known = by (is_known names s)
  where
    by : (b : Bool) → is_known (if b then names else names ++ s ∷ []) t ≡ true
    by true = known
    by false = any-append (bytes_eq t) names s ∙ or-left _ _ known

with_name-knows : (names : List (List ℕ)) (s : List ℕ) → is_known (with_name names s) s ≡ true
with_name-knows names s = by (is_known names s) refl
  where
    by : (b : Bool) → is_known names s ≡ b → is_known (if b then names else names ++ s ∷ []) s ≡ true
    by true known = known
    by false new = any-append (bytes_eq s) names s ∙ or-right _ _ ((bytes_eq-Decides s s).1 refl)

-- what is so of a table and of the one after it: what stood in the first stands in the second, and so do all names of which this holds
pub record Adds (Stands : List ℕ → Type 0) (names after : List (List ℕ)) : Type 0 where
  pub keeps : (t : List ℕ) → is_known names t ≡ true → is_known after t ≡ true
  pub knows : (s : List ℕ) → Stands s → is_name s ≡ true → is_known after s ≡ true

abbrev as_table : List (List ℕ) → Table
as_table names = Ok names

-- nothing is added where nothing stands as a name
adds-none : (Stands : List ℕ → Type 0) (names after : List (List ℕ)) → ((s : List ℕ) → Stands s → ⊥) → as_table names ≡ Ok after → Adds Stands names after
adds-none Stands names after none e =
    let same : names ≡ after = cc in
    record { keeps = λ t known. ap (λ n. is_known n t) (sym same) ∙ known; knows = λ s stands. absurd (none s stands) }

added-adds : (names after : List (List ℕ)) (text : List ℕ) → added names text ≡ Ok after → Adds (λ s. s ≡ text) names after
unfolding added
added-adds names after text e = by (is_name text) (has_room names text) refl e
  where
    by : (name room : Bool) → is_name text ≡ name → (if name then (if room then Ok (with_name names text) else Err ReadFault.TooMany) else Ok names) ≡ Ok after
        → Adds (λ s. s ≡ text) names after
    by true true is h =
        let same : with_name names text ≡ after = cc in
        record {
          keeps = λ t known. ap (λ n. is_known n t) (sym same) ∙ with_name-keeps names text t known;
          knows = λ s stands name. ap (is_known after) stands ∙ ap (λ n. is_known n text) (sym same) ∙ with_name-knows names text;
        }
    by true false is h = absurd cc
    by false room is h =
        let same : names ≡ after = cc in
        record {
          keeps = λ t known. ap (λ n. is_known n t) (sym same) ∙ known;
          knows = λ s stands name. let other : is_name text ≡ true = ap is_name (sym stands) ∙ name in absurd cc;
        }

-- one step after another
adds-both : (First Second Whole : List ℕ → Type 0) (names after : List (List ℕ)) (r : Table) (next : List (List ℕ) → Table)
    → ((s : List ℕ) → Whole s → First s ⊎ Second s) → r >>= next ≡ Ok after
    → ((between : List (List ℕ)) → r ≡ Ok between → Adds First names between) → ((between : List (List ℕ)) → next between ≡ Ok after → Adds Second between after)
    → Adds Whole names after
adds-both First Second Whole names after (Err fault) next split e one two = absurd cc
adds-both First Second Whole names after (Ok between) next split e one two =
    let first = one between refl in
    let second = two between e in
    record {
      keeps = λ t known. second.keeps t (first.keeps t known);
      knows = λ s stands name. by s name first second (split s stands);
    }
  where
    by : (s : List ℕ) → is_name s ≡ true → Adds First names between → Adds Second between after → First s ⊎ Second s → is_known after s ≡ true
    by s name first second (inl h) = second.keeps s (first.knows s h name)
    by s name first second (inr h) = second.knows s h name

-- a text stands as a name in one of some items, at a key of an object of a kind, or as a key
abbrev InItems : Items → Part → List ℕ → Type 0
InItems ds part s = (d : Data) × HasItem ds d × StandsAsName s part d

abbrev InMembers : Members → Kind → List ℕ → Type 0
InMembers ms kind s = (key : List ℕ) × (d : Data) × (part : Part) × HasMember ms key d × (part_at kind key ≡ Some part) × StandsAsName s part d

abbrev IsKey : Members → List ℕ → Type 0
IsKey ms s = (d : Data) × HasMember ms s d

keys-add : (ms : Members) (names after : List (List ℕ)) → keys_added names ms ≡ Ok after → Adds (IsKey ms) names after
keys-add no_members names after e = adds-none (IsKey no_members) names after (λ s (d, h). h) e
keys-add (member key d ms) names after e =
    adds-both (λ s. s ≡ key) (IsKey ms) (IsKey (member key d ms)) names after (added names key) (λ n. keys_added n ms) split e
    (λ between h. added-adds names between key h) (λ between h. keys-add ms between after h)
  where
    split : (s : List ℕ) → IsKey (member key d ms) s → (s ≡ key) ⊎ IsKey ms s
    split s (x, inl same) = inl (sym same.0)
    split s (x, inr h) = inr (x, h)

stands-in_text : (s : List ℕ) (part : Part) (text : List ℕ) (names : List (List ℕ)) → StandsAsName s part (string text)
    → (s ≡ text) × (text_added part names text ≡ added names text)
stands-in_text s part text names itself = (refl, refl)
stands-in_text s part text names used = (refl, refl)

text-keeps : (part : Part) (text : List ℕ) (names after : List (List ℕ)) → text_added part names text ≡ Ok after
    → (t : List ℕ) → is_known names t ≡ true → is_known after t ≡ true
text-keeps parts.Name text names after e = (added-adds names after text e).keeps
text-keeps parts.Use text names after e = (added-adds names after text e).keeps
text-keeps _ text names after e = λ t known. let same : names ≡ after = cc in ap (λ n. is_known n t) (sym same) ∙ known

text-adds : (part : Part) (text : List ℕ) (names after : List (List ℕ)) → text_added part names text ≡ Ok after
    → Adds (λ s. StandsAsName s part (string text)) names after
text-adds part text names after e = record {
  keeps = text-keeps part text names after e;
  knows = λ s stands name.
      let is = stands-in_text s part text names stands in
      (added-adds names after text (sym is.1 ∙ e)).knows s is.0 name;
}

abbrev is_use : Part → Bool
is_use parts.Use = true
is_use _ = false

in-members : (part : Part) (ms : Members) (kind : Kind) → is_use part ≡ false → kind_of part ms ≡ Some kind → (s : List ℕ)
    → StandsAsName s part (object ms) → InMembers ms kind s
in-members part ms kind not_use is s (given all d h) = absurd cc
in-members part ms kind not_use is s (in_object whole inner all other key d of_kind h at stands) =
    let same : other ≡ kind = cc in
    (key, d, inner, h, ap (λ k. part_at k key) (sym same) ∙ at, stands)

no-members : (part : Part) (ms : Members) → is_use part ≡ false → kind_of part ms ≡ None → (s : List ℕ) → StandsAsName s part (object ms) → ⊥
no-members part ms not_use is s (given all d h) = absurd cc
no-members part ms not_use is s (in_object whole inner all other key d of_kind h at stands) = absurd cc

keys-of : (ms : Members) (s : List ℕ) → StandsAsName s parts.Use (object ms) → IsKey ms s
keys-of ms s (given all d h) = (d, h)
keys-of ms s (in_object whole inner all other key d of_kind h at stands) = absurd cc

in-items : (part inner : Part) (ds : Items) → named_part part ≡ Some inner → (s : List ℕ) → StandsAsName s part (array ds) → InItems ds inner s
in-items part inner ds is s (in_items whole other all d at h stands) =
    let same : other ≡ inner = cc in
    (d, h, subst (λ p. StandsAsName s p d) same stands)

no-items : (part : Part) (ds : Items) → named_part part ≡ None → (s : List ℕ) → StandsAsName s part (array ds) → ⊥
no-items part ds is s (in_items whole other all d at h stands) = absurd cc

array-adds : (part : Part) (ds : Items) (names after : List (List ℕ))
    → ((inner : Part) → items_added names ds inner ≡ Ok after → Adds (InItems ds inner) names after)
    → (o : Option Part) → named_part part ≡ o → added_at o names (λ inner. items_added names ds inner) ≡ Ok after
    → Adds (λ s. StandsAsName s part (array ds)) names after
array-adds part ds names after inside None is e = adds-none (λ s. StandsAsName s part (array ds)) names after (no-items part ds is) e
array-adds part ds names after inside (Some inner) is e =
    let one = inside inner e in
    record { keeps = one.keeps; knows = λ s stands name. one.knows s (in-items part inner ds is s stands) name }

kind-adds : (part : Part) (ms : Members) (names after : List (List ℕ)) → is_use part ≡ false
    → ((kind : Kind) → members_added names ms kind ≡ Ok after → Adds (InMembers ms kind) names after)
    → (o : Option Kind) → kind_of part ms ≡ o → added_at o names (λ kind. members_added names ms kind) ≡ Ok after
    → Adds (λ s. StandsAsName s part (object ms)) names after
kind-adds part ms names after not_use inside None is e =
    adds-none (λ s. StandsAsName s part (object ms)) names after (no-members part ms not_use is) e
kind-adds part ms names after not_use inside (Some kind) is e =
    let one = inside kind e in
    record { keeps = one.keeps; knows = λ s stands name. one.knows s (in-members part ms kind not_use is s stands) name }

object-adds : (part : Part) (ms : Members) (names after : List (List ℕ))
    → ((kind : Kind) → members_added names ms kind ≡ Ok after → Adds (InMembers ms kind) names after)
    → names_added names (object ms) part ≡ Ok after → Adds (λ s. StandsAsName s part (object ms)) names after
object-adds parts.Use ms names after inside e =
    let one = keys-add ms names after e in
    record { keeps = one.keeps; knows = λ s stands name. one.knows s (keys-of ms s stands) name }
object-adds part ms names after inside e = kind-adds part ms names after refl inside (kind_of part ms) refl e

split-items : (d : Data) (ds : Items) (part : Part) (s : List ℕ) → InItems (item d ds) part s → StandsAsName s part d ⊎ InItems ds part s
split-items d ds part s (x, inl same, stands) = inl (subst (λ y. StandsAsName s part y) (sym same) stands)
split-items d ds part s (x, inr h, stands) = inr (x, h, stands)

split-members : (key : List ℕ) (d : Data) (ms : Members) (kind : Kind) (s : List ℕ) → InMembers (member key d ms) kind s
    → ((part : Part) × (part_at kind key ≡ Some part) × StandsAsName s part d) ⊎ InMembers ms kind s
split-members key d ms kind s (k, x, part, inl same, at, stands) =
    inl (part, ap (part_at kind) same.0 ∙ at, subst (λ y. StandsAsName s part y) (sym same.1) stands)
split-members key d ms kind s (k, x, part, inr h, at, stands) = inr (k, x, part, h, at, stands)

at-part : (d : Data) (key : List ℕ) (kind : Kind) (names after : List (List ℕ))
    → ((part : Part) → names_added names d part ≡ Ok after → Adds (λ s. StandsAsName s part d) names after)
    → (o : Option Part) → part_at kind key ≡ o → added_at o names (λ part. names_added names d part) ≡ Ok after
    → Adds (λ s. (part : Part) × (part_at kind key ≡ Some part) × StandsAsName s part d) names after
at-part d key kind names after inside None is e =
    adds-none (λ s. (part : Part) × (part_at kind key ≡ Some part) × StandsAsName s part d) names after
    (λ s (part, at, stands). absurd cc) e
at-part d key kind names after inside (Some inner) is e =
    let one = inside inner e in
    record {
      keeps = one.keeps;
      knows = λ s (part, at, stands) name.
          let same : part ≡ inner = cc in
          one.knows s (subst (λ p. StandsAsName s p d) same stands) name;
    }

-- a value that is no text, array or object
abbrev is_plain : Data → Bool
is_plain null = true
is_plain (boolean b) = true
is_plain (number n) = true
is_plain _ = false

nothing-in : (d : Data) → is_plain d ≡ true → (part : Part) (s : List ℕ) → StandsAsName s part d → ⊥
nothing-in d plain part s itself = absurd cc
nothing-in d plain part s used = absurd cc
nothing-in d plain part s (given ms e h) = absurd cc
nothing-in d plain part s (in_items whole inner ds e at h stands) = absurd cc
nothing-in d plain part s (in_object whole inner ms kind key e of_kind h at stands) = absurd cc

mutual
  pub names-add : (d : Data) (part : Part) (names after : List (List ℕ)) → names_added names d part ≡ Ok after
      → Adds (λ s. StandsAsName s part d) names after
  names-add null part names after e = adds-none (λ s. StandsAsName s part null) names after (nothing-in null refl part) e
  names-add (boolean b) part names after e = adds-none (λ s. StandsAsName s part (boolean b)) names after (nothing-in (boolean b) refl part) e
  names-add (number n) part names after e = adds-none (λ s. StandsAsName s part (number n)) names after (nothing-in (number n) refl part) e
  names-add (string text) part names after e = text-adds part text names after e
  names-add (array ds) part names after e =
      array-adds part ds names after (λ inner h. items-add ds inner names after h) (named_part part) refl e
  names-add (object ms) part names after e = object-adds part ms names after (λ kind h. members-add ms kind names after h) e

  items-add : (ds : Items) (part : Part) (names after : List (List ℕ)) → items_added names ds part ≡ Ok after → Adds (InItems ds part) names after
  items-add no_items part names after e = adds-none (InItems no_items part) names after (λ s p. p.1) e
  items-add (item d ds) part names after e =
      adds-both (λ s. StandsAsName s part d) (InItems ds part) (InItems (item d ds) part) names after
      (names_added names d part) (λ n. items_added n ds part) (split-items d ds part) e
      (λ between h. names-add d part names between h) (λ between h. items-add ds part between after h)

  members-add : (ms : Members) (kind : Kind) (names after : List (List ℕ)) → members_added names ms kind ≡ Ok after
      → Adds (InMembers ms kind) names after
  members-add no_members kind names after e = adds-none (InMembers no_members kind) names after (λ s p. p.3) e
  members-add (member key d ms) kind names after e =
      adds-both (λ s. (part : Part) × (part_at kind key ≡ Some part) × StandsAsName s part d) (InMembers ms kind) (InMembers (member key d ms) kind)
      names after (added_at (part_at kind key) names (λ part. names_added names d part)) (λ n. members_added n ms kind)
      (split-members key d ms kind) e
      (λ between h. at-part d key kind names between (λ part g. names-add d part names between g) (part_at kind key) refl h)
      (λ between h. members-add ms kind between after h)
