-- What stands at the keys and in the lists of a value of the right form, all of whose names stand in a table.
use Rattle.std.proofs.Common.{◌≡◌, ◌∙◌, ℕ, ◌+◌, ◌<◌, Bool, true, false, cond, not, ◌&&◌, ◌||◌, inl, inr, List, [], ◌∷◌, length, map, find, Option, Some, None, option_map, option_and_then, IfSome, if◌then◌else◌, bytes_eq, Ordering, Less, Equal, Greater, is_eq, nat_cmp, refl, sym, ap, arith}
use Rattle.std.proofs.lemmas.List.Elements.{All-cons, All-nil}
use Rattle.std.proofs.lemmas.Map.Text.{is_eq-slice_cmp}
use Rattle.std.proofs.lemmas.Slice.Eq.{bytes_eq-Decides}
use Rattle.std.specs.Cmp.Lexicographic.{slice_cmp}
use Rattle.std.specs.List.{All, list_all, list_any, position_or_len}
use Rattle.std.specs.Option.{is_some, unwrap_or}
use Rattle.std.specs.Ordering.{match_ordering}
use Rattle.cdi_base.specs.declared.uses.WrittenMember.{WrittenMember}
use Rattle.cdi_base.specs.declared.uses.WrittenUse.{WrittenUse}
use Rattle.cdi_base.specs.declared.value.Value.{Value}
use Rattle.cdi_base.specs.Name.{is_known, number_of}
use Rattle.cdi_form.specs.declared.form.Kind.{Kind}
use Rattle.cdi_form.specs.declared.form.Part.{Part}
use Rattle.cdi_form.specs.declared.form.Part.TheVariants as parts
use Rattle.cdi_form.specs.Table.{Row, rows, required}
use Rattle.cdi_form.specs.Form.{row_in, part_at, item_part, named_part}
use Rattle.cdi_form.specs.Keys.{is_met, has_right_keys}
use Rattle.cdi_form.specs.HasForm.{HasItem, HasMember}
use Rattle.cdi_form.specs.NamePlaces.{StandsAsName, itself, used, given, in_items, in_object}
use Rattle.cdi_form.specs.Shape.{here_unless, or_else, under, at_part, wrong, wrong_items, wrong_members}
use Rattle.cdi_form.specs.ValueForms.{members_in, value_in}
use Rattle.serde_json.specs.Data.{Data, null, boolean, number, string, array, object, Items, no_items, item, Members, no_members, member}
use Rattle.serde_json.specs.Find.{get, get_member}
use Rattle.cdi_deploy.specs.Items.{each, name_in, names_in, member_value, nameless, numbered, use_in_table}
use Rattle.cdi_deployment.specs.KnownNames.{AreKnown, KnowsUse}
use Rattle.cdi_deploy.specs.Parts.{text_of, list_of}

-- ---- tests and places

pub both : (a b : Bool) → (a && b) ≡ true → (a ≡ true) × (b ≡ true)
both true b e = (refl, e)
both false b e = absurd cc

under_none : (step : List ℕ) (o : Option (List ℕ)) → under step o ≡ None → o ≡ None
under_none step None e = refl
under_none step (Some path) e = absurd cc

first_none : (a b : Option (List ℕ)) → or_else a b ≡ None → (a ≡ None) × (b ≡ None)
first_none None b e = (refl, e)
first_none (Some path) b e = absurd cc

position-within : {X : Type 0} (p : X → Bool) (xs : List X) → list_any p xs ≡ true → position_or_len p xs < length xs
position-within p [] h = absurd cc
position-within p (x ∷ xs) h = by (p x) (position-within p xs) h
  where
    by : (b : Bool) → (list_any p xs ≡ true → position_or_len p xs < length xs) → (b || list_any p xs) ≡ true
        → cond (not b) (1 + position_or_len p xs) 0 < length (x ∷ xs)
    by true later h = omega arith
    by false later h = let rest = later h in omega arith

-- what is found passes what all pass
pub found-passes : {X : Type 0} (p q : X → Bool) (xs : List X) (x : X) → list_all p xs ≡ true → find q xs ≡ Some x → p x ≡ true
found-passes p q [] x all found = absurd cc
found-passes {X} p q (y ∷ ys) x all found = by (q y) found (found-passes p q ys x (both _ _ all).1)
  where
    by : (b : Bool) → cond b (Some y) (find q ys) ≡ Some x → (find q ys ≡ Some x → p x ≡ true) → p x ≡ true
    by true e later = let same : y ≡ x = cc in ap p (sym same) ∙ (both _ _ all).0
    by false e later = later e

-- a key is found where it stands
key-of : (k l : List ℕ) (o : Ordering) → slice_cmp nat_cmp k l ≡ o → o ≡ Equal → l ≡ k
key-of k l o is equal = sym ((bytes_eq-Decides k l).0 (sym (is_eq-slice_cmp k l) ∙ ap is_eq (is ∙ equal)))

found-stands : (key : List ℕ) (ms : Members) (d : Data) → get_member key ms ≡ Some d → HasMember ms key d
found-stands key no_members d found = absurd cc
found-stands key (member l e ms) d found = by (slice_cmp nat_cmp key l) refl found (λ h. found-stands key ms d h)
  where
    by : (o : Ordering) → slice_cmp nat_cmp key l ≡ o → match_ordering o (get_member key ms) (Some e) (get_member key ms) ≡ Some d
        → (get_member key ms ≡ Some d → HasMember ms key d) → HasMember (member l e ms) key d
    by Less is h later = inr (later h)
    by Equal is h later = let same : e ≡ d = cc in inl (key-of key l Equal is refl, same)
    by Greater is h later = inr (later h)

-- ---- what is covered by a table

module _ (names : List (List ℕ)) where
  -- a value is of the form of a part, and each text in the place of a name stands in the table
  pub record Covers (part : Part) (d : Data) : Type 0 where
    pub right : wrong d part ≡ None
    pub known : (s : List ℕ) → StandsAsName s part d → is_known names s ≡ true

  pub number-below : (s : List ℕ) → is_known names s ≡ true → number_of names s < length names
  number-below s known = position-within (bytes_eq s) names known

  pub knows-name : (d : Data) → Covers parts.Name d → name_in names d < length names
  knows-name (string s) c = number-below s (c.known s itself)
  knows-name null c = let e = c.right in absurd cc
  knows-name (boolean b) c = let e = c.right in absurd cc
  knows-name (number n) c = let e = c.right in absurd cc
  knows-name (array ds) c = let e = c.right in absurd cc
  knows-name (object ms) c = let e = c.right in absurd cc

  -- ---- lists

  named-of : (part inner : Part) → item_part part ≡ Some inner → named_part part ≡ Some inner
  named-of parts.Use inner at = absurd cc
  named-of part inner at = at

  items-right : (part inner : Part) (ds : Items) → item_part part ≡ Some inner → wrong (array ds) part ≡ None → wrong_items ds inner 0 ≡ None
  items-right parts.Names inner ds at e = cc
  items-right parts.Uses inner ds at e = cc
  items-right parts.SomeUses inner no_items at e = refl
  items-right parts.SomeUses inner (item d ds) at e = cc
  items-right (parts.Objects kind) inner ds at e = cc
  items-right parts.Members inner ds at e = cc
  items-right _ inner ds at e = absurd cc

  module _ {X : Type 0} (P : X → Type 0) (f : Data → X) (inner : Part) (one : (d : Data) → Covers inner d → P (f d)) where
    knows-each : (ds : Items) (i : ℕ) → wrong_items ds inner i ≡ None
        → ((s : List ℕ) (d : Data) → HasItem ds d → StandsAsName s inner d → is_known names s ≡ true) → All P (each f ds)
    knows-each no_items i e known = All-nil P
    knows-each (item d ds) i e known =
        All-cons P (f d) (each f ds)
        (one d (record { right = under_none _ _ (first_none _ _ e).0; known = λ s stands. known s d (inl refl) stands }))
        (knows-each ds (i + 1) (first_none _ _ e).1 (λ s x h stands. known s x (inr h) stands))

    pub knows-list : (part : Part) → item_part part ≡ Some inner → (d : Data) → Covers part d → All P (each f (list_of (Some d)))
    knows-list part at (array ds) c =
        knows-each ds 0 (items-right part inner ds at c.right) (λ s d h stands. c.known s (in_items part inner ds d (named-of part inner at) h stands))
    knows-list part at _ c = All-nil P

  pub knows-names : (d : Data) → Covers parts.Names d → AreKnown (length names) (names_in names d)
  knows-names = knows-list (λ n. n < length names) (name_in names) parts.Name knows-name parts.Names refl

  -- ---- keys

  -- what stands at the key of a row is covered; where nothing does, the row asks for nothing
  abbrev pub AtKey : Row → Option Data → Type 0
  AtKey row None = not row.is_required ≡ true
  AtKey row (Some d) = Covers row.part d

  member-right : (kind : Kind) (ms : Members) (key : List ℕ) (d : Data) (part : Part) → wrong_members ms kind ≡ None → HasMember ms key d
      → part_at kind key ≡ Some part → wrong d part ≡ None
  member-right kind no_members key d part e h at = absurd h
  member-right kind (member k x ms) key d part e (inl same) at =
      let here : at_part (part_at kind k) (λ p. wrong x p) ≡ None = under_none _ _ (first_none _ _ e).0 in
      let found : part_at kind k ≡ Some part = ap (part_at kind) same.0 ∙ at in
      ap (λ y. wrong y part) (sym same.1) ∙ ap (λ o. at_part o (λ p. wrong x p)) (sym found) ∙ here
  member-right kind (member k x ms) key d part e (inr h) at = member-right kind ms key d part (first_none _ _ e).1 h at

  keys-right : (b : Bool) (o : Option (List ℕ)) → (if b then o else Some []) ≡ None → (b ≡ true) × (o ≡ None)
  keys-right true o e = (refl, e)
  keys-right false o e = absurd cc

  module _ (kind : Kind) (row : Row) (found : row_in (rows kind) row.key ≡ Some row) where
    at-key : (ms : Members) → Covers (parts.Object kind) (object ms) → (o : Option Data) → get_member row.key ms ≡ o → AtKey row o
    at-key ms c None at =
        let keys = keys-right (has_right_keys kind ms) _ c.right in
        let met : is_met ms row ≡ true = found-passes (is_met ms) (λ r. bytes_eq r.key row.key) (rows kind) row (both _ _ keys.0).0 found in
        by row.is_required (ap (λ o. not row.is_required || is_some o) (sym at) ∙ met)
      where
        by : (b : Bool) → (not b || false) ≡ true → not b ≡ true
        by true e = e
        by false e = refl
    at-key ms c (Some d) at =
        let keys = keys-right (has_right_keys kind ms) _ c.right in
        let stands : HasMember ms row.key d = found-stands row.key ms d at in
        let part : part_at kind row.key ≡ Some row.part = ap (option_map (λ r. r.part)) found in
        record {
          right = member-right kind ms row.key d row.part keys.1 stands part;
          known = λ s names_it. c.known s (in_object (parts.Object kind) row.part ms kind row.key d refl stands part names_it);
        }

    -- of an object of a kind
    pub covers-key : (d : Data) → Covers (parts.Object kind) d → AtKey row (get row.key d)
    covers-key (object ms) c = at-key ms c (get_member row.key ms) refl
    covers-key null c = let e = c.right in absurd cc
    covers-key (boolean b) c = let e = c.right in absurd cc
    covers-key (number n) c = let e = c.right in absurd cc
    covers-key (string s) c = let e = c.right in absurd cc
    covers-key (array ds) c = let e = c.right in absurd cc

  -- ---- what is read at a key

  pub name-known : (key : List ℕ) (o : Option Data) → AtKey (required key parts.Name) o → number_of names (text_of o) < length names
  name-known key None c = absurd cc
  name-known key (Some d) c = knows-name d c

  module _ {X : Type 0} (P : X → Type 0) (f : Data → X) where
    pub maybe-known : (row : Row) → ((d : Data) → Covers row.part d → P (f d)) → (o : Option Data) → AtKey row o → IfSome (option_map f o) P
    maybe-known row one None c = tt
    maybe-known row one (Some d) c = one d c

    pub list-known : (inner : Part) → ((d : Data) → Covers inner d → P (f d)) → (row : Row) → item_part row.part ≡ Some inner → (o : Option Data) → AtKey row o
        → All P (each f (list_of o))
    list-known inner one row at None c = All-nil P
    list-known inner one row at (Some d) c = knows-list P f inner one row.part at d c

  -- ---- uses

  abbrev IsKnownMember : WrittenMember → Type 0
  IsKnownMember m = is_known names m.name ≡ true

  members-known : (ms : Members) → ((key : List ℕ) (d : Data) → HasMember ms key d → is_known names key ≡ true) → (ws : List WrittenMember)
      → members_in ms ≡ Some ws → All (λ m. m.name < length names) (map (member_value names) ws)
  members-known no_members known ws is = by ws is
    where
      by : (ws : List WrittenMember) → Some [] ≡ Some ws → All (λ m. m.name < length names) (map (member_value names) ws)
      by [] e = All-nil _
      by (w ∷ more) e = absurd cc
  members-known (member key d ms) known ws is =
      by (value_in d) (members_in ms) is (members-known ms (λ k x h. known k x (inr h)))
    where
      by : (v : Option Value) (rest : Option (List WrittenMember))
          → option_and_then (λ value. option_map (λ others. (record { name = key; value = value }) ∷ others) rest) v ≡ Some ws
          → ((others : List WrittenMember) → rest ≡ Some others → All (λ m. m.name < length names) (map (member_value names) others))
          → All (λ m. m.name < length names) (map (member_value names) ws)
      by None rest e later = absurd cc
      by (Some value) None e later = absurd cc
      by (Some value) (Some others) e later =
          let first : WrittenMember = record { name = key; value = value } in
          let is : first ∷ others ≡ ws = cc in
          rw (← is)
          (All-cons (λ m. m.name < length names) (member_value names first) (map (member_value names) others)
          (number-below key (known key d (inl (refl, refl)))) (later others refl))

  abbrev use_of : List ℕ → List WrittenMember → WrittenUse
  use_of s members = record { name = s; members = members }

  array-known : (ds : Items) → wrong (array ds) parts.Use ≡ None
      → ((s : List ℕ) → StandsAsName s parts.Use (array ds) → is_known names s ≡ true) → KnowsUse (length names) (use_in_table names (array ds))
  array-known no_items e known = absurd cc
  array-known (item a no_items) e known = absurd cc
  array-known (item (string s) (item (object ms) no_items)) e known = by (members_in ms) refl e
    where
      by : (o : Option (List WrittenMember)) → members_in ms ≡ o
          → here_unless (is_some (option_map (λ members. use_of s members) o)) ≡ None
          → KnowsUse (length names) (numbered names (unwrap_or (option_map (λ members. use_of s members) o) nameless))
      by None is wrong_here = absurd cc
      by (Some members) is right_here = (
        number-below s (known s (in_items parts.Use parts.Use (item (string s) (item (object ms) no_items)) (string s) refl (inl refl) used)),
        members-known ms
            (λ key d h. known key (in_items parts.Use parts.Use (item (string s) (item (object ms) no_items)) (object ms) refl (inr (inl refl)) (given ms d h)))
            members is,
      )
  array-known (item (string s) (item null no_items)) e known = absurd cc
  array-known (item (string s) (item (boolean b) no_items)) e known = absurd cc
  array-known (item (string s) (item (number n) no_items)) e known = absurd cc
  array-known (item (string s) (item (string t) no_items)) e known = absurd cc
  array-known (item (string s) (item (array es) no_items)) e known = absurd cc
  array-known (item null (item d no_items)) e known = absurd cc
  array-known (item (boolean b) (item d no_items)) e known = absurd cc
  array-known (item (number n) (item d no_items)) e known = absurd cc
  array-known (item (array es) (item d no_items)) e known = absurd cc
  array-known (item (object es) (item d no_items)) e known = absurd cc
  array-known (item a (item b (item c ds))) e known = absurd cc

  pub knows-use : (d : Data) → Covers parts.Use d → KnowsUse (length names) (use_in_table names d)
  knows-use (string s) c = (number-below s (c.known s used), All-nil _)
  knows-use (array ds) c = array-known ds c.right c.known
  knows-use null c = let e = c.right in absurd cc
  knows-use (boolean b) c = let e = c.right in absurd cc
  knows-use (number n) c = let e = c.right in absurd cc
  knows-use (object ms) c = let e = c.right in absurd cc
