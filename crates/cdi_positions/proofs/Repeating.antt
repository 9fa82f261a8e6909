-- A key is found to stand twice exactly where an object has no unique keys.
use Rattle.std.proofs.Common.{◌≡◌, ◌≢◌, ◌↔◌, ◌∙◌, ◌||◌, ℕ, zero, suc, Bool, true, false, List, [], ◌∷◌, ◌++◌, All, append_assoc, append-nil, bytes_eq, is_some, Option, Some, None, if◌then◌else◌, true≢false, refl, sym, ap, arith}
use Rattle.std.proofs.lemmas.Bool.{false_from_ne_true}
use Rattle.std.proofs.lemmas.List.Folds.{list_any-append}
use Rattle.std.proofs.lemmas.List.Kept.{AllPairs-cons}
use Rattle.std.proofs.lemmas.Slice.Eq.{bytes_eq-Decides}
use Rattle.std.specs.Option.{option_or}
use Rattle.std.specs.Str.{is_utf8}
use Rattle.json.proofs.Unique.Spelling.{tokens-document}
use Rattle.json.specs.Json.{Json, document, null, boolean, number, string, array, object, Items, no_items, item, Members, no_members, member}
use Rattle.json.specs.Strict.{AreDistinct, HasUniqueKeys, ItemsHaveUniqueKeys, MembersHaveUniqueKeys, keys}
use Rattle.json.specs.Token.{Token}
use Rattle.json.specs.Tree.{json_tokens, items_tokens, members_tokens}
use Rattle.cdi_positions.specs.RepeatedKey.{Objects, is_among, repeated_in, repeated_key}

-- ---- keys one after the other

-- each is new behind those before it
abbrev AreNew : List (List ℕ) → List (List ℕ) → Type 0
AreNew before [] = Unit {0}
AreNew before (key ∷ keys) = (is_among before key ≡ false) × AreNew (before ++ key ∷ []) keys

-- none is among these
abbrev AreAbsent : List (List ℕ) → List (List ℕ) → Type 0
AreAbsent before [] = Unit {0}
AreAbsent before (key ∷ keys) = (is_among before key ≡ false) × AreAbsent before keys

none-absent : (keys : List (List ℕ)) → AreAbsent [] keys
none-absent [] = tt
none-absent (key ∷ keys) = (refl, none-absent keys)

-- another key than each of these
abbrev Differs : List ℕ → List (List ℕ) → Type 0
Differs key [] = Unit {0}
Differs key (other ∷ others) = (bytes_eq other key ≡ false) × Differs key others

other-bytes : (s t : List ℕ) → s ≢ t → bytes_eq s t ≡ false
other-bytes s t other = false_from_ne_true _ (λ same. other ((bytes_eq-Decides s t).0 same))

no-bytes : (s t : List ℕ) → bytes_eq s t ≡ false → s ≢ t
no-bytes s t other same = true≢false (sym ((bytes_eq-Decides s t).1 same) ∙ other)

differs-from : (key : List ℕ) (others : List (List ℕ)) → All (λ other. key ≢ other) others → Differs key others
differs-from key [] all = tt
differs-from key (other ∷ others) all = (other-bytes other key (λ same. all 0 [] (omega arith) (sym same)), differs-from key others (λ k d within. all (suc k) d (omega arith)))

all-from : (key : List ℕ) (others : List (List ℕ)) → Differs key others → All (λ other. key ≢ other) others
all-from key [] differs k d within = absurd (omega arith)
all-from key (other ∷ others) differs zero d within = λ same. no-bytes other key differs.0 (sym same)
all-from key (other ∷ others) differs (suc k) d within = all-from key others differs.1 k d (omega arith)

among-push : (before : List (List ℕ)) (key other : List ℕ) → is_among (before ++ key ∷ []) other ≡ (is_among before other || (bytes_eq other key || false))
among-push before key other = list_any-append (bytes_eq other) before (key ∷ [])

neither : (a b : Bool) → a ≡ false → b ≡ false → (a || (b || false)) ≡ false
neither a b first second = rw (first, second) refl

both : (a b : Bool) → (a || (b || false)) ≡ false → (a ≡ false) × (b ≡ false)
both true b none = absurd cc
both false true none = absurd cc
both false false none = (refl, refl)

absent-push : (before : List (List ℕ)) (key : List ℕ) (others : List (List ℕ)) → AreAbsent before others → Differs key others → AreAbsent (before ++ key ∷ []) others
absent-push before key [] absent differs = tt
absent-push before key (other ∷ others) absent differs =
    (among-push before key other ∙ neither _ _ absent.0 differs.0, absent-push before key others absent.1 differs.1)

absent-pushed : (before : List (List ℕ)) (key : List ℕ) (others : List (List ℕ)) → AreAbsent (before ++ key ∷ []) others → AreAbsent before others × Differs key others
absent-pushed before key [] absent = (tt, tt)
absent-pushed before key (other ∷ others) absent =
    let here = both (is_among before other) (bytes_eq other key) (sym (among-push before key other) ∙ absent.0) in
    let rest = absent-pushed before key others absent.1 in
    ((here.0, rest.0), (here.1, rest.1))

new-from : (before ks : List (List ℕ)) → AreDistinct ks → AreAbsent before ks → AreNew before ks
new-from before [] distinct absent = tt
new-from before (key ∷ ks) distinct absent =
    let differs = differs-from key ks (λ k d within. distinct 0 (suc k) d (omega arith) (omega arith)) in
    let rest : AreDistinct ks = λ i j d lt within. distinct (suc i) (suc j) d (omega arith) (omega arith) in
    (absent.0, new-from (before ++ key ∷ []) ks rest (absent-push before key ks absent.1 differs))

distinct-from : (before ks : List (List ℕ)) → AreNew before ks → AreDistinct ks × AreAbsent before ks
distinct-from before [] new = (λ i j d lt within. absurd (omega arith), tt)
distinct-from before (key ∷ ks) new =
    let rest = distinct-from (before ++ key ∷ []) ks new.1 in
    let parts = absent-pushed before key ks rest.1 in
    (AllPairs-cons (λ a b. a ≢ b) key ks (all-from key ks parts.1) rest.0, (new.0, parts.0))

-- ---- the tokens of a value

new-key : (among : Bool) (key : List ℕ) (rest : Option (List ℕ)) → among ≡ false → option_or (if among then Some key else None) rest ≡ rest
new-key among key rest is = rw is refl

no-key : (among : Bool) (key : List ℕ) (rest : Option (List ℕ)) → option_or (if among then Some key else None) rest ≡ None
    → (among ≡ false) × (rest ≡ None)
no-key true key rest none = absurd cc
no-key false key rest none = (refl, none)

mutual
  json-passed : (j : Json) (objects : Objects) (ts : List Token) → HasUniqueKeys j → repeated_in objects (json_tokens j ++ ts) ≡ repeated_in objects ts
  json-passed null objects ts unique = refl
  json-passed (boolean b) objects ts unique = refl
  json-passed (number s) objects ts unique = refl
  json-passed (string s) objects ts unique = refl
  json-passed (array js) objects ts unique = items-passed js objects ts unique
  json-passed (object ms) objects ts unique =
      members-passed ms [] objects ts (new-from [] (keys ms) unique.0 (none-absent (keys ms))) unique.1

  items-passed : (js : Items) (objects : Objects) (ts : List Token) → ItemsHaveUniqueKeys js
      → repeated_in objects (items_tokens js ++ ts) ≡ repeated_in objects ts
  items-passed no_items objects ts unique = refl
  items-passed (item j js) objects ts unique =
      ap (repeated_in objects) (append_assoc (json_tokens j) (items_tokens js) ts)
      ∙ json-passed j objects (items_tokens js ++ ts) unique.0 ∙ items-passed js objects ts unique.1

  members-passed : (ms : Members) (before : List (List ℕ)) (objects : Objects) (ts : List Token) → AreNew before (keys ms) → MembersHaveUniqueKeys ms
      → repeated_in (before ∷ objects) (members_tokens ms ++ ts) ≡ repeated_in objects ts
  members-passed no_members before objects ts new unique = refl
  members-passed (member key j ms) before objects ts new unique =
      let inside : Objects = (before ++ key ∷ []) ∷ objects in
      new-key (is_among before key) key _ new.0
      ∙ ap (repeated_in inside) (append_assoc (json_tokens j) (members_tokens ms) ts)
      ∙ json-passed j inside (members_tokens ms ++ ts) unique.0
      ∙ members-passed ms (before ++ key ∷ []) objects ts new.1 unique.1

mutual
  json-unique : (j : Json) (objects : Objects) (ts : List Token) → repeated_in objects (json_tokens j ++ ts) ≡ None
      → HasUniqueKeys j × (repeated_in objects ts ≡ None)
  json-unique null objects ts none = (tt, none)
  json-unique (boolean b) objects ts none = (tt, none)
  json-unique (number s) objects ts none = (tt, none)
  json-unique (string s) objects ts none = (tt, none)
  json-unique (array js) objects ts none = items-unique js objects ts none
  json-unique (object ms) objects ts none =
      let inside = members-unique ms [] objects ts none in
      (((distinct-from [] (keys ms) inside.0).0, inside.1.0), inside.1.1)

  items-unique : (js : Items) (objects : Objects) (ts : List Token) → repeated_in objects (items_tokens js ++ ts) ≡ None
      → ItemsHaveUniqueKeys js × (repeated_in objects ts ≡ None)
  items-unique no_items objects ts none = (tt, none)
  items-unique (item j js) objects ts none =
      let first = json-unique j objects (items_tokens js ++ ts) (sym (ap (repeated_in objects) (append_assoc (json_tokens j) (items_tokens js) ts)) ∙ none) in
      let rest = items-unique js objects ts first.1 in
      ((first.0, rest.0), rest.1)

  members-unique : (ms : Members) (before : List (List ℕ)) (objects : Objects) (ts : List Token) → repeated_in (before ∷ objects) (members_tokens ms ++ ts) ≡ None
      → AreNew before (keys ms) × (MembersHaveUniqueKeys ms × (repeated_in objects ts ≡ None))
  members-unique no_members before objects ts none = (tt, (tt, none))
  members-unique (member key j ms) before objects ts none =
      let inside : Objects = (before ++ key ∷ []) ∷ objects in
      let here = no-key (is_among before key) key (repeated_in inside ((json_tokens j ++ members_tokens ms) ++ ts)) none in
      let first = json-unique j inside (members_tokens ms ++ ts) (sym (ap (repeated_in inside) (append_assoc (json_tokens j) (members_tokens ms) ts)) ∙ here.1) in
      let rest = members-unique ms (before ++ key ∷ []) objects ts first.1 in
      ((here.0, rest.0), ((first.0, rest.1.0), rest.1.1))

-- ---- a text

in-text : (bytes : List ℕ) (j : Json) → is_utf8 bytes ≡ true → document bytes ≡ Some j → repeated_key bytes ≡ repeated_in [] (json_tokens j ++ [])
in-text bytes j text is =
    let some : is_some (document bytes) ≡ true = ap is_some is in
    rw (text, some) (ap (repeated_in []) (tokens-document bytes j is ∙ sym (append-nil (json_tokens j))))

pub none-repeated : (bytes : List ℕ) (j : Json) → is_utf8 bytes ≡ true → document bytes ≡ Some j → (repeated_key bytes ≡ None) ↔ HasUniqueKeys j
none-repeated bytes j text is = (
  λ none. (json-unique j [] [] (sym (in-text bytes j text is) ∙ none)).0,
  λ unique. in-text bytes j text is ∙ json-passed j [] [] unique,
)
