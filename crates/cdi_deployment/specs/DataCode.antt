-- A code for JSON data, by which the prover tells its values apart.
use Rattle.std.specs.Prelude.{◌≡◌, ℕ, List, refl}
use Rattle.std.proofs.Common.{ap, ap₂}
use base.Stored.{Gv, gnil, gnum, gcons, Coded, coded_ℕ, coded_ℤ, coded_bool, coded_list, coded_float}
use Rattle.serde_json.specs.Data.{Num, unsigned, negative, float, Data, null, boolean, number, string, array, object, Items, no_items, item, Members, no_members, member}

abbrev head : Gv → Gv
head gnil = gnil
head (gnum n) = gnil
head (gcons a b) = a

abbrev tail : Gv → Gv
tail gnil = gnil
tail (gnum n) = gnil
tail (gcons a b) = b

abbrev text_code : List ℕ → Gv
text_code s = (coded_list coded_ℕ).code s

abbrev num_code : Num → Gv
num_code (unsigned n) = gnum n
num_code (negative z) = gcons gnil (coded_ℤ.code z)
num_code (float x) = gcons (gnum 0) (coded_float.code x)

pub num_inj : (x y : Num) → num_code x ≡ num_code y → x ≡ y
num_inj (unsigned m) (unsigned n) p = cc
num_inj (negative z) (negative w) p = ap negative (coded_ℤ.inj z w (ap tail p))
num_inj (float x) (float y) p = ap float (coded_float.inj x y (ap tail p))
num_inj x y p = absurd cc

abbrev mutual
  data_code : Data → Gv
  data_code null = gnil
  data_code (boolean b) = gcons (gcons gnil gnil) (coded_bool.code b)
  data_code (number n) = gcons gnil (num_code n)
  data_code (string s) = gcons (gnum 0) (text_code s)
  data_code (array ds) = gcons (gcons (gnum 0) gnil) (items_code ds)
  data_code (object ms) = gcons (gcons (gcons gnil gnil) gnil) (members_code ms)

  items_code : Items → Gv
  items_code no_items = gnil
  items_code (item d ds) = gcons (data_code d) (items_code ds)

  members_code : Members → Gv
  members_code no_members = gnil
  members_code (member k d ms) = gcons (text_code k) (gcons (data_code d) (members_code ms))

mutual
  pub data_inj : (x y : Data) → data_code x ≡ data_code y → x ≡ y
  data_inj null null p = refl
  data_inj (boolean b) (boolean c) p = ap boolean (coded_bool.inj b c (ap tail p))
  data_inj (number m) (number n) p = ap number (num_inj m n (ap tail p))
  data_inj (string s) (string t) p = ap string ((coded_list coded_ℕ).inj s t (ap tail p))
  data_inj (array ds) (array es) p = ap array (items_inj ds es (ap tail p))
  data_inj (object ms) (object ns) p = ap object (members_inj ms ns (ap tail p))
  data_inj x y p = absurd cc

  pub items_inj : (x y : Items) → items_code x ≡ items_code y → x ≡ y
  items_inj no_items no_items p = refl
  items_inj (item d ds) (item e es) p = ap₂ item (data_inj d e (ap head p))
      (items_inj ds es (ap tail p))
  items_inj x y p = absurd cc

  pub members_inj : (x y : Members) → members_code x ≡ members_code y → x ≡ y
  members_inj no_members no_members p = refl
  members_inj (member k d ms) (member l e ns) p =
      let names : k ≡ l = (coded_list coded_ℕ).inj k l (ap head p) in
      let values : d ≡ e = data_inj d e (ap (λ g. head (tail g)) p) in
      let others : ms ≡ ns = members_inj ms ns (ap (λ g. tail (tail g)) p) in
      cc
  members_inj x y p = absurd cc

abbrev pub coded_data : Coded Data
coded_data = record { code = data_code; inj = data_inj }
