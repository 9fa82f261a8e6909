-- The order of qualifiers: that in which lines write them.
use Rattle.std.specs.Prelude.{ℕ, List, Option, slice_get}
use Rattle.std.specs.Cmp.Lexicographic.{slice_cmp}
use Rattle.std.specs.Ordering.{nat_cmp, int_cmp, bool_cmp, on, then_cmp}
use Rattle.std.specs.Option.{option_cmp}
use Rattle.std.specs.declared.cmp.Ordering.{Ordering}
use Rattle.std.specs.declared.cmp.Ordering.TheVariants.{Less, Equal, Greater}
use Rattle.cdi_base.specs.declared.value.Value.{Value}
use Rattle.cdi_base.specs.declared.value.Value.TheVariants as values
use Rattle.cdi_quals.specs.declared.qualifier.Qualifier.{Qualifier}
use Rattle.cdi_quals.specs.declared.qualifier.QualifierMember.{QualifierMember}

-- null, whole numbers, texts by their bytes
abbrev pub compare_values : Value → Value → Ordering
compare_values values.Null values.Null = Equal
compare_values values.Null (values.Int n) = Less
compare_values values.Null (values.Text t) = Less
compare_values (values.Int m) values.Null = Greater
compare_values (values.Int m) (values.Int n) = int_cmp m n
compare_values (values.Int m) (values.Text t) = Less
compare_values (values.Text s) values.Null = Greater
compare_values (values.Text s) (values.Int n) = Greater
compare_values (values.Text s) (values.Text t) = slice_cmp nat_cmp s t

-- texts by their bytes
abbrev pub compare_texts : Option (List ℕ) → Option (List ℕ) → Ordering
compare_texts = option_cmp (slice_cmp nat_cmp)

-- names by their texts in a table; numbers decide only between names that have one text there, or none
abbrev pub compare_names : List (List ℕ) → ℕ → ℕ → Ordering
compare_names names = then_cmp (on (slice_get names) compare_texts) nat_cmp

-- members of one type by their values; the rest decides only between members of different types
abbrev pub compare_member : QualifierMember → QualifierMember → Ordering
compare_member =
    then_cmp (on (λ m. m.value) compare_values)
    (then_cmp (on (λ m. m.name) nat_cmp) (on (λ m. m.is_binding) bool_cmp))

abbrev pub compare_members : List QualifierMember → List QualifierMember → Ordering
compare_members = slice_cmp compare_member

-- by the texts of the names, then by the values in the order of the members
abbrev pub compare_qualifiers : List (List ℕ) → Qualifier → Qualifier → Ordering
compare_qualifiers names =
    then_cmp (on (λ q. q.name) (compare_names names)) (on (λ q. q.members) compare_members)
