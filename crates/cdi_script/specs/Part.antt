-- The kinds of parts that steps have: which values are parts of a kind, and what is read of them.
use Rattle.std.specs.Prelude.{◌≡◌, ℕ, List, [], ◌∷◌, Bool, true, false, ◌&&◌, Ok}
use Rattle.cdi_base.specs.Reading.{◌>>=◌}
use Rattle.cdi_base.specs.declared.act.Via.TheVariants as vias
use Rattle.serde_json.specs.Data.{Data, Items, no_items, item}
use Rattle.cdi_script.specs.declared.part.PartKind.{PartKind}
use Rattle.cdi_script.specs.declared.part.PartKind.TheVariants.{Name, Via, Local, Qualifiers, Value, Values}
use Rattle.cdi_script.specs.declared.part.Parts.{Parts}
use Rattle.cdi_script.specs.Expression.{is_expression, expression_of}
use Rattle.cdi_script.specs.Qualifier.{is_qualifier, qualifier_of}
use Rattle.cdi_script.specs.Reading.{Reads, is_named, name_of, found, is_array_of, array_of}
use Rattle.cdi_script.specs.Term as terms
use Rattle.cdi_script.specs.Via.{is_via, via_of, is_local, local_of}

abbrev pub is_part : PartKind → Data → Bool
is_part Name d = is_named d
is_part Via d = is_via d
is_part Local d = is_local d
is_part Qualifiers d = is_array_of is_qualifier d
is_part Value d = is_expression d
is_part Values d = is_array_of is_expression d

-- as many values as kinds, each a part of its kind
abbrev pub are_parts : List PartKind → Items → Bool
are_parts [] no_items = true
are_parts [] (item d ds) = false
are_parts (kind ∷ kinds) no_items = false
are_parts (kind ∷ kinds) (item d ds) = is_part kind d && are_parts kinds ds

-- where nothing is read yet
abbrev pub no_parts : Parts
no_parts =
    record {
      name = 0;
      via = vias.Param 0;
      local = 0;
      qualifiers = [];
      value = terms.null;
      values = [];
    }

-- the parts, with what a value is as a part of a kind
abbrev pub with_part : Parts → List (List ℕ) → PartKind → Data → Reads Parts
with_part parts names Name d =
    name_of names d >>= λ name. Ok (record parts { name = name.0 }, name.1)
with_part parts names Via d = via_of names d >>= λ via. Ok (record parts { via = via.0 }, via.1)
with_part parts names Local d = found (λ local. record parts { local = local }) names (local_of d)
with_part parts names Qualifiers d =
    array_of qualifier_of names d >>= λ qualifiers.
    Ok (record parts { qualifiers = qualifiers.0 }, qualifiers.1)
with_part parts names Value d =
    expression_of names d >>= λ value. Ok (record parts { value = value.0 }, value.1)
with_part parts names Values d =
    array_of expression_of names d >>= λ values. Ok (record parts { values = values.0 }, values.1)

-- the parts, with what values are, one after another
abbrev pub with_parts : Parts → List (List ℕ) → List PartKind → Items → Reads Parts
with_parts parts names (kind ∷ kinds) (item d ds) =
    with_part parts names kind d >>= λ read. with_parts read.0 read.1 kinds ds
with_parts parts names _ _ = Ok (parts, names)

-- the parts are the same where they are of this kind
abbrev pub SameAt : PartKind → Parts → Parts → Type 0
SameAt Name a b = a.name ≡ b.name
SameAt Via a b = a.via ≡ b.via
SameAt Local a b = a.local ≡ b.local
SameAt Qualifiers a b = a.qualifiers ≡ b.qualifiers
SameAt Value a b = a.value ≡ b.value
SameAt Values a b = a.values ≡ b.values

-- the parts are the same at each of these kinds
abbrev pub SameAtAll : List PartKind → Parts → Parts → Type 0
SameAtAll [] a b = Unit {0}
SameAtAll (kind ∷ kinds) a b = SameAt kind a b × SameAtAll kinds a b
