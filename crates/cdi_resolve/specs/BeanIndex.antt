-- Which beans a question looks at.
use Rattle.std.specs.Prelude.{ℕ, Bool, List, Option, Some, None, fold, length, nat_lt, if◌then◌else◌}
use Rattle.cdi_beans.specs.declared.bean.Bean.{Bean}
use Rattle.cdi_quals.specs.declared.qualifier.Qualifier.{Qualifier}
use Rattle.cdi_resolve.specs.BeanKeys.{required_key}
use Rattle.cdi_resolve.specs.BeanRows.{AreRowsOf, row_of}
use Rattle.cdi_resolve.specs.declared.bean_index.BeanIndex.{BeanIndex}
use Rattle.cdi_resolve.specs.declared.bean_key.BeanKey.{BeanKey}
use Rattle.cdi_resolve.specs.declared.bean_key.BeanKey.TheVariants as keys
use Rattle.cdi_resolve.specs.declared.bean_rows.BeanRows.{BeanRows}

abbrev pub IsIndexOf : List Bean → List Bool → BeanIndex → Type 0
IsIndexOf beans enabled index = AreRowsOf index.flags beans enabled index.rows

-- the type, if the beans with a key aren't known to have it
abbrev pub asked_type : ℕ → BeanKey → Option ℕ
asked_type type (keys.Type t) = None
asked_type type (keys.Qualifier name digest) = Some type

-- the other key, if fewer beans have it
abbrev pub rarer : BeanRows → BeanKey → Option BeanKey → BeanKey
rarer rows key None = key
rarer rows key (Some other) =
    if nat_lt (length (row_of rows other)) (length (row_of rows key)) then other else key

abbrev pub with_required : BeanIndex → BeanKey → Qualifier → BeanKey
with_required index key q = rarer index.rows key (required_key index.flags q)

-- the one of a key and those of required qualifiers that the fewest beans have
abbrev pub with_all : BeanIndex → BeanKey → List Qualifier → BeanKey
with_all index key qualifiers = fold (with_required index) key qualifiers

abbrev pub rarest : BeanIndex → ℕ → List Qualifier → BeanKey
rarest index type qualifiers = with_all index (keys.Type type) qualifiers
