-- The keys by which beans are found.
use Rattle.std.specs.Prelude.{ℕ, Bool, List, ◌++◌, map, filter, Option, option_map}
use Rattle.std.specs.List.{list_any}
use Rattle.cdi_beans.specs.declared.bean.Bean.{Bean}
use Rattle.cdi_quals.specs.declared.qualifier.Qualifier.{Qualifier}
use Rattle.cdi_resolve.specs.BindingFlags.{flags_of}
use Rattle.cdi_resolve.specs.Digests.{with_all_own, with_all_required}
use Rattle.cdi_resolve.specs.contracts.bean_key.BeanKeyPartialEq.TheImpl as key_eq
use Rattle.cdi_resolve.specs.declared.bean_key.BeanKey.{BeanKey}
use Rattle.cdi_resolve.specs.declared.bean_key.BeanKey.TheVariants as keys
use Rattle.cdi_resolve.specs.declared.binding_flags.BindingFlags.{BindingFlags}

-- the `==` of keys
abbrev pub same_key : BeanKey → BeanKey → Bool
same_key = (key_eq.ghosts).eq

-- the key of a bean's qualifier
abbrev pub own_key : BindingFlags → Qualifier → BeanKey
own_key flags q = keys.Qualifier q.name (with_all_own (flags_of flags q.name) q.members 0)

-- the key of each qualifier that is what this one requires, if its members tell it
abbrev pub required_key : BindingFlags → Qualifier → Option BeanKey
required_key flags q =
    option_map (keys.Qualifier q.name) (with_all_required (flags_of flags q.name) q.members 0)

-- the keys of a bean
abbrev pub keys_of : BindingFlags → Bean → List BeanKey
keys_of flags b = map keys.Type b.types ++ map (own_key flags) b.qualifiers

abbrev pub has_key : BindingFlags → BeanKey → Bean → Bool
has_key flags key b = list_any (λ own. same_key own key) (keys_of flags b)

abbrev pub having_key : BindingFlags → BeanKey → List (ℕ × Bean) → List (ℕ × Bean)
having_key flags key beans = filter (λ b. has_key flags key b.1) beans
