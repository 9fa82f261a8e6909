-- Places as they are printed, and lists of them.
use Rattle.std.specs.Prelude.{ℕ, Bool, true, false, ◌==◌, ◌&&◌, List, [], ◌∷◌, ◌++◌, fold, codes, slice_get, unwrap_or, if◌then◌else◌}
use Rattle.std.specs.List.{list_any}
use Rattle.cdi_base.specs.declared.place.InterceptorMethod.{InterceptorMethod}
use Rattle.cdi_base.specs.declared.place.InterceptorMethod.TheVariants as methods
use Rattle.cdi_base.specs.declared.place.Place.{Place}
use Rattle.cdi_base.specs.declared.place.Place.TheVariants as places

-- the text of a name; one outside of the table has the empty text
abbrev pub name_text : List (List ℕ) → ℕ → List ℕ
name_text names name = unwrap_or (slice_get names name) []

abbrev pub method_word : InterceptorMethod → List ℕ
method_word methods.AroundInvoke = codes "invoke"
method_word methods.AroundConstruct = codes "construct"
method_word methods.PostConstruct = codes "post"
method_word methods.PreDestroy = codes "pre"

-- a bean `K`, a member `K#m`, a constructor `K#`, a method of an interceptor `J#invoke`
abbrev pub place_text : List (List ℕ) → Place → List ℕ
place_text names (places.Class name) = name_text names name
place_text names (places.Member class member) =
    name_text names class ++ codes "#" ++ name_text names member
place_text names (places.Constructor class) = name_text names class ++ codes "#"
place_text names (places.Interceptor interceptor method) =
    name_text names interceptor ++ codes "#" ++ method_word method

abbrev pub same_method : InterceptorMethod → InterceptorMethod → Bool
same_method methods.AroundInvoke methods.AroundInvoke = true
same_method methods.AroundConstruct methods.AroundConstruct = true
same_method methods.PostConstruct methods.PostConstruct = true
same_method methods.PreDestroy methods.PreDestroy = true
same_method _ _ = false

abbrev pub same_place : Place → Place → Bool
same_place (places.Class a) (places.Class b) = a == b
same_place (places.Member a m) (places.Member b n) = (a == b) && (m == n)
same_place (places.Constructor a) (places.Constructor b) = a == b
same_place (places.Interceptor a m) (places.Interceptor b n) = (a == b) && same_method m n
same_place _ _ = false

-- a place behind others, unless it stands among them
abbrev pub with_place : List Place → Place → List Place
with_place listed place =
    if list_any (λ other. same_place other place) listed then listed else listed ++ place ∷ []

-- each place once, where it stands first
abbrev pub once : List Place → List Place
once listed = fold with_place [] listed
