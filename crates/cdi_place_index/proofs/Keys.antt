-- Keys of places, and rows at them.
use Rattle.std.proofs.Common.{◌≡◌, ◌∙◌, Bool, true, false, cond, nat_eq, ◌&&◌, List, [], ◌∷◌, ◌++◌, Option, Some, None, refl, sym, ap, subst}
use Rattle.std.proofs.lemmas.Bool.{eqb-true}
use Rattle.std.specs.Option.{unwrap_or, IsSome}
use Rattle.cdi_base.specs.declared.place.InterceptorMethod.TheVariants as methods
use Rattle.cdi_base.specs.declared.place.Place.{Place}
use Rattle.cdi_base.specs.declared.place.Place.TheVariants as places
use Rattle.cdi_problems.specs.PlaceKeys.{key_of, same_key}
use Rattle.cdi_problems.specs.declared.place_key.PlaceKey.{PlaceKey}
use Rattle.cdi_problems.specs.declared.place_key.PlaceKey.TheVariants as keys
use Rattle.cdi_problems.specs.Places.{same_place}

-- ---- rows

-- the first item at a key makes its row
pub row_after : {T : Type 0} (here : Bool) (before after : Option (List T)) (row : List T) (item : T) → after ≡ cond here (Some row) before → (here ≡ true → before ≡ None) → row ≡ item ∷ [] → unwrap_or after [] ≡ cond here (unwrap_or before [] ++ item ∷ []) (unwrap_or before [])
row_after true before after row item e none is = ap (λ o. unwrap_or o []) e ∙ is ∙ ap (λ o. unwrap_or o [] ++ item ∷ []) (sym (none refl))
row_after false before after row item e none is = ap (λ o. unwrap_or o []) e

-- an item more in a row that is there
pub row_more : {T : Type 0} (here : Bool) (before after : Option (List T)) (old row : List T) (item : T) → after ≡ cond here (Some row) before → (here ≡ true → before ≡ Some old) → row ≡ old ++ item ∷ [] → unwrap_or after [] ≡ cond here (unwrap_or before [] ++ item ∷ []) (unwrap_or before [])
row_more true before after old row item e some is = ap (λ o. unwrap_or o []) e ∙ is ∙ ap (λ o. unwrap_or o [] ++ item ∷ []) (sym (some refl))
row_more false before after old row item e some is = ap (λ o. unwrap_or o []) e

pub is_some : {X : Type 0} (o : Option X) (x : X) → Some x ≡ o → IsSome o
is_some o x e = subst IsSome e refl

-- ---- keys

first : (s t : Bool) → s && t ≡ true → s ≡ true
first true t e = refl
first false t e = e

second : (s t : Bool) → s && t ≡ true → t ≡ true
second true t e = e
second false t e = absurd cc

-- equal keys are the same
pub same_key-true : (a b : PlaceKey) → same_key a b ≡ true → a ≡ b
same_key-true (keys.Class a) (keys.Class b) e = ap keys.Class (eqb-true a b e)
same_key-true (keys.Class a) (keys.Member b n) e = absurd cc
same_key-true (keys.Class a) (keys.Constructor b) e = absurd cc
same_key-true (keys.Class a) (keys.AroundInvoke b) e = absurd cc
same_key-true (keys.Class a) (keys.AroundConstruct b) e = absurd cc
same_key-true (keys.Class a) (keys.PostConstruct b) e = absurd cc
same_key-true (keys.Class a) (keys.PreDestroy b) e = absurd cc
same_key-true (keys.Member a m) (keys.Class b) e = absurd cc
same_key-true (keys.Member a m) (keys.Member b n) e = ap (λ c. keys.Member c m) (eqb-true a b (first (nat_eq a b) (nat_eq m n) e)) ∙ ap (keys.Member b) (eqb-true m n (second (nat_eq a b) (nat_eq m n) e))
same_key-true (keys.Member a m) (keys.Constructor b) e = absurd cc
same_key-true (keys.Member a m) (keys.AroundInvoke b) e = absurd cc
same_key-true (keys.Member a m) (keys.AroundConstruct b) e = absurd cc
same_key-true (keys.Member a m) (keys.PostConstruct b) e = absurd cc
same_key-true (keys.Member a m) (keys.PreDestroy b) e = absurd cc
same_key-true (keys.Constructor a) (keys.Class b) e = absurd cc
same_key-true (keys.Constructor a) (keys.Member b n) e = absurd cc
same_key-true (keys.Constructor a) (keys.Constructor b) e = ap keys.Constructor (eqb-true a b e)
same_key-true (keys.Constructor a) (keys.AroundInvoke b) e = absurd cc
same_key-true (keys.Constructor a) (keys.AroundConstruct b) e = absurd cc
same_key-true (keys.Constructor a) (keys.PostConstruct b) e = absurd cc
same_key-true (keys.Constructor a) (keys.PreDestroy b) e = absurd cc
same_key-true (keys.AroundInvoke a) (keys.Class b) e = absurd cc
same_key-true (keys.AroundInvoke a) (keys.Member b n) e = absurd cc
same_key-true (keys.AroundInvoke a) (keys.Constructor b) e = absurd cc
same_key-true (keys.AroundInvoke a) (keys.AroundInvoke b) e = ap keys.AroundInvoke (eqb-true a b e)
same_key-true (keys.AroundInvoke a) (keys.AroundConstruct b) e = absurd cc
same_key-true (keys.AroundInvoke a) (keys.PostConstruct b) e = absurd cc
same_key-true (keys.AroundInvoke a) (keys.PreDestroy b) e = absurd cc
same_key-true (keys.AroundConstruct a) (keys.Class b) e = absurd cc
same_key-true (keys.AroundConstruct a) (keys.Member b n) e = absurd cc
same_key-true (keys.AroundConstruct a) (keys.Constructor b) e = absurd cc
same_key-true (keys.AroundConstruct a) (keys.AroundInvoke b) e = absurd cc
same_key-true (keys.AroundConstruct a) (keys.AroundConstruct b) e = ap keys.AroundConstruct (eqb-true a b e)
same_key-true (keys.AroundConstruct a) (keys.PostConstruct b) e = absurd cc
same_key-true (keys.AroundConstruct a) (keys.PreDestroy b) e = absurd cc
same_key-true (keys.PostConstruct a) (keys.Class b) e = absurd cc
same_key-true (keys.PostConstruct a) (keys.Member b n) e = absurd cc
same_key-true (keys.PostConstruct a) (keys.Constructor b) e = absurd cc
same_key-true (keys.PostConstruct a) (keys.AroundInvoke b) e = absurd cc
same_key-true (keys.PostConstruct a) (keys.AroundConstruct b) e = absurd cc
same_key-true (keys.PostConstruct a) (keys.PostConstruct b) e = ap keys.PostConstruct (eqb-true a b e)
same_key-true (keys.PostConstruct a) (keys.PreDestroy b) e = absurd cc
same_key-true (keys.PreDestroy a) (keys.Class b) e = absurd cc
same_key-true (keys.PreDestroy a) (keys.Member b n) e = absurd cc
same_key-true (keys.PreDestroy a) (keys.Constructor b) e = absurd cc
same_key-true (keys.PreDestroy a) (keys.AroundInvoke b) e = absurd cc
same_key-true (keys.PreDestroy a) (keys.AroundConstruct b) e = absurd cc
same_key-true (keys.PreDestroy a) (keys.PostConstruct b) e = absurd cc
same_key-true (keys.PreDestroy a) (keys.PreDestroy b) e = ap keys.PreDestroy (eqb-true a b e)

and_true : (t : Bool) → t ≡ t && true
and_true true = refl
and_true false = refl

and_false : (t : Bool) → false ≡ t && false
and_false true = refl
and_false false = refl

-- two places are the same if their keys are
pub same_keys : (a b : Place) → same_key (key_of a) (key_of b) ≡ same_place a b
same_keys (places.Class a) (places.Class b) = refl
same_keys (places.Class a) (places.Member b n) = refl
same_keys (places.Class a) (places.Constructor b) = refl
same_keys (places.Class a) (places.Interceptor b methods.AroundInvoke) = refl
same_keys (places.Class a) (places.Interceptor b methods.AroundConstruct) = refl
same_keys (places.Class a) (places.Interceptor b methods.PostConstruct) = refl
same_keys (places.Class a) (places.Interceptor b methods.PreDestroy) = refl
same_keys (places.Member a m) (places.Class b) = refl
same_keys (places.Member a m) (places.Member b n) = refl
same_keys (places.Member a m) (places.Constructor b) = refl
same_keys (places.Member a m) (places.Interceptor b methods.AroundInvoke) = refl
same_keys (places.Member a m) (places.Interceptor b methods.AroundConstruct) = refl
same_keys (places.Member a m) (places.Interceptor b methods.PostConstruct) = refl
same_keys (places.Member a m) (places.Interceptor b methods.PreDestroy) = refl
same_keys (places.Constructor a) (places.Class b) = refl
same_keys (places.Constructor a) (places.Member b n) = refl
same_keys (places.Constructor a) (places.Constructor b) = refl
same_keys (places.Constructor a) (places.Interceptor b methods.AroundInvoke) = refl
same_keys (places.Constructor a) (places.Interceptor b methods.AroundConstruct) = refl
same_keys (places.Constructor a) (places.Interceptor b methods.PostConstruct) = refl
same_keys (places.Constructor a) (places.Interceptor b methods.PreDestroy) = refl
same_keys (places.Interceptor a methods.AroundInvoke) (places.Class b) = refl
same_keys (places.Interceptor a methods.AroundInvoke) (places.Member b n) = refl
same_keys (places.Interceptor a methods.AroundInvoke) (places.Constructor b) = refl
same_keys (places.Interceptor a methods.AroundInvoke) (places.Interceptor b methods.AroundInvoke) = and_true (nat_eq a b)
same_keys (places.Interceptor a methods.AroundInvoke) (places.Interceptor b methods.AroundConstruct) = and_false (nat_eq a b)
same_keys (places.Interceptor a methods.AroundInvoke) (places.Interceptor b methods.PostConstruct) = and_false (nat_eq a b)
same_keys (places.Interceptor a methods.AroundInvoke) (places.Interceptor b methods.PreDestroy) = and_false (nat_eq a b)
same_keys (places.Interceptor a methods.AroundConstruct) (places.Class b) = refl
same_keys (places.Interceptor a methods.AroundConstruct) (places.Member b n) = refl
same_keys (places.Interceptor a methods.AroundConstruct) (places.Constructor b) = refl
same_keys (places.Interceptor a methods.AroundConstruct) (places.Interceptor b methods.AroundInvoke) = and_false (nat_eq a b)
same_keys (places.Interceptor a methods.AroundConstruct) (places.Interceptor b methods.AroundConstruct) = and_true (nat_eq a b)
same_keys (places.Interceptor a methods.AroundConstruct) (places.Interceptor b methods.PostConstruct) = and_false (nat_eq a b)
same_keys (places.Interceptor a methods.AroundConstruct) (places.Interceptor b methods.PreDestroy) = and_false (nat_eq a b)
same_keys (places.Interceptor a methods.PostConstruct) (places.Class b) = refl
same_keys (places.Interceptor a methods.PostConstruct) (places.Member b n) = refl
same_keys (places.Interceptor a methods.PostConstruct) (places.Constructor b) = refl
same_keys (places.Interceptor a methods.PostConstruct) (places.Interceptor b methods.AroundInvoke) = and_false (nat_eq a b)
same_keys (places.Interceptor a methods.PostConstruct) (places.Interceptor b methods.AroundConstruct) = and_false (nat_eq a b)
same_keys (places.Interceptor a methods.PostConstruct) (places.Interceptor b methods.PostConstruct) = and_true (nat_eq a b)
same_keys (places.Interceptor a methods.PostConstruct) (places.Interceptor b methods.PreDestroy) = and_false (nat_eq a b)
same_keys (places.Interceptor a methods.PreDestroy) (places.Class b) = refl
same_keys (places.Interceptor a methods.PreDestroy) (places.Member b n) = refl
same_keys (places.Interceptor a methods.PreDestroy) (places.Constructor b) = refl
same_keys (places.Interceptor a methods.PreDestroy) (places.Interceptor b methods.AroundInvoke) = and_false (nat_eq a b)
same_keys (places.Interceptor a methods.PreDestroy) (places.Interceptor b methods.AroundConstruct) = and_false (nat_eq a b)
same_keys (places.Interceptor a methods.PreDestroy) (places.Interceptor b methods.PostConstruct) = and_false (nat_eq a b)
same_keys (places.Interceptor a methods.PreDestroy) (places.Interceptor b methods.PreDestroy) = and_true (nat_eq a b)
