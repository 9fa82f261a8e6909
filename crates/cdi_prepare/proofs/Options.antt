-- Which of two options there is.
use Rattle.std.proofs.Common.{◌≡◌, Bool, true, ◌&&◌, Option, Some, None, refl}
use Rattle.std.specs.Option.{is_none, option_or}

pub none_of : {X : Type 0} (o : Option X) → is_none o ≡ true → o ≡ None
none_of None h = refl
none_of (Some x) h = absurd cc

pub both_none : {X : Type 0} (a b : Bool) (o p : Option X) → a ≡ is_none o → b ≡ is_none p → (a && b) ≡ is_none (option_or o p)
both_none a b None p first second = rw (first, second) refl
both_none a b (Some x) p first second = rw first refl
