-- Programs one in another.
use Rattle.std.proofs.Common.{◌≡◌, refl, ap}
use Rattle.std.proofs.Math.Path.{fun_ext}
use Rattle.cdi_machine.specs.Words.{Name}
use Rattle.cdi_machine.specs.Programs.{Prog, ret, throw, cut, miss, see, change, tick, mark, act, choose, nested, handle}

-- what is handled and handled again may be handled at once
pub handle_after : {A B C : Type 0} (p : Prog A) (f : A → Prog B) (h : Name → Prog B) (g : B → Prog C) (k : Name → Prog C)
    → handle (handle p f h) g k ≡ handle p (λ a. handle (f a) g k) (λ x. handle (h x) g k)
handle_after (ret a) f h g k = refl
handle_after (throw x) f h g k = refl
handle_after (cut c) f h g k = refl
handle_after (miss p) f h g k = ap miss (handle_after p f h g k)
handle_after (see l) f h g k = ap see (fun_ext (λ t. fun_ext (λ w. handle_after (l t w) f h g k)))
handle_after (change x p) f h g k = ap (change x) (handle_after p f h g k)
handle_after (tick e p) f h g k = ap (tick e) (handle_after p f h g k)
handle_after (mark n p) f h g k = ap (mark n) (handle_after p f h g k)
handle_after (act b fields view l) f h g k = ap (act b fields view) (fun_ext (λ a. handle_after (l a) f h g k))
handle_after (choose n l) f h g k = ap (choose n) (fun_ext (λ i. handle_after (l i) f h g k))
handle_after (nested c l) f h g k = ap (nested c) (fun_ext (λ r. handle_after (l r) f h g k))
