-- Programs one after the other.
use Rattle.std.proofs.Common.{◌≡◌, refl, ap}
use Rattle.std.proofs.Math.Path.{fun_ext}
use Rattle.cdi_machine.specs.Words.{Name}
use Rattle.cdi_machine.specs.Programs.{Prog, ret, throw, cut, miss, see, change, tick, mark, act, choose, nested, handle, quietly, complete, Given, Completion, Gave, Threw}

-- what comes after a program and another comes after the one and then the other
pub bind_after : {A B C : Type 0} (p : Prog A) (f : A → Prog B) (g : B → Prog C)
    → handle (handle p f throw) g throw ≡ handle p (λ a. handle (f a) g throw) throw
bind_after (ret a) f g = refl
bind_after (throw x) f g = refl
bind_after (cut c) f g = refl
bind_after (miss p) f g = ap miss (bind_after p f g)
bind_after (see k) f g = ap see (fun_ext (λ t. fun_ext (λ w. bind_after (k t w) f g)))
bind_after (change h p) f g = ap (change h) (bind_after p f g)
bind_after (tick e p) f g = ap (tick e) (bind_after p f g)
bind_after (mark n p) f g = ap (mark n) (bind_after p f g)
bind_after (act b fields view k) f g = ap (act b fields view) (fun_ext (λ a. bind_after (k a) f g))
bind_after (choose n k) f g = ap (choose n) (fun_ext (λ i. bind_after (k i) f g))
bind_after (nested c k) f g = ap (nested c) (fun_ext (λ r. bind_after (k r) f g))

-- and so if what is thrown is looked at
pub handle_after : {A B C : Type 0} (p : Prog A) (f : A → Prog B) (h : Name → Prog B) (g : B → Prog C) (i : Name → Prog C)
    → handle (handle p f h) g i ≡ handle p (λ a. handle (f a) g i) (λ x. handle (h x) g i)
handle_after (ret a) f h g i = refl
handle_after (throw x) f h g i = refl
handle_after (cut c) f h g i = refl
handle_after (miss p) f h g i = ap miss (handle_after p f h g i)
handle_after (see k) f h g i = ap see (fun_ext (λ t. fun_ext (λ w. handle_after (k t w) f h g i)))
handle_after (change x p) f h g i = ap (change x) (handle_after p f h g i)
handle_after (tick e p) f h g i = ap (tick e) (handle_after p f h g i)
handle_after (mark n p) f h g i = ap (mark n) (handle_after p f h g i)
handle_after (act b fields view k) f h g i = ap (act b fields view) (fun_ext (λ a. handle_after (k a) f h g i))
handle_after (choose n k) f h g i = ap (choose n) (fun_ext (λ a. handle_after (k a) f h g i))
handle_after (nested c k) f h g i = ap (nested c) (fun_ext (λ r. handle_after (k r) f h g i))

-- whatever an event comes to, its sender goes on
pub after_event : {A : Type 0} (p : Prog A) (c : Completion Given) → handle (quietly (complete c)) (λ _. p) throw ≡ p
after_event p (Gave g) = refl
after_event p (Threw x) = refl

-- and so what stands behind that
pub after_event_within : {A B : Type 0} (p : Prog A) (q : Prog B) (c : Completion Given)
    → handle (handle (quietly (complete c)) (λ _. p) throw) (λ _. q) throw ≡ handle p (λ _. q) throw
after_event_within p q (Gave g) = refl
after_event_within p q (Threw x) = refl
