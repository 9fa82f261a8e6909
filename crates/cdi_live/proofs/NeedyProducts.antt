-- The set of the producers whose products need themselves, with one bean more.
use Rattle.std.proofs.Common.{◌≡◌, ◌∙◌, ℕ, ◌+◌, ◌<◌, ◌||◌, ◌&&◌, ◌==◌, Bool, true, false, nat_eq, cond, List, length, take, get_or, Some, None, refl, sym, ap}
use Rattle.std.specs.HashSet.{HashSet, contains}
use Rattle.cdi_beans.specs.declared.bean.Bean.{Bean}
use Rattle.cdi_live.specs.Cycles.{is_name, flag, is_product_of, is_needy_product, has_needy_product}
use Rattle.cdi_live.specs.OwnPoints.{product_name}
use Rattle.cdi_live.specs.declared.cycles.NeedyFlags.{NeedyFlags}
use Rattle.cdi_live.proofs.MemberSets.{any_next}
use Rattle.cdi_name_check.specs.NameSets.{HasPairs, same_pair}

last : (a b : Bool) → (a || b) ≡ (a || (b || false))
last true b = refl
last false true = refl
last false false = refl

or_not : (before a f : Bool) → f ≡ false → before ≡ (before || (a && f))
or_not true a f e = refl
or_not false true f e = sym e
or_not false false f e = refl

or_not_first : (before b f : Bool) → before ≡ (before || ((false && b) && f))
or_not_first true b f = refl
or_not_first false b f = refl

or_with : (before a b f : Bool) → f ≡ true → cond (a && b) true before ≡ (before || ((b && a) && f))
or_with true true true f e = refl
or_with true true false f e = refl
or_with true false b f e = refl
or_with false true true f e = sym e
or_with false true false f e = refl
or_with false false true f e = refl
or_with false false false f e = refl

module _ (flags : NeedyFlags) (b : ℕ × Bean) (before : Bool) (class name : ℕ) where
  -- what is no product adds nothing
  pub no_product : product_name b.1.kind ≡ None → before ≡ (before || is_needy_product flags class name b)
  no_product e = or_not_first before (b.1.class == class) (flag flags.beans b.0) ∙ ap (λ n. before || ((is_name name n && (b.1.class == class)) && flag flags.beans b.0)) (sym e)

  -- nor does what has no flag
  pub no_flag : flag flags.beans b.0 ≡ false → before ≡ (before || is_needy_product flags class name b)
  no_flag e = or_not before (is_product_of class name b) (flag flags.beans b.0) e

  pub needy : (n : ℕ) → product_name b.1.kind ≡ Some n → flag flags.beans b.0 ≡ true → cond (same_pair (b.1.class, n) (class, name)) true before ≡ (before || is_needy_product flags class name b)
  needy n e f = or_with before (nat_eq b.1.class class) (nat_eq n name) (flag flags.beans b.0) f ∙ ap (λ m. before || ((is_name name m && (b.1.class == class)) && flag flags.beans b.0)) (sym e)

pub one_bean : {S : Type 0} (flags : NeedyFlags) (beans : List (ℕ × Bean)) (i : ℕ) (b : ℕ × Bean) → i < length beans → b ≡ get_or beans i b → (set larger : HashSet (ℕ × ℕ) S) → HasPairs (has_needy_product flags (take i beans)) set
    → ((class name : ℕ) → contains same_pair larger (class, name) ≡ (contains same_pair set (class, name) || is_needy_product flags class name b))
    → HasPairs (has_needy_product flags (take (i + 1) beans)) larger
one_bean flags beans i b lt is set larger so_far added = record {
  same = λ class name.
      added class name ∙ ap (λ found. found || is_needy_product flags class name b) (so_far.same class name)
      ∙ last (has_needy_product flags (take i beans) class name) (is_needy_product flags class name b)
      ∙ sym (any_next (is_needy_product flags class name) beans i b lt is);
}
