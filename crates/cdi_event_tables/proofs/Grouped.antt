-- Items in groups by their priorities: it makes no difference from which end they are added, and the groups of those that are told of
-- items are the groups of all items, without the others.
use Rattle.std.proofs.Common.{◌≡◌, ◌∙◌, ℤ, Bool, true, false, cond, List, [], ◌∷◌, ◌++◌, Option, Some, None, refl, sym, ap, subst, arith}
use Rattle.std.specs.Prelude.{int_lt, fold}
use Rattle.std.specs.List.{cons_option, filter_map}
use Rattle.std.specs.Ordering.{int_eq}
use Rattle.std.proofs.lemmas.Bool.Decides.{Decides-int_eq}
use Rattle.std.proofs.lemmas.Int.{ints}

data Compared (p q : ℤ) : Type 0 where
  equal : p ≡ q → Compared p q
  less : int_lt p q ≡ true → Compared p q
  greater : int_lt q p ≡ true → Compared p q

pub is_above : (p q : ℤ) → int_eq p q ≡ false → int_lt p q ≡ false → int_lt q p ≡ true
is_above p q e f = grind (arith, ints)

pub equal_other : (p q : ℤ) → int_eq q p ≡ true → int_eq p q ≡ true
equal_other p q e = (Decides-int_eq p q).1 (sym ((Decides-int_eq q p).0 e))

not_same : (p q : ℤ) → int_lt p q ≡ true → int_eq p q ≡ false
not_same p q e = grind (arith, ints)

pub not_below : (p q : ℤ) → int_lt q p ≡ true → int_lt p q ≡ false
not_below p q e = grind (arith, ints)

pub not_same_above : (p q : ℤ) → int_lt q p ≡ true → int_eq p q ≡ false
not_same_above p q e = grind (arith, ints)

below_trans : (p q r : ℤ) → int_lt p q ≡ true → int_lt q r ≡ true → int_lt p r ≡ true
below_trans p q r e f = grind (arith, ints)

compared : (p q : ℤ) → Compared p q
compared p q = by (int_eq p q) refl (int_lt p q) refl
  where
    by : (b : Bool) → int_eq p q ≡ b → (c : Bool) → int_lt p q ≡ c → Compared p q
    by true e c f = Compared.equal ((Decides-int_eq p q).0 e)
    by false e true f = Compared.less f
    by false e false f = Compared.greater (is_above p q e f)

-- ---- groups, item by item

module _ {X : Type 0} where
  -- an item goes to the front of the group of its priority
  abbrev pub front : ℤ → X → List (ℤ × List X) → List (ℤ × List X)
  front p x [] = (p, x ∷ []) ∷ []
  front p x (g ∷ more) = cond (int_eq p g.0) ((g.0, x ∷ g.1) ∷ more) (cond (int_lt p g.0) ((p, x ∷ []) ∷ g ∷ more) (g ∷ front p x more))

  -- or to its end
  abbrev pub back : ℤ → X → List (ℤ × List X) → List (ℤ × List X)
  back p x [] = (p, x ∷ []) ∷ []
  back p x (g ∷ more) = cond (int_eq p g.0) ((g.0, g.1 ++ x ∷ []) ∷ more) (cond (int_lt p g.0) ((p, x ∷ []) ∷ g ∷ more) (g ∷ back p x more))

  abbrev pub grouped : List (ℤ × X) → List (ℤ × List X)
  grouped [] = []
  grouped (i ∷ is) = front i.0 i.1 (grouped is)

  abbrev pub added : List (ℤ × List X) → ℤ × X → List (ℤ × List X)
  added gs i = back i.0 i.1 gs

  module _ (p : ℤ) (x : X) (g : ℤ × List X) (more : List (ℤ × List X)) where
    front_same : p ≡ g.0 → front p x (g ∷ more) ≡ (g.0, x ∷ g.1) ∷ more
    front_same e = ap (λ b. cond b ((g.0, x ∷ g.1) ∷ more) (cond (int_lt p g.0) ((p, x ∷ []) ∷ g ∷ more) (g ∷ front p x more))) ((Decides-int_eq p g.0).1 e)

    front_below : int_lt p g.0 ≡ true → front p x (g ∷ more) ≡ (p, x ∷ []) ∷ g ∷ more
    front_below e =
        ap (λ b. cond b ((g.0, x ∷ g.1) ∷ more) (cond (int_lt p g.0) ((p, x ∷ []) ∷ g ∷ more) (g ∷ front p x more))) (not_same p g.0 e)
        ∙ ap (λ b. cond b ((p, x ∷ []) ∷ g ∷ more) (g ∷ front p x more)) e

    front_above : int_lt g.0 p ≡ true → front p x (g ∷ more) ≡ g ∷ front p x more
    front_above e =
        ap (λ b. cond b ((g.0, x ∷ g.1) ∷ more) (cond (int_lt p g.0) ((p, x ∷ []) ∷ g ∷ more) (g ∷ front p x more))) (not_same_above p g.0 e)
        ∙ ap (λ b. cond b ((p, x ∷ []) ∷ g ∷ more) (g ∷ front p x more)) (not_below p g.0 e)

    back_same : p ≡ g.0 → back p x (g ∷ more) ≡ (g.0, g.1 ++ x ∷ []) ∷ more
    back_same e = ap (λ b. cond b ((g.0, g.1 ++ x ∷ []) ∷ more) (cond (int_lt p g.0) ((p, x ∷ []) ∷ g ∷ more) (g ∷ back p x more))) ((Decides-int_eq p g.0).1 e)

    back_below : int_lt p g.0 ≡ true → back p x (g ∷ more) ≡ (p, x ∷ []) ∷ g ∷ more
    back_below e =
        ap (λ b. cond b ((g.0, g.1 ++ x ∷ []) ∷ more) (cond (int_lt p g.0) ((p, x ∷ []) ∷ g ∷ more) (g ∷ back p x more))) (not_same p g.0 e)
        ∙ ap (λ b. cond b ((p, x ∷ []) ∷ g ∷ more) (g ∷ back p x more)) e

    back_above : int_lt g.0 p ≡ true → back p x (g ∷ more) ≡ g ∷ back p x more
    back_above e =
        ap (λ b. cond b ((g.0, g.1 ++ x ∷ []) ∷ more) (cond (int_lt p g.0) ((p, x ∷ []) ∷ g ∷ more) (g ∷ back p x more))) (not_same_above p g.0 e)
        ∙ ap (λ b. cond b ((p, x ∷ []) ∷ g ∷ more) (g ∷ back p x more)) (not_below p g.0 e)

  -- ---- from either end

  module _ (p q : ℤ) (x y : X) where
    both_new : (rest : List (ℤ × List X)) → front p x rest ≡ (p, x ∷ []) ∷ rest → back q y rest ≡ (q, y ∷ []) ∷ rest → Compared p q → back q y ((p, x ∷ []) ∷ rest) ≡ front p x ((q, y ∷ []) ∷ rest)
    both_new rest fx by (Compared.equal e) = back_same q y (p, x ∷ []) rest (sym e) ∙ ap (λ (r : ℤ). (r, x ∷ y ∷ []) ∷ rest) e ∙ sym (front_same p x (q, y ∷ []) rest e)
    both_new rest fx by (Compared.less e) = back_above q y (p, x ∷ []) rest e ∙ ap (λ gs. (p, x ∷ []) ∷ gs) by ∙ sym (front_below p x (q, y ∷ []) rest e)
    both_new rest fx by (Compared.greater e) = back_below q y (p, x ∷ []) rest e ∙ sym (front_above p x (q, y ∷ []) rest e ∙ ap (λ gs. (q, y ∷ []) ∷ gs) fx)

    commute : (gs : List (ℤ × List X)) → back q y (front p x gs) ≡ front p x (back q y gs)
    commute [] = both_new [] refl refl (compared p q)
    commute (g ∷ more) = by (compared p g.0) (compared q g.0) (commute more)
      where
        F : List (ℤ × List X) → List (ℤ × List X)
        F = front p x

        B : List (ℤ × List X) → List (ℤ × List X)
        B = back q y

        by : Compared p g.0 → Compared q g.0 → back q y (front p x more) ≡ front p x (back q y more) → back q y (front p x (g ∷ more)) ≡ front p x (back q y (g ∷ more))
        by (Compared.equal e) (Compared.equal f) rec =
            ap B (front_same p x g more e) ∙ back_same q y (g.0, x ∷ g.1) more f
            ∙ sym (ap F (back_same q y g more f) ∙ front_same p x (g.0, g.1 ++ y ∷ []) more e)
        by (Compared.equal e) (Compared.less f) rec =
            let lt : int_lt q p ≡ true = ap (int_lt q) e ∙ f in
            ap B (front_same p x g more e) ∙ back_below q y (g.0, x ∷ g.1) more f
            ∙ sym (ap F (back_below q y g more f) ∙ front_above p x (q, y ∷ []) (g ∷ more) lt ∙ ap (λ gs. (q, y ∷ []) ∷ gs) (front_same p x g more e))
        by (Compared.equal e) (Compared.greater f) rec =
            ap B (front_same p x g more e) ∙ back_above q y (g.0, x ∷ g.1) more f
            ∙ sym (ap F (back_above q y g more f) ∙ front_same p x g (back q y more) e)
        by (Compared.less e) (Compared.equal f) rec =
            let lt : int_lt p q ≡ true = ap (int_lt p) f ∙ e in
            ap B (front_below p x g more e) ∙ back_above q y (p, x ∷ []) (g ∷ more) lt ∙ ap (λ gs. (p, x ∷ []) ∷ gs) (back_same q y g more f)
            ∙ sym (ap F (back_same q y g more f) ∙ front_below p x (g.0, g.1 ++ y ∷ []) more e)
        by (Compared.less e) (Compared.less f) rec =
            ap B (front_below p x g more e) ∙ both_new (g ∷ more) (front_below p x g more e) (back_below q y g more f) (compared p q)
            ∙ sym (ap F (back_below q y g more f))
        by (Compared.less e) (Compared.greater f) rec =
            ap B (front_below p x g more e) ∙ back_above q y (p, x ∷ []) (g ∷ more) (below_trans p g.0 q e f) ∙ ap (λ gs. (p, x ∷ []) ∷ gs) (back_above q y g more f)
            ∙ sym (ap F (back_above q y g more f) ∙ front_below p x g (back q y more) e)
        by (Compared.greater e) (Compared.equal f) rec =
            ap B (front_above p x g more e) ∙ back_same q y g (front p x more) f
            ∙ sym (ap F (back_same q y g more f) ∙ front_above p x (g.0, g.1 ++ y ∷ []) more e)
        by (Compared.greater e) (Compared.less f) rec =
            ap B (front_above p x g more e) ∙ back_below q y g (front p x more) f
            ∙ sym (ap F (back_below q y g more f) ∙ front_above p x (q, y ∷ []) (g ∷ more) (below_trans q g.0 p f e) ∙ ap (λ gs. (q, y ∷ []) ∷ gs) (front_above p x g more e))
        by (Compared.greater e) (Compared.greater f) rec =
            ap B (front_above p x g more e) ∙ back_above q y g (front p x more) f ∙ ap (λ gs. g ∷ gs) rec
            ∙ sym (ap F (back_above q y g more f) ∙ front_above p x g (back q y more) e)

  after_front : (p : ℤ) (x : X) (is : List (ℤ × X)) (gs : List (ℤ × List X)) → fold added (front p x gs) is ≡ front p x (fold added gs is)
  after_front p x [] gs = refl
  after_front p x (i ∷ is) gs = ap (λ hs. fold added hs is) (commute p i.0 x i.1 gs) ∙ after_front p x is (back i.0 i.1 gs)

  -- one by one from the first, each at the end of its group
  pub grouped_by_back : (is : List (ℤ × X)) → fold added [] is ≡ grouped is
  grouped_by_back [] = refl
  grouped_by_back (i ∷ is) = after_front i.0 i.1 is [] ∙ ap (front i.0 i.1) (grouped_by_back is)

  -- ---- priorities rise

  Above : ℤ → List (ℤ × List X) → Type 0
  Above p [] = Unit {0}
  Above p (g ∷ gs) = (int_lt p g.0 ≡ true) × Above p gs

  Rising : List (ℤ × List X) → Type 0
  Rising [] = Unit {0}
  Rising (g ∷ gs) = Above g.0 gs × Rising gs

  above_more : (p q : ℤ) (gs : List (ℤ × List X)) → int_lt p q ≡ true → Above q gs → Above p gs
  unfolding Above
  above_more p q [] lt a = tt
  above_more p q (g ∷ gs) lt a = (below_trans p q g.0 lt a.0, above_more p q gs lt a.1)

  above_front : (q p : ℤ) (x : X) (gs : List (ℤ × List X)) → int_lt q p ≡ true → Above q gs → Above q (front p x gs)
  unfolding Above
  above_front q p x [] lt a = (lt, tt)
  above_front q p x (g ∷ more) lt a = by (compared p g.0) (above_front q p x more lt a.1)
    where
      by : Compared p g.0 → Above q (front p x more) → Above q (front p x (g ∷ more))
      by (Compared.equal e) rec = subst (Above q) (sym (front_same p x g more e)) (a.0, a.1)
      by (Compared.less e) rec = subst (Above q) (sym (front_below p x g more e)) (lt, a)
      by (Compared.greater e) rec = subst (Above q) (sym (front_above p x g more e)) (a.0, rec)

  rising_front : (p : ℤ) (x : X) (gs : List (ℤ × List X)) → Rising gs → Rising (front p x gs)
  unfolding Above Rising
  rising_front p x [] up = (tt, tt)
  rising_front p x (g ∷ more) up = by (compared p g.0) (rising_front p x more up.1)
    where
      by : Compared p g.0 → Rising (front p x more) → Rising (front p x (g ∷ more))
      by (Compared.equal e) rec = subst Rising (sym (front_same p x g more e)) (up.0, up.1)
      by (Compared.less e) rec = subst Rising (sym (front_below p x g more e)) ((e, above_more p g.0 more e up.0), up)
      by (Compared.greater e) rec = subst Rising (sym (front_above p x g more e)) (above_front g.0 p x more e up.0, rec)

  rising : (is : List (ℤ × X)) → Rising (grouped is)
  unfolding Rising
  rising [] = tt
  rising (i ∷ is) = rising_front i.0 i.1 (grouped is) (rising is)

-- ---- what is told of items

module _ {X Y : Type 0} (k : X → Option Y) where
  abbrev pub kept : ℤ → List Y → List (ℤ × List Y) → List (ℤ × List Y)
  kept p [] rest = rest
  kept p (y ∷ ys) rest = (p, y ∷ ys) ∷ rest

  -- of each group, unless it is of none of its items
  abbrev pub told : List (ℤ × List X) → List (ℤ × List Y)
  told [] = []
  told (g ∷ gs) = kept g.0 (filter_map k g.1) (told gs)

  abbrev pub with_item : ℤ → Option Y → List (ℤ × Y) → List (ℤ × Y)
  with_item p None is = is
  with_item p (Some y) is = (p, y) ∷ is

  abbrev pub items : List (ℤ × X) → List (ℤ × Y)
  items [] = []
  items (i ∷ is) = with_item i.0 (k i.1) (items is)

  -- nothing is told of an item
  added_none : (p : ℤ) (x : X) (gs : List (ℤ × List X)) → k x ≡ None → told (front p x gs) ≡ told gs
  added_none p x [] e = ap (λ o. kept p (cons_option o []) []) e
  added_none p x (g ∷ more) e = by (compared p g.0) (added_none p x more e)
    where
      by : Compared p g.0 → told (front p x more) ≡ told more → told (front p x (g ∷ more)) ≡ told (g ∷ more)
      by (Compared.equal f) rec = ap told (front_same p x g more f) ∙ ap (λ o. kept g.0 (cons_option o (filter_map k g.1)) (told more)) e
      by (Compared.less f) rec = ap told (front_below p x g more f) ∙ ap (λ o. kept p (cons_option o []) (told (g ∷ more))) e
      by (Compared.greater f) rec = ap told (front_above p x g more f) ∙ ap (kept g.0 (filter_map k g.1)) rec

  -- a group of a priority below all others
  first : (p : ℤ) (y : Y) (gs : List (ℤ × List X)) → Above p gs → front p y (told gs) ≡ (p, y ∷ []) ∷ told gs
  unfolding Above
  first p y [] a = refl
  first p y (g ∷ more) a = by (filter_map k g.1) (first p y more a.1)
    where
      by : (ys : List Y) → front p y (told more) ≡ (p, y ∷ []) ∷ told more → front p y (kept g.0 ys (told more)) ≡ (p, y ∷ []) ∷ kept g.0 ys (told more)
      by [] rec = rec
      by (z ∷ zs) rec = front_below p y (g.0, z ∷ zs) (told more) a.0

  -- something is
  added_some : (p : ℤ) (x : X) (y : Y) (gs : List (ℤ × List X)) → k x ≡ Some y → Rising gs → told (front p x gs) ≡ front p y (told gs)
  unfolding Above Rising
  added_some p x y [] e up = ap (λ o. kept p (cons_option o []) []) e
  added_some p x y (g ∷ more) e up = by (compared p g.0) (added_some p x y more e up.1)
    where
      joined : (ys : List Y) → p ≡ g.0 → (g.0, y ∷ ys) ∷ told more ≡ front p y (kept g.0 ys (told more))
      joined [] f = sym (ap (λ s. front s y (told more)) f ∙ first g.0 y more up.0)
      joined (z ∷ zs) f = sym (front_same p y (g.0, z ∷ zs) (told more) f)

      passed : (ys : List Y) → int_lt g.0 p ≡ true → kept g.0 ys (front p y (told more)) ≡ front p y (kept g.0 ys (told more))
      passed [] f = refl
      passed (z ∷ zs) f = sym (front_above p y (g.0, z ∷ zs) (told more) f)

      by : Compared p g.0 → told (front p x more) ≡ front p y (told more) → told (front p x (g ∷ more)) ≡ front p y (told (g ∷ more))
      by (Compared.equal f) rec = ap told (front_same p x g more f) ∙ ap (λ o. kept g.0 (cons_option o (filter_map k g.1)) (told more)) e ∙ joined (filter_map k g.1) f
      by (Compared.less f) rec = ap told (front_below p x g more f) ∙ ap (λ o. kept p (cons_option o []) (told (g ∷ more))) e ∙ sym (first p y (g ∷ more) (f, above_more p g.0 more f up.0))
      by (Compared.greater f) rec = ap told (front_above p x g more f) ∙ ap (kept g.0 (filter_map k g.1)) rec ∙ passed (filter_map k g.1) f

  -- the groups of what is told
  pub told_of : (is : List (ℤ × X)) → told (grouped is) ≡ grouped (items is)
  told_of [] = refl
  told_of (i ∷ is) = by (k i.1) refl (told_of is)
    where
      by : (o : Option Y) → k i.1 ≡ o → told (grouped is) ≡ grouped (items is) → told (front i.0 i.1 (grouped is)) ≡ grouped (with_item i.0 o (items is))
      by None e rec = added_none i.0 i.1 (grouped is) e ∙ rec
      by (Some y) e rec = added_some i.0 i.1 y (grouped is) e (rising is) ∙ ap (front i.0 y) rec
