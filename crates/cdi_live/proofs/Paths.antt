-- A path of the graph is a chain of needs, and each chain of needs is a path.
use Rattle.std.proofs.Common.{◌≡◌, ◌∙◌, ℕ, ◌+◌, ◌-◌, ◌<◌, ◌≤◌, Bool, true, false, cond, ◌&&◌, List, [], ◌++◌, length, map, Option, Some, None, nat_lt, ◌⊎◌, inl, inr, refl, sym, ap, subst, arith}
use Rattle.std.specs.Prelude.{Contains, slice_get, slice_index, option_and_then, ◌↔◌}
use Rattle.std.specs.List.{filter_map}
use Rattle.std.proofs.lemmas.Bool.Decides.{nat_tests}
use Rattle.std.proofs.lemmas.List.{get_or_past, get_or_default}
use Rattle.std.proofs.lemmas.Option.{slice_get_past}
use Rattle.cdi_base.specs.Maps.{at}
use Rattle.cdi_beans.specs.declared.bean.Bean.{Bean}
use Rattle.cdi_plans.specs.Chains.{interceptors_of, intercepts}
use Rattle.cdi_deployment.specs.declared.deployment.Point.{Point}
use Rattle.cdi_resolve.specs.Filters.{enabled_beans, is_bean_of}
use Rattle.cdi_bean_check.specs.ManagedBeans.{is_dependent}
use Rattle.cdi_types.specs.Line.{class_named}
use Rattle.cdi_types.proofs.Lines.{one_line}
use Rattle.cdi_live.specs.Points.{field_point}
use Rattle.cdi_live.specs.PointProblems.{resolved}
use Rattle.cdi_paths.specs.Graph.{targets_of, Path, ProperPath}
use Rattle.cdi_resolve.specs.declared.resolution.Resolution.{Resolution}
use Rattle.cdi_resolve.specs.declared.resolution.Resolution.TheVariants.{Nothing, One, Many}
use Rattle.cdi_live.specs.Graphs.{Counts, number_of, node_of, IsRowOf, HasRows}
use Rattle.cdi_live.specs.Needs.{is_dependent_bean, dependent_bean, needed_at, declaring_bean, NeedsThose, Needs, NeedsInTurn}
use Rattle.cdi_live.specs.OwnPoints.{Inventory, AreManagedPoints, constructor_points, line_points, product_points, product_name, interceptor_points, fields_of_some}
use Rattle.cdi_live.specs.declared.node.Node.{Node}
use Rattle.cdi_live.specs.declared.node.Node.TheVariants as nodes
use Rattle.cdi_live.proofs.Members.{in_either, found_in, stands_in, image_in}
use Rattle.cdi_live.proofs.RowNumbers.{same_as}
use Rattle.cdi_live.proofs.Within.{at_within, listed_within, place_within}

-- a node has one number, and a number one node
pub node_of_number : (n : Counts) (y : Node) (x : ℕ) → number_of n y ≡ Some x → node_of n x ≡ y
node_of_number n (nodes.Bean i) x e = by (nat_lt i n.beans) refl e
  where
    by : (b : Bool) → nat_lt i n.beans ≡ b → cond b (Some i) None ≡ Some x → node_of n x ≡ nodes.Bean i
    by true lt h = let same : i ≡ x = cc in ap (λ j. node_of n j) (sym same) ∙ ap (λ b. cond b (nodes.Bean i) (nodes.Interceptor (i - n.beans))) lt
    by false lt h = absurd cc
node_of_number n (nodes.Interceptor k) x e = by (nat_lt k n.interceptors) e
  where
    past : nat_lt (n.beans + k) n.beans ≡ false
    past = grind (arith, nat_tests)

    by : (b : Bool) → cond b (Some (n.beans + k)) None ≡ Some x → node_of n x ≡ nodes.Interceptor k
    by true h =
        let same : n.beans + k ≡ x = cc in
        let back : (n.beans + k) - n.beans ≡ k = omega arith in
        ap (λ j. node_of n j) (sym same) ∙ ap (λ b. cond b (nodes.Bean (n.beans + k)) (nodes.Interceptor ((n.beans + k) - n.beans))) past ∙ ap (λ j. nodes.Interceptor j) back
    by false h = absurd cc

-- what is needed at a node is determined
module _ (s : Inventory) where
  one_points : (b : Bean) (ps qs : List Point) → AreManagedPoints s b ps → AreManagedPoints s b qs → ps ≡ qs
  one_points b ps qs p q =
      p.are ∙ ap (λ line. constructor_points (class_named s.enabled.classes b.class) ++ line_points line) (one_line s.enabled.types s.enabled.classes b.class p.line q.line p.is_line q.is_line) ∙ sym q.are

  abbrev managed_list : Bean → List Point → List Node
  managed_list b ps = filter_map (needed_at s) ps ++ map (λ k. nodes.Interceptor k) (interceptors_of s.chains b)

  abbrev product_list : Bean → ℕ → List Node
  product_list b name = filter_map (needed_at s) (product_points s b name) ++ filter_map (declaring_bean b.class) s.enabled.beans

  pub one_list : (x : Node) (ys zs : List Node) → NeedsThose s x ys → NeedsThose s x zs → ys ≡ zs
  one_list x ys zs (NeedsThose.managed {b = b} {points = ps} t k a) (NeedsThose.managed {b = c} {points = qs} t' k' a') =
      let same : b ≡ c = cc in
      let A : Bean → Type 0 = λ d. AreManagedPoints s d qs in
      ap (managed_list b) (one_points b ps qs a (subst A (sym same) a')) ∙ ap (λ d. managed_list d qs) same
  one_list x ys zs (NeedsThose.managed {b = b} t k a) (NeedsThose.product {b = c} t' k') =
      let same : b ≡ c = cc in
      let none : product_name c.kind ≡ None = ap product_name (ap (λ (d : Bean). d.kind) (sym same) ∙ k) in
      absurd cc
  one_list x ys zs (NeedsThose.product {b = b} t k) (NeedsThose.managed {b = c} t' k' a') =
      let same : b ≡ c = cc in
      let none : product_name b.kind ≡ None = ap product_name (ap (λ (d : Bean). d.kind) same ∙ k') in
      absurd cc
  one_list x ys zs (NeedsThose.product {name = m} {b = b} t k) (NeedsThose.product {name = n} {b = c} t' k') =
      let same : b ≡ c = cc in
      let named : Some m ≡ Some n = sym k ∙ ap (λ (d : Bean). product_name d.kind) same ∙ k' in
      let name : m ≡ n = cc in
      ap (product_list b) name ∙ ap (λ d. product_list d n) same
  one_list x ys zs NeedsThose.interceptor NeedsThose.interceptor = refl

-- what is needed is a node of the graph
module _ (s : Inventory) (n : Counts) (beans : List Bean) (flags : List Bool) (enabled : s.enabled.beans ≡ enabled_beans beans flags) (all_beans : n.beans ≡ length beans) (all_interceptors : n.interceptors ≡ length s.enabled.interceptors) (same_interceptors : s.chains.interceptors ≡ s.enabled.interceptors) where
  record Numbered (y : Node) : Type 0 where
    pub number : ℕ
    pub is : number_of n y ≡ Some number

  bean_numbered : (j : ℕ) → j < length beans → Numbered (nodes.Bean j)
  bean_numbered j lt =
      let within : nat_lt j n.beans ≡ true = grind (arith, nat_tests) in
      record { number = j; is = ap (λ b. cond b (Some j) None) within }

  interceptor_numbered : (k : ℕ) → k < n.interceptors → Numbered (nodes.Interceptor k)
  interceptor_numbered k lt =
      let within : nat_lt k n.interceptors ≡ true = grind (arith, nat_tests) in
      record { number = n.beans + k; is = ap (λ b. cond b (Some (n.beans + k)) None) within }

  found_bean : (j : ℕ) (o : Option Bean) → at s.enabled.beans j ≡ o → is_dependent_bean o ≡ true → j < length beans
  found_bean j None there d = absurd cc
  found_bean j (Some b) there d = at_within beans flags j b (ap (λ bs. at bs j) (sym enabled) ∙ there)

  of_resolution : (r : Resolution) (y : Node) → dependent_bean s.enabled r ≡ Some y → Numbered y
  of_resolution Nothing y e = absurd cc
  of_resolution Many y e = absurd cc
  of_resolution (One j) y e = by (is_dependent_bean (at s.enabled.beans j)) refl e
    where
      by : (d : Bool) → is_dependent_bean (at s.enabled.beans j) ≡ d → cond d (Some (nodes.Bean j)) None ≡ Some y → Numbered y
      by true h e = let same : nodes.Bean j ≡ y = cc in subst Numbered same (bean_numbered j (found_bean j (at s.enabled.beans j) refl h))
      by false h e = absurd cc

  of_declaring : (class : ℕ) (p : ℕ × Bean) (y : Node) → Contains s.enabled.beans p → declaring_bean class p ≡ Some y → Numbered y
  of_declaring class p y listed e = by (is_bean_of class p && is_dependent p.1.scope) e
    where
      within : p.0 < length beans
      within = listed_within beans flags p (let P : List (ℕ × Bean) → Type 0 = λ bs. Contains bs p in subst P enabled listed)

      by : (d : Bool) → cond d (Some (nodes.Bean p.0)) None ≡ Some y → Numbered y
      by true e = let same : nodes.Bean p.0 ≡ y = cc in subst Numbered same (bean_numbered p.0 (listed_within beans flags p (let P : List (ℕ × Bean) → Type 0 = λ bs. Contains bs p in subst P enabled listed)))
      by false e = absurd cc

  of_points : (ps : List Point) (y : Node) → Contains (filter_map (needed_at s) ps) y → Numbered y
  of_points ps y c = let found = found_in (needed_at s) ps y c in of_resolution (resolved s.qualifiers s.enabled found.item) y found.is

  of_interceptors : (b : Bean) (y : Node) → Contains (map (λ k. nodes.Interceptor k) (interceptors_of s.chains b)) y → Numbered y
  of_interceptors b y c =
      let found = image_in (λ k. nodes.Interceptor k) (interceptors_of s.chains b) y c in
      let there = found.there in
      let below : slice_index (interceptors_of s.chains b) there.0 < 0 + length s.chains.interceptors = place_within (intercepts s.chains b) 0 s.chains.interceptors there.0 there.1 in
      let is : slice_index (interceptors_of s.chains b) there.0 ≡ found.item = get_or_default (interceptors_of s.chains b) there.0 0 found.item there.1 ∙ there.2 in
      let same : length s.chains.interceptors ≡ length s.enabled.interceptors = ap length same_interceptors in
      let within : found.item < n.interceptors = omega (arith, all_interceptors) in
      subst Numbered found.is (interceptor_numbered found.item within)

  numbered : (x : Node) (ys : List Node) (y : Node) → NeedsThose s x ys → Contains ys y → Numbered y
  numbered x ys y (NeedsThose.managed {b = b} {points = ps} t k a) c = by (in_either (filter_map (needed_at s) ps) (map (λ k. nodes.Interceptor k) (interceptors_of s.chains b)) y c)
    where
      by : Contains (filter_map (needed_at s) ps) y ⊎ Contains (map (λ k. nodes.Interceptor k) (interceptors_of s.chains b)) y → Numbered y
      by (inl d) = of_points ps y d
      by (inr d) = of_interceptors b y d
  numbered x ys y (NeedsThose.product {name = m} {b = b} t k) c = by (in_either (filter_map (needed_at s) (product_points s b m)) (filter_map (declaring_bean b.class) s.enabled.beans) y c)
    where
      by : Contains (filter_map (needed_at s) (product_points s b m)) y ⊎ Contains (filter_map (declaring_bean b.class) s.enabled.beans) y → Numbered y
      by (inl d) = of_points (product_points s b m) y d
      by (inr d) = let found = found_in (declaring_bean b.class) s.enabled.beans y d in of_declaring b.class found.item y found.there found.is
  numbered x ys y (NeedsThose.interceptor {k = k}) c = of_points (interceptor_points s k) y c

  module _ (g : List (List ℕ)) (rows : HasRows s n n.interceptors g) where
    row_of : (x : ℕ) → IsRowOf s n (node_of n x) (targets_of g x)
    row_of x = by (nat_lt x n.beans) refl
      where
        behind : (k : ℕ) → n.beans + k ≡ x → (b : Bool) → nat_lt k n.interceptors ≡ b → IsRowOf s n (nodes.Interceptor k) (targets_of g x)
        behind k e true h =
            let lt : k < n.interceptors = grind (arith, nat_tests) in
            let P : ℕ → Type 0 = λ y. IsRowOf s n (nodes.Interceptor k) (targets_of g y) in
            subst P e (rows.interceptor_rows k lt)
        behind k e false h =
            let past : n.interceptors ≤ k = grind (arith, nat_tests) in
            let over : length s.enabled.interceptors ≤ k = omega (arith, all_interceptors) in
            let long : length g ≤ x = omega (arith, rows.len) in
            let none : interceptor_points s k ≡ [] = ap (λ o. map field_point (fields_of_some (option_and_then (λ j. slice_get s.interceptors j.index) o))) (slice_get_past s.enabled.interceptors k over) in
            let empty : targets_of g x ≡ filter_map (number_of n) (filter_map (needed_at s) (interceptor_points s k)) = get_or_past g x [] long ∙ sym (ap (λ ps. filter_map (number_of n) (filter_map (needed_at s) ps)) none) in
            IsRowOf.needing (filter_map (needed_at s) (interceptor_points s k)) NeedsThose.interceptor (same_as (targets_of g x) _ empty)

        by : (b : Bool) → nat_lt x n.beans ≡ b → IsRowOf s n (cond b (nodes.Bean x) (nodes.Interceptor (x - n.beans))) (targets_of g x)
        by true h = let lt : x < n.beans = grind (arith, nat_tests) in rows.bean_rows x lt
        by false h =
            let past : n.beans ≤ x = grind (arith, nat_tests) in
            let e : n.beans + (x - n.beans) ≡ x = omega arith in
            behind (x - n.beans) e (nat_lt (x - n.beans) n.interceptors) refl

    abbrev node : ℕ → Node
    node x = node_of n x

    need_of : (a b : ℕ) → Contains (targets_of g a) b → Needs s (node a) (node b)
    need_of a b c = by (row_of a)
      where
        by : IsRowOf s n (node_of n a) (targets_of g a) → Needs s (node_of n a) (node_of n b)
        by (IsRowOf.needing those t is) =
            let found = found_in (number_of n) those b (is.sound b c) in
            let Q : Node → Type 0 = λ y. Contains those y in
            record { those = those; needs = t; listed = subst Q (sym (node_of_number n found.item b found.is)) found.there }
        by (IsRowOf.unknown none is) = let P : List ℕ → Type 0 = λ row. Contains row b in let empty : Contains [] b = subst P is c in absurd (omega (arith, empty.1))

    pub needs_along : (a b c : ℕ) → Contains (targets_of g a) b → Path g b c → NeedsInTurn s (node a) (node c)
    needs_along a b c first Path.here = NeedsInTurn.directly (need_of a b first)
    needs_along a b c first (Path.step {b = d} next rest) = NeedsInTurn.further (need_of a b first) (needs_along b d c next rest)

    pub record Step (a : ℕ) (y : Node) : Type 0 where
      pub to : ℕ
      pub is : number_of n y ≡ Some to
      pub edge : Contains (targets_of g a) to

    step_of : (a : ℕ) (x y : Node) → node_of n a ≡ x → Needs s x y → Step a y
    step_of a x y at_x need = by (row_of a)
      where
        known : Numbered y
        known = numbered x need.those y need.needs need.listed

        by : IsRowOf s n (node_of n a) (targets_of g a) → Step a y
        by (IsRowOf.needing those t is) =
            let N : Node → Type 0 = λ z. NeedsThose s z those in
            let same : those ≡ need.those = one_list s x those need.those (subst N at_x t) need.needs in
            let C : List Node → Type 0 = λ ys. Contains ys y in
            let k = numbered x need.those y need.needs need.listed in
            record { to = k.number; is = k.is; edge = is.complete k.number (stands_in (number_of n) those y k.number (subst C (sym same) need.listed) k.is) }
        by (IsRowOf.unknown none is) = let N : Node → Type 0 = λ z. NeedsThose s z need.those in absurd (none need.those (subst N (sym at_x) need.needs))

    pub record Along (a : ℕ) (z : Node) : Type 0 where
      pub to : ℕ
      pub is : number_of n z ≡ Some to
      pub path : ProperPath g a to

    pub along_needs : (a : ℕ) (x z : Node) → node_of n a ≡ x → NeedsInTurn s x z → Along a z
    along_needs a x z at_x (NeedsInTurn.directly need) = let e = step_of a x z at_x need in record { to = e.to; is = e.is; path = (e.to, e.edge, Path.here) }
    along_needs a x z at_x (NeedsInTurn.further {y = y} need rest) =
        let e = step_of a x y at_x need in
        let more = along_needs e.to y z (node_of_number n y e.to e.is) rest in
        let tail = more.path in
        record { to = more.to; is = more.is; path = (e.to, e.edge, Path.step tail.1 tail.2) }

    -- a node that has a number lies on a cycle of the graph exactly if it needs itself
    pub same_cycles : (x : Node) (a : ℕ) → number_of n x ≡ Some a → ProperPath g a a ↔ NeedsInTurn s x x
    same_cycles x a numbered_so =
        let at_x : node_of n a ≡ x = node_of_number n x a numbered_so in
        let P : Node → Type 0 = λ y. NeedsInTurn s y y in
        let back : NeedsInTurn s x x → ProperPath g a a = λ t. (
        let along = along_needs a x x at_x t in
        let same : along.to ≡ a = cc in
        let Q : ℕ → Type 0 = λ c. ProperPath g a c in
        subst Q same along.path
        ) in
        (λ p. subst P at_x (needs_along a p.0 a p.1 p.2), back)

    -- what needs something is a bean or an interceptor that is there
    pub bean_there : (i : ℕ) (z : Node) → NeedsInTurn s (nodes.Bean i) z → i < n.beans
    bean_there i z (NeedsInTurn.directly need) = by need.those need.needs
      where
        by : (ys : List Node) → NeedsThose s (nodes.Bean i) ys → i < n.beans
        by ys (NeedsThose.managed {b = b} t k a) = let lt = at_within beans flags i b (ap (λ bs. at bs i) (sym enabled) ∙ t) in omega arith
        by ys (NeedsThose.product {b = b} t k) = let lt = at_within beans flags i b (ap (λ bs. at bs i) (sym enabled) ∙ t) in omega arith
    bean_there i z (NeedsInTurn.further need rest) = by need.those need.needs
      where
        by : (ys : List Node) → NeedsThose s (nodes.Bean i) ys → i < n.beans
        by ys (NeedsThose.managed {b = b} t k a) = let lt = at_within beans flags i b (ap (λ bs. at bs i) (sym enabled) ∙ t) in omega arith
        by ys (NeedsThose.product {b = b} t k) = let lt = at_within beans flags i b (ap (λ bs. at bs i) (sym enabled) ∙ t) in omega arith

    pub bean_cycle : (i : ℕ) → i < n.beans → ProperPath g i i ↔ NeedsInTurn s (nodes.Bean i) (nodes.Bean i)
    bean_cycle i lt = let within : nat_lt i n.beans ≡ true = grind (arith, nat_tests) in same_cycles (nodes.Bean i) i (ap (λ b. cond b (Some i) None) within)

    interceptor_needs_none : (k : ℕ) (y : Node) → n.interceptors ≤ k → Needs s (nodes.Interceptor k) y → ⊥
    interceptor_needs_none k y past need = by need.those need.needs need.listed
      where
        by : (ys : List Node) → NeedsThose s (nodes.Interceptor k) ys → Contains ys y → ⊥
        by ys NeedsThose.interceptor c =
            let over : length s.enabled.interceptors ≤ k = omega (arith, all_interceptors) in
            let none : interceptor_points s k ≡ [] = ap (λ o. map field_point (fields_of_some (option_and_then (λ j. slice_get s.interceptors j.index) o))) (slice_get_past s.enabled.interceptors k over) in
            let P : List Point → Type 0 = λ ps. Contains (filter_map (needed_at s) ps) y in
            let empty : Contains [] y = subst P none c in
            omega (arith, empty.1)

    pub interceptor_there : (k : ℕ) (z : Node) → n.interceptors ≤ k → NeedsInTurn s (nodes.Interceptor k) z → ⊥
    interceptor_there k z past (NeedsInTurn.directly need) = interceptor_needs_none k z past need
    interceptor_there k z past (NeedsInTurn.further {y = y} need rest) = interceptor_needs_none k y past need

    pub interceptor_cycle : (k : ℕ) → k < n.interceptors → ProperPath g (n.beans + k) (n.beans + k) ↔ NeedsInTurn s (nodes.Interceptor k) (nodes.Interceptor k)
    interceptor_cycle k lt = let within : nat_lt k n.interceptors ≡ true = grind (arith, nat_tests) in same_cycles (nodes.Interceptor k) (n.beans + k) (ap (λ b. cond b (Some (n.beans + k)) None) within)
