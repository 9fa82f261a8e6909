-- The rows of the graph, one after the other.
use Rattle.std.proofs.Common.{◌≡◌, ◌∙◌, ℕ, ◌+◌, ◌-◌, ◌<◌, ◌≤◌, Bool, true, false, cond, get_or, List, [], ◌∷◌, ◌++◌, length, Some, None, ◌⊎◌, inl, inr, nat_lt, refl, sym, ap, subst, arith, below_more, length-append}
use Rattle.std.proofs.Math.Seq.{get_or-append_seam}
use Rattle.std.proofs.lemmas.Bool.{cases_lt}
use Rattle.std.proofs.lemmas.Bool.Decides.{nat_tests}
use Rattle.std.proofs.lemmas.List.{get_or_append_left, get_or_default}
use Rattle.std.specs.Prelude.{All, Contains}
use Rattle.cdi_paths.specs.Graph.{targets_of, IsGraph}
use Rattle.cdi_live.specs.Graphs.{Counts, number_of, IsRowOf, HasBeanRows, HasRows}
use Rattle.cdi_live.specs.OwnPoints.{Inventory}
use Rattle.cdi_live.specs.declared.node.Node.{Node}
use Rattle.cdi_live.specs.declared.node.Node.TheVariants.{Bean, Interceptor}
use Rattle.cdi_live.proofs.Members.{found_in}

module _ (g : List (List ℕ)) (row : List ℕ) where
  old_row : (i : ℕ) → i < length g → targets_of (g ++ row ∷ []) i ≡ targets_of g i
  old_row i lt = get_or_append_left g (row ∷ []) [] i lt

  new_row : (i : ℕ) → i ≡ length g → targets_of (g ++ row ∷ []) i ≡ row
  new_row i e = ap (targets_of (g ++ row ∷ [])) e ∙ get_or-append_seam g row [] []

  longer : length (g ++ row ∷ []) ≡ length g + 1
  longer = length-append g (row ∷ [])

  module _ (s : Inventory) (n : Counts) (i : ℕ) where
    pub bean_row_more : HasBeanRows s n i g → IsRowOf s n (Bean i) row → HasBeanRows s n (i + 1) (g ++ row ∷ [])
    bean_row_more h r =
        let P : ℕ → Type 0 = λ j. IsRowOf s n (Bean j) (targets_of (g ++ row ∷ []) j) in
        record {
          len = longer ∙ ap (λ k. k + 1) h.len;
          rows = below_more P i (λ j lt. let within : j < length g = omega (arith, h.len) in let Q : List ℕ → Type 0 = IsRowOf s n (Bean j) in subst Q (sym (old_row j within)) (h.rows j lt)) (let Q : List ℕ → Type 0 = IsRowOf s n (Bean i) in subst Q (sym (new_row i (sym h.len))) r);
        }

    pub interceptor_row_more : HasRows s n i g → IsRowOf s n (Interceptor i) row → HasRows s n (i + 1) (g ++ row ∷ [])
    interceptor_row_more h r =
        let P : ℕ → Type 0 = λ k. IsRowOf s n (Interceptor k) (targets_of (g ++ row ∷ []) (n.beans + k)) in
        record {
          len = longer ∙ ap (λ k. k + 1) h.len ∙ (let e : (n.beans + i) + 1 ≡ n.beans + (i + 1) = omega arith in e);
          bean_rows = λ j lt. let within : j < length g = omega (arith, h.len) in let Q : List ℕ → Type 0 = IsRowOf s n (Bean j) in subst Q (sym (old_row j within)) (h.bean_rows j lt);
          interceptor_rows = below_more P i (λ k lt. let within : n.beans + k < length g = omega (arith, h.len) in let Q : List ℕ → Type 0 = IsRowOf s n (Interceptor k) in subst Q (sym (old_row (n.beans + k) within)) (h.interceptor_rows k lt)) (let Q : List ℕ → Type 0 = IsRowOf s n (Interceptor i) in subst Q (sym (new_row (n.beans + i) (sym h.len))) r);
        }

pub no_interceptors : (s : Inventory) (n : Counts) (g : List (List ℕ)) → HasBeanRows s n n.beans g → HasRows s n 0 g
no_interceptors s n g h = record { len = omega (arith, h.len); bean_rows = h.rows; interceptor_rows = λ k lt. absurd (omega arith) }

-- ---- the rows are those of a graph

pub number_below : (n : Counts) (y : Node) (x : ℕ) → number_of n y ≡ Some x → x < n.beans + n.interceptors
number_below n (Bean i) x e = by (nat_lt i n.beans) refl e
  where
    by : (b : Bool) → nat_lt i n.beans ≡ b → cond b (Some i) None ≡ Some x → x < n.beans + n.interceptors
    by true h e = let same : i ≡ x = cc in let lt : i < n.beans = grind (arith, nat_tests) in omega arith
    by false h e = absurd cc
number_below n (Interceptor k) x e = by (nat_lt k n.interceptors) refl e
  where
    by : (b : Bool) → nat_lt k n.interceptors ≡ b → cond b (Some (n.beans + k)) None ≡ Some x → x < n.beans + n.interceptors
    by true h e = let same : n.beans + k ≡ x = cc in let lt : k < n.interceptors = grind (arith, nat_tests) in omega arith
    by false h e = absurd cc

row_below : (s : Inventory) (n : Counts) (x : Node) (row : List ℕ) → IsRowOf s n x row → All (λ b. b < n.beans + n.interceptors) row
row_below s n x row (IsRowOf.needing those t is) = λ k d lt.
    let b = get_or row k d in
    let listed : Contains row b = (k, lt, get_or_default row k b d lt) in
    let found = found_in (number_of n) those b (is.sound b listed) in
    number_below n found.item b found.is
row_below s n x row (IsRowOf.unknown none is) = λ k d lt. let P : List ℕ → Type 0 = λ r. k < length r in let past : k < length {A = ℕ} [] = subst P is lt in absurd (omega arith)

row_of : (s : Inventory) (n : Counts) (g : List (List ℕ)) → HasRows s n n.interceptors g → (x : ℕ) → x < length g → All (λ b. b < n.beans + n.interceptors) (targets_of g x)
row_of s n g rows x lt = by (cases_lt x n.beans)
  where
    by : (x < n.beans) ⊎ (n.beans ≤ x) → All (λ b. b < n.beans + n.interceptors) (targets_of g x)
    by (inl less) = row_below s n (Bean x) (targets_of g x) (rows.bean_rows x less)
    by (inr past) =
        let k = x - n.beans in
        let e : n.beans + k ≡ x = omega arith in
        let within : k < n.interceptors = omega (arith, rows.len) in
        let P : ℕ → Type 0 = λ y. IsRowOf s n (Interceptor k) (targets_of g y) in
        row_below s n (Interceptor k) (targets_of g x) (subst P e (rows.interceptor_rows k within))

pub are_graph : (s : Inventory) (n : Counts) (g : List (List ℕ)) → HasRows s n n.interceptors g → IsGraph g
are_graph s n g rows = λ x d lt.
    let same : targets_of g x ≡ get_or g x d = get_or_default g x [] d lt in
    let P : List ℕ → Type 0 = All (λ b. b < n.beans + n.interceptors) in
    let here : P (get_or g x d) = subst P same (row_of s n g rows x lt) in
    let Q : ℕ → Type 0 = λ m. All (λ b. b < m) (get_or g x d) in
    subst Q (sym rows.len) here
