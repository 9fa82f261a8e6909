-- What is left of the beans of a question at each step of resolution.
use Rattle.std.proofs.Common.{◌≡◌, ◌∙◌, ℕ, ◌&&◌, Bool, true, false, cond, List, [], ◌∷◌, Option, Some, None, filter, refl, sym, ap}
use Rattle.std.specs.Prelude.{ℤ, slice_get, option_map, option_and_then}
use Rattle.std.specs.List.{cons_option}
use Rattle.cdi_beans.specs.declared.bean.Bean.{Bean}
use Rattle.cdi_resolve.specs.Filters.{required_of, has_priority}
use Rattle.cdi_resolve.specs.Narrowing.{has_asked, passes, if_passing, left_in, left_of, eligible_of}
use Rattle.cdi_resolve.specs.Resolution.{sole, alternatives, all_have_priority, greatest_priority, with_greatest, highest, just_one, by_priority, among_alternatives, among_eligible}
use Rattle.cdi_resolve.specs.BeanRows.{listed}
use Rattle.cdi_resolve.specs.declared.filter.Left.{Left}
use Rattle.cdi_resolve.specs.declared.filter.Left.TheVariants as lefts
use Rattle.cdi_resolve.specs.declared.question.Question.{Question}
use Rattle.cdi_resolve.specs.declared.resolution.Resolution.{Resolution}
use Rattle.cdi_resolve.specs.declared.resolution.Resolution.TheVariants.{One, Many}
use Rattle.cdi_resolve.proofs.Counting.{highest_with}
use Rattle.cdi_resolve.proofs.Filtering.{filter_both}

module _ (q : Question) where
  module _ (left : Left) where
    abbrev passing : ℕ × Bean → Bool
    passing b = passes q.ty (required_of q.required) left b.1

    one_left_of : (i : ℕ) (xs ys : List (ℕ × Bean)) → xs ≡ ys → (t : Bool) (b : Bean) → cons_option (option_map (λ (x : Bean). (i, x)) (cond t (Some b) None)) xs ≡ cond t ((i, b) ∷ ys) ys
    one_left_of i xs ys e true b = ap (λ zs. (i, b) ∷ zs) e
    one_left_of i xs ys e false b = e

    next_left_of : (i : ℕ) (row : List ℕ) → left_in q left row ≡ filter passing (listed q.beans.now row) → (o : Option Bean) → cons_option (option_map (λ (x : Bean). (i, x)) (option_and_then (if_passing q.ty (required_of q.required) left) o)) (left_in q left row) ≡ filter passing (cons_option (option_map (λ (x : Bean). (i, x)) o) (listed q.beans.now row))
    next_left_of i row e None = e
    next_left_of i row e (Some b) = one_left_of i (left_in q left row) (filter passing (listed q.beans.now row)) e (passes q.ty (required_of q.required) left b) b

    -- those that are left, found in one look and in two
    pub left_filtered : (row : List ℕ) → left_in q left row ≡ filter passing (listed q.beans.now row)
    left_filtered [] = refl
    left_filtered (i ∷ row) = next_left_of i row (left_filtered row) (slice_get q.beans.now i)

  abbrev having : ℕ × Bean → Bool
  having b = has_asked q.ty (required_of q.required) b.1

  pub eligible_left : left_of q lefts.Eligible ≡ eligible_of q
  eligible_left = left_filtered lefts.Eligible q.row.now

  pub alternatives_left : left_of q lefts.Alternatives ≡ alternatives (eligible_of q)
  alternatives_left = left_filtered lefts.Alternatives q.row.now ∙ sym (filter_both having (λ b. b.1.alternative) (listed q.beans.now q.row.now))

  pub priority_left : (priority : ℤ) → left_of q (lefts.WithPriority priority) ≡ with_greatest (Some priority) (alternatives (eligible_of q))
  priority_left priority =
      left_filtered (lefts.WithPriority priority) q.row.now
      ∙ sym (ap (filter (λ b. has_priority priority b.1)) (filter_both having (λ b. b.1.alternative) (listed q.beans.now q.row.now)) ∙ filter_both (λ b. having b && b.1.alternative) (λ b. has_priority priority b.1) (listed q.beans.now q.row.now))

-- what is told at once, and what has to be narrowed down
pub told_eligible : (beans : List (ℕ × Bean)) → ((sole beans ≡ Many → ⊥)) → sole beans ≡ among_eligible beans
told_eligible [] few = refl
told_eligible (b ∷ []) few = refl
told_eligible (a ∷ b ∷ bs) few = absurd (few refl)

pub many_eligible : (beans : List (ℕ × Bean)) → Many ≡ sole beans → among_alternatives (alternatives beans) ≡ among_eligible beans
many_eligible [] many = absurd cc
many_eligible (b ∷ []) many = absurd cc
many_eligible (a ∷ b ∷ bs) many = refl

pub one_alternative : (beans : List (ℕ × Bean)) (b : ℕ) → One b ≡ sole beans → One b ≡ among_alternatives beans
one_alternative [] b one = absurd cc
one_alternative (c ∷ []) b one = one
one_alternative (a ∷ c ∷ bs) b one = absurd cc

pub other_alternatives : (beans : List (ℕ × Bean)) → ((b : ℕ) → sole beans ≡ One b → ⊥) → by_priority beans ≡ among_alternatives beans
other_alternatives [] other = refl
other_alternatives (b ∷ []) other = absurd (other b.0 refl)
other_alternatives (a ∷ b ∷ bs) other = refl

pub one_left : (beans : List (ℕ × Bean)) (b : ℕ) → One b ≡ sole beans → One b ≡ just_one beans
one_left [] b one = absurd cc
one_left (c ∷ []) b one = one
one_left (a ∷ c ∷ bs) b one = absurd cc

pub others_left : (beans : List (ℕ × Bean)) → ((b : ℕ) → sole beans ≡ One b → ⊥) → Many ≡ just_one beans
others_left [] other = refl
others_left (b ∷ []) other = absurd (other b.0 refl)
others_left (a ∷ b ∷ bs) other = refl

-- what the highest priority of some beans tells, which is none if not all have one
pub no_highest : (beans : List (ℕ × Bean)) → None ≡ highest_with None beans → Many ≡ by_priority beans
no_highest beans none = by (all_have_priority beans) refl none
  where
    by : (all : Bool) → all_have_priority beans ≡ all → None ≡ cond all (greatest_priority beans) None → Many ≡ cond all (just_one (highest beans)) Many
    by true e h = ap (λ p. just_one (with_greatest p beans)) h
    by false e h = refl

pub some_highest : (beans : List (ℕ × Bean)) (priority : ℤ) (told : Resolution) → highest_with None beans ≡ Some priority → told ≡ just_one (with_greatest (Some priority) beans) → told ≡ by_priority beans
some_highest beans priority told some is = by (all_have_priority beans) some
  where
    by : (all : Bool) → cond all (greatest_priority beans) None ≡ Some priority → told ≡ cond all (just_one (highest beans)) Many
    by true h = is ∙ sym (ap (λ p. just_one (with_greatest p beans)) h)
    by false h = absurd cc
