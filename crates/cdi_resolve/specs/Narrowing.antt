-- Which of the beans that are looked at are left at a step of resolution.
use Rattle.std.specs.Prelude.{ℕ, ◌&&◌, Bool, true, List, Option, Some, None, option_map, option_and_then, slice_get, filter, if◌then◌else◌}
use Rattle.std.specs.List.{filter_map}
use Rattle.cdi_beans.specs.declared.bean.Bean.{Bean}
use Rattle.cdi_quals.specs.declared.qualifier.Qualifier.{Qualifier}
use Rattle.cdi_resolve.specs.BeanRows.{listed}
use Rattle.cdi_resolve.specs.Filters.{has_type, has_required, has_priority, required_of}
use Rattle.cdi_resolve.specs.declared.filter.Left.{Left}
use Rattle.cdi_resolve.specs.declared.filter.Left.TheVariants as lefts
use Rattle.cdi_resolve.specs.declared.question.Question.{Question}

-- a bean has the type, if one is asked for
abbrev pub has_asked_type : Option ℕ → Bean → Bool
has_asked_type None b = true
has_asked_type (Some type) b = has_type type b

-- a bean has the type, if one is asked for, and the required qualifiers
abbrev pub has_asked : Option ℕ → List Qualifier → Bean → Bool
has_asked type qualifiers b = has_asked_type type b && has_required qualifiers b

-- a bean has what is asked for, and is left of those that do
abbrev pub passes : Option ℕ → List Qualifier → Left → Bean → Bool
passes type qualifiers lefts.Eligible b = has_asked type qualifiers b
passes type qualifiers lefts.Alternatives b = has_asked type qualifiers b && b.alternative
passes type qualifiers (lefts.WithPriority priority) b =
    (has_asked type qualifiers b && b.alternative) && has_priority priority b

abbrev pub if_passing : Option ℕ → List Qualifier → Left → Bean → Option Bean
if_passing type qualifiers left b = if passes type qualifiers left b then Some b else None

-- the bean of a question with an index, if it is left
abbrev pub left_at : Question → Left → ℕ → Option Bean
left_at q left index =
    option_and_then (if_passing q.ty (required_of q.required) left) (slice_get q.beans.now index)

-- those that are left of the ones with these indices
abbrev pub left_in : Question → Left → List ℕ → List (ℕ × Bean)
left_in q left row = filter_map (λ i. option_map (λ b. (i, b)) (left_at q left i)) row

abbrev pub left_of : Question → Left → List (ℕ × Bean)
left_of q left = left_in q left q.row.now

-- the beans of a question that have what is asked for
abbrev pub eligible_of : Question → List (ℕ × Bean)
eligible_of q =
    filter (λ b. has_asked q.ty (required_of q.required) b.1) (listed q.beans.now q.row.now)
