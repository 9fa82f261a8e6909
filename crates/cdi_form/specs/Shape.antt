-- The first place where a value is not of the form that is wanted, as a JSON Pointer (RFC 6901).
-- A key that is not listed is never stepped into, so no key needs an escape.
use Rattle.std.specs.Prelude.{ℕ, ◌+◌, ◌==◌, Bool, true, false, List, [], ◌∷◌, ◌++◌, decimal, Option, Some, None, if◌then◌else◌, nat_le}
use Rattle.std.specs.Option.{is_some}
use Rattle.cdi_form.specs.ValueForms.{use_in}
use Rattle.serde_json.specs.Data.{Num, unsigned, negative, float, Data, null, boolean, number, string, array, object, Items, no_items, item, Members, no_members, member}
use Rattle.cdi_form.specs.declared.form.Kind.{Kind}
use Rattle.cdi_form.specs.declared.form.Part.{Part}
use Rattle.cdi_form.specs.declared.form.Part.TheVariants as parts
use Rattle.cdi_form.specs.Form.{part_at, item_part}
use Rattle.cdi_form.specs.Keys.{has_right_keys, kind_of}
use Rattle.cdi_form.specs.Words.{scope_named}

-- ---- what may stand at a part, as far as that is seen without looking inside

abbrev pub may_be_null : Part → Bool
may_be_null parts.Value = true
may_be_null _ = false

abbrev pub may_be_mark : Part → Bool
may_be_mark parts.Mark = true
may_be_mark _ = false

-- a number up to the most that is allowed
abbrev pub is_count : ℕ → Num → Bool
is_count most (unsigned n) = nat_le n most
is_count most (negative z) = false
is_count most (float x) = false

abbrev pub is_one : Num → Bool
is_one (unsigned n) = n == 1
is_one (negative z) = false
is_one (float x) = false

abbrev pub may_be_number : Part → Num → Bool
may_be_number parts.FormNumber n = is_one n
may_be_number parts.Value n = true
may_be_number parts.WholeNumber n = true
may_be_number parts.ArgumentCount n = is_count 8 n
may_be_number _ n = false

abbrev pub may_be_text : Part → List ℕ → Bool
may_be_text parts.Name s = true
may_be_text parts.Value s = true
may_be_text parts.MemberKind s = true
may_be_text parts.Use s = true
may_be_text parts.Scope s = is_some (scope_named s)
may_be_text _ s = false

abbrev pub has_item : Data → Bool
has_item (array (item d ds)) = true
has_item _ = false

abbrev pub may_be_array : Part → Data → Bool
may_be_array parts.Names d = true
may_be_array parts.Uses d = true
may_be_array (parts.Objects kind) d = true
may_be_array parts.Members d = true
may_be_array parts.Steps d = true
may_be_array parts.SomeUses d = has_item d
may_be_array parts.Use d = is_some (use_in d)
may_be_array _ d = false

-- ---- places

-- a place is wrong itself, or not at all
abbrev pub here_unless : Bool → Option (List ℕ)
here_unless b = if b then None else Some []

-- a wrong place, seen from one step above it
abbrev pub under : List ℕ → Option (List ℕ) → Option (List ℕ)
under step None = None
under step (Some path) = Some (47 ∷ step ++ path)

-- the first of two wrong places
abbrev pub or_else : Option (List ℕ) → Option (List ℕ) → Option (List ℕ)
or_else None later = later
or_else (Some path) later = Some path

-- an object without a kind is wrong itself
abbrev pub in_kind : Option Kind → (Kind → Option (List ℕ)) → Option (List ℕ)
in_kind None inside = Some []
in_kind (Some kind) inside = inside kind

-- there is nothing to look at where no part is known
abbrev pub at_part : Option Part → (Part → Option (List ℕ)) → Option (List ℕ)
at_part None inside = None
at_part (Some part) inside = inside part

-- an object is looked at itself before its members, and members and items are looked at in their order
abbrev mutual
  pub wrong : Data → Part → Option (List ℕ)
  wrong null part = here_unless (may_be_null part)
  wrong (boolean b) part = here_unless (may_be_mark part)
  wrong (number n) part = here_unless (may_be_number part n)
  wrong (string s) part = here_unless (may_be_text part s)
  wrong (array ds) part =
      if may_be_array part (array ds)
      then at_part (item_part part) (λ inner. wrong_items ds inner 0)
      else Some []
  wrong (object ms) part =
      in_kind (kind_of part ms)
      (λ kind. if has_right_keys kind ms then wrong_members ms kind else Some [])

  pub wrong_items : Items → Part → ℕ → Option (List ℕ)
  wrong_items no_items part i = None
  wrong_items (item d ds) part i = or_else (under (decimal i) (wrong d part))
      (wrong_items ds part (i + 1))

  pub wrong_members : Members → Kind → Option (List ℕ)
  wrong_members no_members kind = None
  wrong_members (member key d ms) kind =
      or_else (under key (at_part (part_at kind key) (λ part. wrong d part)))
      (wrong_members ms kind)
