-- A text that is read as a number.
use Rattle.std.proofs.Common.{◌≡◌, ◌<◌, ◌≤◌, ◌^◌, ℕ, Bool, true, false, Option, Some, None, if◌then◌else◌, unwrap_or, refl, ap, arith}
use Rattle.std.proofs.lemmas.Bool.{false_from_ne_true}
use Rattle.std.specs.Prelude.{Ok, Err}
use Rattle.std.specs.Str.Parse.{ParsesUnsigned, digits_value, without_leading_plus}
use Rattle.clap.proofs.ValueTestLemmas.{Accepts-accepts, accepts-Accepts}
use Rattle.clap.specs.ValueTests.{is_unsigned_in}
use Rattle.clap.specs.Words.{Text}
use Rattle.clap.specs.declared.builder.value_parser.ValueParser.TheVariants.{Unsigned}
use Rattle.cdi_options.specs.Options as spec

-- a number of 32 bits that is read from a text and lies from 1 to `most` is the number of the option
pub of_read : (usual most : ℕ) (text : Text) (number : ℕ) → ParsesUnsigned {E = Unit {0}} 32 10 text (Ok number) → 1 ≤ number → number ≤ most
    → Some number ≡ spec.number_in_range usual most (Some text)
of_read usual most text number read least within =
    let fits : digits_value 10 (without_leading_plus text) < 2 ^ 64 = omega arith in
    let is : is_unsigned_in 1 most text ≡ true =
    Accepts-accepts false (Unsigned 1 most) text (read.0.0, fits, omega arith, omega arith) in
    rw is (ap (λ n. Some n) read.1)

-- a text that isn't read as a number of 32 bits is none from 1 to `most`
pub of_unread : {E : Type 0} (usual most : ℕ) (text : Text) (error : E) → ParsesUnsigned {E = E} 32 10 text (Err error) → most < 2 ^ 32
    → None ≡ spec.number_in_range usual most (Some text)
of_unread usual most text error unread small =
    let is : is_unsigned_in 1 most text ≡ false = false_from_ne_true _ (λ yes.
    let in_range = accepts-Accepts false (Unsigned 1 most) text yes in
    unread (in_range.0, omega arith)) in
    rw is refl

-- what stands in an `Option` that is there only if a test holds
pub of_some : {T : Type 0} (test : Bool) (value one : T) → Some one ≡ (if test then Some value else None) → (test ≡ true) × (one ≡ value)
of_some true value one e = (refl, ap (λ o. unwrap_or o one) e)
of_some false value one e = absurd cc

-- the number of an option lies from 1 to `most`, if the usual one does
pub in_range : (usual most : ℕ) (text : Option Text) → 1 ≤ usual → usual ≤ most → spec.is_number_to most text ≡ true
    → (1 ≤ spec.number_of usual text) × (spec.number_of usual text ≤ most)
in_range usual most None least within is = (least, within)
in_range usual most (Some text) least within is =
    let bounds = accepts-Accepts false (Unsigned 1 most) text is in
    (bounds.2, bounds.3)
