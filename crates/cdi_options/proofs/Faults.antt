-- What is wrong with the form of the words comes before what is wrong with the values of the options.
use Rattle.std.proofs.Common.{◌≡◌, [], ◌∷◌, List, true, refl, inl, inr}
use Rattle.clap.specs.Kinds.{or_else}
use Rattle.clap.specs.Words.{HasKind, IsAmong, Kinds, Row, kind_of}
use Rattle.clap.specs.declared.error.Error.{Error}
use Rattle.clap.specs.declared.error.kind.ErrorKind.{ErrorKind}
use Rattle.cdi_options.specs.Options as spec

-- a kind of the first list is one of what comes of both
among_first : (kind : ErrorKind) (first second : Kinds) → IsAmong kind first → IsAmong kind (or_else first second)
among_first kind [] second is = absurd is
among_first kind (k ∷ ks) second is = is

-- an error by the form of the words is one of what is wrong with them
pub by_form : (error : Error) (first second : Kinds) → HasKind first error → HasKind (or_else first second) error
by_form error first second (inl memory) = inl memory
by_form error first second (inr among) = inr (among_first (kind_of error) first second among)

-- words of the form, of which the options have values that they can have, are fit
pub fit : (first : Kinds) (rows : List Row) → first ≡ [] → spec.are_values rows ≡ true → or_else first (spec.value_faults rows) ≡ []
fit first rows none are = rw none (rw are refl)
