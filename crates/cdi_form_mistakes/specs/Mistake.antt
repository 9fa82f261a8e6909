-- What is wrong at a place of a JSON value, in words.
use Rattle.std.specs.Prelude.{ℕ, List, [], ◌∷◌, ◌++◌, codes, Option, Some, None}
use Rattle.std.specs.Fmt.{◌++?◌, debug_str}
use Rattle.cdi_form.specs.declared.form.Part.{Part}
use Rattle.cdi_form.specs.declared.form.Part.TheVariants as parts
use Rattle.cdi_form_mistakes.specs.Written.{written_text}
use Rattle.cdi_form_mistakes.specs.UnknownWord.{unknown_text}
use Rattle.cdi_form_mistakes.specs.declared.mistake.FormMistake.{FormMistake}
use Rattle.cdi_form_mistakes.specs.declared.mistake.FormMistake.TheVariants as mistakes
use Rattle.cdi_form_mistakes.specs.declared.mistake.PlacedMistake.{PlacedMistake}

-- what belongs at a part
abbrev pub wanted : Part → List ℕ
wanted parts.FormNumber = codes "the number 1"
wanted parts.Name = codes "a name"
wanted parts.Names = codes "a list of names"
wanted parts.Value = codes "null, a whole number or a text"
wanted parts.ArgumentCount = codes "a whole number from 0 to 8"
wanted parts.Mark = codes "true or false"
wanted parts.WholeNumber = codes "a whole number"
wanted parts.Scope = codes "the name of a scope"
wanted parts.MemberKind = codes "a kind of member"
wanted parts.Use = codes "a name, or a list of a name and an object of values"
wanted parts.Uses = codes "a list of qualifiers or bindings"
wanted parts.SomeUses = codes "a list of at least one binding"
wanted parts.Steps = codes "a list of steps"
wanted (parts.Object kind) = codes "an object"
wanted (parts.Objects kind) = codes "a list of objects"
wanted parts.Member = codes "an object"
wanted parts.Members = codes "a list of members"

abbrev pub mistake_text : FormMistake → Option (List ℕ)
mistake_text (mistakes.UnknownKey word) = Some (codes "the key ") ++? unknown_text word
mistake_text (mistakes.MissingKey key) = Some (codes "the key " ++ (key ++ codes " is missing"))
mistake_text (mistakes.NoMemberKind known) =
    Some (codes "the key kind is missing, or is no text. Known are " ++ known)
mistake_text (mistakes.UnknownMemberKind word) =
    Some (codes "the kind of member ") ++? unknown_text word
mistake_text (mistakes.UnknownScope word) = Some (codes "the scope ") ++? unknown_text word
mistake_text (mistakes.WrongValue written part) =
    Some (wanted part ++ codes " belongs here, not ") ++? written_text written
mistake_text (mistakes.NotWhole number) = None
mistake_text (mistakes.NoName text) =
    debug_str text ++? Some (codes " is no name: 1 to 255 letters, digits, _, . and $")

-- the place, if it is not the root, and what is wrong there
abbrev pub placed_text : PlacedMistake → Option (List ℕ)
placed_text m = text_at m.path (mistake_text m.mistake)
  where
    text_at : List ℕ → Option (List ℕ) → Option (List ℕ)
    text_at [] text = text
    text_at (c ∷ cs) text = Some (c ∷ cs ++ codes ": ") ++? text

-- a mistake of the value itself
abbrev pub here : FormMistake → PlacedMistake
here mistake = record { path = []; mistake = mistake }

-- a mistake, seen from one step above it
abbrev pub under : List ℕ → Option PlacedMistake → Option PlacedMistake
under step None = None
under step (Some m) = Some (record m { path = 47 ∷ step ++ m.path })
