-- No finding has a float.
use Rattle.std.proofs.Common.{◌≡◌, ℕ, List, [], ◌∷◌, map, Option, Some, None, false, refl}
use Rattle.cdi_findings.specs.Finding.{Told, column_data, finding_data, line_data, texts_data}
use Rattle.cdi_positions.specs.declared.position.Position.{Position}
use Rattle.serde_json.specs.Data.{string}
use Rattle.serde_json.specs.View.{items_of}
use Rattle.serde_json.specs.Written.{has_float, items_have_float}

no_float_in_line : (p : Option Position) → has_float (line_data p) ≡ false
no_float_in_line None = refl
no_float_in_line (Some p) = refl

no_float_in_column : (p : Option Position) → has_float (column_data p) ≡ false
no_float_in_column None = refl
no_float_in_column (Some p) = refl

no_float_in_items : (texts : List (List ℕ)) → items_have_float (items_of (map string texts)) ≡ false
no_float_in_items [] = refl
no_float_in_items (text ∷ texts) = no_float_in_items texts

no_float_in_texts : (texts : List (List ℕ)) → has_float (texts_data texts) ≡ false
no_float_in_texts texts = no_float_in_items texts

pub no_float : (f : Told) → has_float (finding_data f) ≡ false
no_float f = rw (no_float_in_texts f.candidates, no_float_in_line f.position, no_float_in_column f.position) refl
