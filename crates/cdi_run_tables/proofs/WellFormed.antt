-- What a container takes for granted of a deployment, part by part.
use Rattle.std.proofs.Common.{◌≡◌, ◌&&◌, true}
use Rattle.std.proofs.lemmas.Bool.{and_from, and_parts}
use Rattle.cdi_run_tables.specs.Numbered.{is_numbered}
use Rattle.cdi_run_tables.specs.Sizes.{is_small}
use Rattle.cdi_run_tables.specs.Texts.{has_texts}
use Rattle.cdi_run_tables.specs.WellFormed.{is_well_formed}
use Rattle.cdi_run_tables.specs.declared.tables.RunTables.{RunTables}

pub record Parts (t : RunTables) : Type 0 where
  pub texts : has_texts t.deployment ≡ true
  pub numbered : is_numbered t ≡ true
  pub small : is_small t ≡ true

-- a deployment that has all has each part
pub parts_of : (t : RunTables) → is_well_formed t ≡ true → Parts t
parts_of t h =
    let two = and_parts (has_texts t.deployment && is_numbered t) (is_small t) h in
    let one = and_parts (has_texts t.deployment) (is_numbered t) two.0 in
    record { texts = one.0; numbered = one.1; small = two.1 }

-- one that has each part has all
pub from_parts : (t : RunTables) → Parts t → is_well_formed t ≡ true
from_parts t p =
    and_from (has_texts t.deployment && is_numbered t) (is_small t)
    (and_from (has_texts t.deployment) (is_numbered t) p.texts p.numbered)
    p.small
