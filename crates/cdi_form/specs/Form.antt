-- What stands at a key of an object, and in an array.
use Rattle.std.specs.Prelude.{ℕ, List, bytes_eq, Option, Some, None, option_map, find}
use Rattle.cdi_form.specs.declared.form.Kind.{Kind}
use Rattle.cdi_form.specs.declared.form.Part.{Part}
use Rattle.cdi_form.specs.declared.form.Part.TheVariants.{Names, Uses, SomeUses, Name, Use, Object, Objects, Member, Members}
use Rattle.cdi_form.specs.Table.{Row, rows}

-- the row of a key
abbrev pub row_in : List Row → List ℕ → Option Row
row_in rows key = find (λ row. bytes_eq row.key key) rows

-- what stands at a key, if the key is listed
abbrev pub part_at : Kind → List ℕ → Option Part
part_at kind key = option_map (λ row. row.part) (row_in (rows kind) key)

-- what each item of an array at a part is, if that is looked at
abbrev pub item_part : Part → Option Part
item_part Names = Some Name
item_part Uses = Some Use
item_part SomeUses = Some Use
item_part (Objects kind) = Some (Object kind)
item_part Members = Some Member
item_part _ = None

-- the same, where it is asked which texts stand in the place of a name: in an array at a use each text does, and each key of its objects
abbrev pub named_part : Part → Option Part
named_part Use = Some Use
named_part part = item_part part
