use Rattle.std.proofs.lemmas.Map.Text.{hash_map_updates_text}
use Rattle.cdi_store.proofs.name_index.NameIndex.remove.Goals as goal

pub returns : goal.returns
returns c = λ other.
    hash_map_updates_text c.args.name.now c.args.self.now.slots c.remove.new.self _ c.remove.ensures.updates other
