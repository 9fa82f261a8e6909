use Rattle.std.specs.String.{string_bytes}
use Rattle.std.proofs.lemmas.Map.Text.{hash_map_updates_text}
use Rattle.cdi_store.proofs.name_index.NameIndex.add.Goals as goal

pub returns-clause-ok : goal.returns-clause-ok
returns-clause-ok c = λ other.
    hash_map_updates_text (string_bytes c.args.name) c.args.self.now.slots c.insert.new.self _ c.in_ok-insert.ensures.updates other
