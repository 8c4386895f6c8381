use Rattle.std.proofs.Common.{◌∙◌, sym}
use Rattle.map_store.proofs.Keeping.{stored_count}
use Rattle.map_store.proofs.memory_store.MemoryStore.count.Goals as goal

pub returns : goal.returns
returns c = c.len.ensures.len ∙ sym (stored_count c.args.self.now.files c.len.ensures.ordered)
