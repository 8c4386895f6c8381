use Rattle.std.proofs.Common.{◌∙◌, ap}
use Rattle.std.specs.Prelude.{is_some}
use Rattle.map_store.proofs.Keeping.{has_stored, stored_less}
use Rattle.map_store.proofs.memory_store.MemoryStore.remove.Goals as goal

pub returns-clause-found : goal.returns-clause-found
returns-clause-found c = c.is_some.ensures ∙ ap is_some c.remove.ensures.value ∙ has_stored c.args.self.now.files c.args.name.now

pub returns-clause-removed : goal.returns-clause-removed
returns-clause-removed c = stored_less c.args.name.now c.args.self.now.files c.remove.new.self c.remove.ensures.updates
