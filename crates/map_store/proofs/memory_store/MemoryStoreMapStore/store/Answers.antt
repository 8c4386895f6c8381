use Rattle.std.proofs.Common.{ap, refl, ◌∙◌}
use Rattle.std.specs.FinMap.{insert}
use Rattle.std.specs.String.{string_bytes}
use Rattle.map_store.specs.Stored.{files_of}
use Rattle.map_store.proofs.Keeping.{stored_more}
use Rattle.map_store.proofs.Stored.{stored_kept, stored_safe}
use Rattle.map_store.proofs.memory_store.MemoryStoreMapStore.store.Goals as goal

pub returns-in-Ok-insert-clause-stores : goal.returns-in-Ok-insert-clause-stores
returns-in-Ok-insert-clause-stores c = λ u.
    let old = files_of c.args.self.now.files in
    stored_more (string_bytes c.in-Ok-from_str.key) c.args.self.now.files c.insert.new.self c.in-Ok.copy c.in-Ok-insert.ensures.updates
    ∙ ap (λ name. insert old name c.in-Ok.copy.items) c.in-Ok-from_str.ensures.ok
    ∙ ap (insert old c.args.name.now) c.in-Ok.ensures.items

pub returns-in-Ok-insert-clause-kept : goal.returns-in-Ok-insert-clause-kept
returns-in-Ok-insert-clause-kept c = stored_kept _ _ c.args.name.now c.args.bytes.now (returns-in-Ok-insert-clause-stores c refl)

pub returns-in-Ok-insert-clause-safe : goal.returns-in-Ok-insert-clause-safe
returns-in-Ok-insert-clause-safe c = stored_safe _ _ c.args.name.now c.args.bytes.now (returns-in-Ok-insert-clause-stores c refl)
