use Rattle.std.proofs.Common.{Ok, Err, refl}
use Rattle.tiled_store.proofs.tiled_store.TiledStore.source_of.Goals as goal

pub returns-in-Ok-clause-source : goal.returns-in-Ok-clause-source
returns-in-Ok-clause-source g c = (Ok c.in-Ok.file, refl, λ honest. ((g.Q.MapStore.stored c.load.new.self).files, c.in-Ok.ensures.loads honest))

pub returns-in-Err-clause-source : goal.returns-in-Err-clause-source
returns-in-Err-clause-source g c =
    (Err c.in-Err.field-0, c.new.ensures.items, λ honest. ((g.Q.MapStore.stored c.load.new.self).files, c.in-Err.ensures.loads honest))
