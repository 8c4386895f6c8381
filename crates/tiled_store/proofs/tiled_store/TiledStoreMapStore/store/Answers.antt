use Rattle.std.proofs.Common.{inl, inr}
use Rattle.tiled_store.proofs.tiled_store.TiledStoreMapStore.store.Goals as goal

pub returns-in-Ok-clause-safe : goal.returns-in-Ok-clause-safe
returns-in-Ok-clause-safe g c = elim c.in-Ok.ensures.safe [ inl same ↦ inl same | inr put ↦ inr (put.0, put.1, put.3, put.4) ]
