use Rattle.std.proofs.Common.{List, ℕ, Some, None, subst}
use Rattle.tiled_store.specs.Stored.{Gives}
use Rattle.tiled_store.proofs.tiled_store.TiledStore.loaded.Goals as goal

pub returns-in-None-clause-loads : goal.returns-in-None-clause-loads
returns-in-None-clause-loads g c honest sets =
    let file = c.in_ok-bytes.bytes.items in
    let loaded = c.in_ok-bytes.ensures.loads honest in
    let given : Gives c.as_slice.result.now None = subst (Gives c.as_slice.result.now) c.in-None.is (c.in_ok-text.ensures.gives sets) in
    let same : Gives file None = subst (λ (f : List ℕ). Gives f None) c.as_slice.ensures.value given in
    ((file, loaded.0, same), loaded.1)

pub returns-in-Some-clause-loads : goal.returns-in-Some-clause-loads
returns-in-Some-clause-loads g c honest sets =
    let file = c.in_ok-bytes.bytes.items in
    let loaded = c.in_ok-bytes.ensures.loads honest in
    let text = c.in-Some.text in
    let given : Gives c.as_slice.result.now (Some text) = subst (Gives c.as_slice.result.now) c.in-Some.is (c.in_ok-text.ensures.gives sets) in
    let same : Gives file (Some text) = subst (λ f. Gives f (Some text)) c.as_slice.ensures.value given in
    ((file, loaded.0, same), loaded.1)
