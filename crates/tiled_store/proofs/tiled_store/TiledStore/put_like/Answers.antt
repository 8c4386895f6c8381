use Rattle.std.proofs.Common.{rules, ◌≤◌, length, Ok, refl}
use Rattle.tiled_maps.specs.declared.text.TheConstants.{LONGEST}
use Rattle.tiled_files.specs.Saving.{Saves}
use Rattle.tiled_files.specs.declared.kind.Kind.TheVariants.{Json}
use Rattle.tiled_store.proofs.tiled_store.TiledStore.put_like.Goals as goal

pub returns-in-Ok : goal.returns-in-Ok
returns-in-Ok g c =
    let laid = c.in-Ok.laid in
    let own : Saves Json c.args.bytes.now c.args.source.now (Ok laid) = search rules in
    let short : length laid.text.items ≤ LONGEST = search rules in
    (laid, refl, own, short)
