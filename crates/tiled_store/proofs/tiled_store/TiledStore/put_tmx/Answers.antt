use Rattle.std.proofs.Common.{rules, ◌<◌, ◌≤◌, length, Ok, inr, refl}
use Rattle.tiled_maps.specs.declared.text.TheConstants.{LONGEST}
use Rattle.tiled_files.specs.Saving.{Saves}
use Rattle.tiled_files.specs.declared.kind.Kind.TheVariants.{Tmx}
use Rattle.tiled_store.proofs.tiled_store.TiledStore.put_tmx.Goals as goal

-- the text would be too long
pub returns-in-Ok-clause-refused : goal.returns-in-Ok-clause-refused
returns-in-Ok-clause-refused g c refused =
    let laid = c.in-Ok.laid in
    let saves : Saves Tmx c.args.bytes.now c.args.source.now (Ok laid) = search rules in
    let long : LONGEST < length laid.text.items = search rules in
    inr (laid, saves, long)

pub returns-in-Ok-2-clause-puts : goal.returns-in-Ok-2-clause-puts
returns-in-Ok-2-clause-puts g c =
    let laid = c.in-Ok.laid in
    let saves : Saves Tmx c.args.bytes.now c.args.source.now (Ok laid) = search rules in
    let short : length laid.text.items ≤ LONGEST = search rules in
    (laid, refl, saves, short)
