use Rattle.std.proofs.Common.{rules, ◌<◌, length, Some, Ok, inr}
use Rattle.tiled_maps.specs.declared.text.TheConstants.{LONGEST}
use Rattle.tiled_maps.specs.Texts.{PutsBack}
use Rattle.tiled_store.proofs.tiled_store.TiledStore.put_plain.Goals as goal

-- the text would be too long
pub returns-in-Ok-Some-clause-refused : goal.returns-in-Ok-Some-clause-refused
returns-in-Ok-Some-clause-refused g c refused =
    let text = c.in-Ok-Some.text in
    let own : PutsBack c.args.bytes.now (Ok (Some text)) = search rules in
    let long : LONGEST < length text.items = search rules in
    inr (text, own, long)
