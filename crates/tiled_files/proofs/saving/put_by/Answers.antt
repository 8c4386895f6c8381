use Rattle.std.proofs.Common.{rules, ◌≡◌, [], false}
use Rattle.tiled_files.specs.Faults.{is_memory}
use Rattle.tiled_files.specs.Kinds.{is_xml}
use Rattle.tiled_files.proofs.Puts.{no_source, puts_by}
use Rattle.tiled_files.proofs.saving.put_by.Goals as goal

pub returns-in-Err-2 : goal.returns-in-Err-2
returns-in-Err-2 c =
    let source = c.args.source.now in
    let other : is_memory c.in-Err.fault ≡ false = search rules in
    puts_by (is_xml source) c.args.bytes.now source [] c.put_like-in-Err-2.result (no_source source c.in-Err.fault other c.in-Err.ensures)
    c.put_like-in-Err-2.ensures
