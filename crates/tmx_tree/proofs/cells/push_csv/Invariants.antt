use Rattle.std.proofs.Common.{◌≡◌, ◌<◌, ◌^◌, map, drop}
use Rattle.serde_json.specs.View.{view}
use Rattle.tmx_tree.specs.Cells.{csv_from}
use Rattle.tmx_tree.proofs.cells.push_csv.Given as goal

abbrev pub invariant-loop-byte : goal.invariant-loop-byte
invariant-loop-byte l =
    record {
      fits : l.number < 2 ^ 32;
      same : csv_from (map view l.found.items) l.number (drop l.byte-index l.text) ≡ csv_from (map view l.initial.found.items) 0 l.text;
    }
