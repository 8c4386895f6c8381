use Rattle.std.proofs.Common.{◌≡◌, map, drop, [], false}
use Rattle.serde_json.specs.View.{view}
use Rattle.tmx_tree.specs.Corners.{corners_from}
use Rattle.tmx_tree.proofs.corners.corners.Given as goal

abbrev pub invariant-loop-byte : goal.invariant-loop-byte
invariant-loop-byte l =
    corners_from l.before.items l.parted l.behind.items (drop l.byte-index l.text) (map view l.found.items) ≡ corners_from [] false [] l.text []
