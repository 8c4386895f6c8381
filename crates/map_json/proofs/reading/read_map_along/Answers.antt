use Rattle.serde_json.specs.View.{view}
use Rattle.map_json.proofs.ReadTrees.{IsReadable-read}
use Rattle.map_json.proofs.Fittings.{IsWellFormed-map_of}
use Rattle.map_json.proofs.reading.read_map_along.Goals as goal

pub from_parts-requires : goal.from_parts-requires
from_parts-requires g c =
    IsWellFormed-map_of (view c.in-Ok.value) c.in_ok-map_of-in-Ok.field-0
    (IsReadable-read c.args.bytes.now c.in-Ok.value c.in-Ok.ensures.ok.1) c.in-Ok.ensures.nests c.in_ok-map_of-in-Ok.ensures
