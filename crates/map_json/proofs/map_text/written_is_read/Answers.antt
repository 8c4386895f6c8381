use Rattle.map_json.proofs.MapLaw.{map_again}
use Rattle.map_json.proofs.RoundTrip.{read_from}
use Rattle.map_json.proofs.map_text.written_is_read.Goals as goal

pub returns : goal.returns
returns c =
    let m = c.args.map.now in
    read_from m (map_again m c.parts-parts.ensures.well_formed)
