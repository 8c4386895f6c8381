use Rattle.map_json.proofs.MapLaw.{map_again}
use Rattle.map_json.proofs.RoundTrip.{opened_from}
use Rattle.map_json.proofs.TextLaw.{text-IsTreeOf}
use Rattle.map_json.proofs.map_text.saved_is_opened.Goals as goal

pub returns-clause-tree : goal.returns-clause-tree
returns-clause-tree c = text-IsTreeOf c.args.map.now c.parts-parts.ensures.well_formed

pub returns-clause-opened : goal.returns-clause-opened
returns-clause-opened c =
    let m = c.args.map.now in
    let well = c.parts-parts.ensures.well_formed in
    opened_from m (map_again m well) (text-IsTreeOf m well)
