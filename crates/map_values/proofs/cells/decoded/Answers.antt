use Rattle.std.proofs.Common.{refl}
use Rattle.map_values.proofs.Base64.{decoded_solid}
use Rattle.map_values.proofs.cells.decoded.Goals as goal

pub returns-in-Ok-clause-ok : goal.returns-in-Ok-clause-ok
returns-in-Ok-clause-ok c = decoded_solid c.args.text.now c.in-Ok.bytes.items (c.in-Ok.ensures.exact (refl, refl)) c.in-Ok.ensures.ok
