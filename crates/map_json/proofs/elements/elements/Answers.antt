use Rattle.std.proofs.Common.{arith}
use Rattle.serde_json.proofs.Views.{items_len-items_view}
use Rattle.map_json.proofs.elements.elements.Goals as goal

pub returns-then-len-most : goal.returns-then-len-most
returns-then-len-most g c = grind (arith, items_len-items_view)

pub returns : goal.returns
returns g c = grind (arith, items_len-items_view)
