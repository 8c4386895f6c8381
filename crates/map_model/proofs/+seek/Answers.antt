use Rattle.map_model.proofs.DrawnHere.{set-same}
use Rattle.map_model.proofs.+seek.Goals as goal

pub seek::seek_in_layers-returns-in-Some : goal.seek::seek_in_layers-returns-in-Some
seek::seek_in_layers-returns-in-Some t c = rw c.seek_object.ensures (set-same c.args.layers.now c.in-Some.at c.get_mut.result.now c.get_mut.ensures.value)
