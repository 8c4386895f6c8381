use Rattle.std.proofs.Common.{sym, ap}
use Rattle.command_api.specs.Names.{is_free}
use Rattle.object_commands.proofs.Placements.{place_object-WhenEqual}
use Rattle.object_commands.proofs.place.PlaceObjectCommand.is_free.Goals as goal

pub returns : goal.returns
returns c = let p = c.args.self.now in sym (ap is_free (place_object-WhenEqual p.kind p.object p.follows))
