use Rattle.std.proofs.Common.{sym, ap}
use Rattle.command_api.specs.Names.{is_free}
use Rattle.paint_commands.proofs.Merges.{paint-WhenEqual}
use Rattle.paint_commands.proofs.paint.PaintCommandCommand.is_free.Goals as goal

pub returns : goal.returns
returns c = let p = c.args.self.now in sym (ap is_free (paint-WhenEqual p.kind p.layer p.follows))
