use Rattle.own_commands.proofs.FrameTurns.{frame-offered}
use Rattle.own_commands.proofs.frame.FrameCommand.offer.Goals as goal

pub returns-clause-law : goal.returns-clause-law
returns-clause-law c =
    let f = c.args.self.now in
    frame-offered f.layer f.follows f.is_made f.cells
