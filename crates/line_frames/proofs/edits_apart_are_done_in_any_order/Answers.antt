use Rattle.line_frames.proofs.Laws.{inside-law, outside-law}
use Rattle.line_frames.proofs.Merging.{order-law}
use Rattle.line_frames.proofs.edits_apart_are_done_in_any_order.Goals as goal

pub returns : goal.returns
returns c = order-law outside-law inside-law
