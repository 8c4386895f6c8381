use Rattle.std.proofs.Common.{arith, refl}
use Rattle.undo_stack.proofs.Gone.{above_gone, where_some}
use Rattle.undo_stack.proofs.Held.{kept_at}
use Rattle.undo_stack.proofs.sequence.Sequence.drop_above.Goals as goal

pub returns-then-is_gone : goal.returns-then-is_gone
returns-then-is_gone g c d h =
    let q = c.args.self.now in
    let e = c.if-is_gone.ensures in
    let items = where_some c.remove.result c.remove.ensures.items (c.remove.ensures.variant.1 (omega (arith, c.requires.above, q.entries.ok.0))) in
    above_gone g.C.Command.change q c.index.result.now q.index d c.requires.above c.index.ensures (e.gone refl) c.lose_clean.new.self e.answer
    (rw c.lose_clean.ensures (record { entries = items; index = refl; clean = refl; limit = refl; has_free = refl })) h refl

pub returns-else-is_gone : goal.returns-else-is_gone
returns-else-is_gone g c d h =
    let q = c.args.self.now in
    let e = c.if-is_gone.ensures in
    kept_at g.C.Command.change d q.index q c.index.result.now c.requires.above c.index.ensures e.answer (e.live refl) h
