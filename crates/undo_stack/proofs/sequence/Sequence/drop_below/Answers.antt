use Rattle.std.proofs.Common.{◌<◌, ◌-◌, arith, length, refl}
use Rattle.undo_stack.proofs.Gone.{below_gone, where_some}
use Rattle.undo_stack.proofs.Held.{kept_at}
use Rattle.undo_stack.proofs.sequence.Sequence.drop_below.Goals as goal

pub returns-then-is_gone : goal.returns-then-is_gone
returns-then-is_gone g c d h =
    let q = c.args.self.now in
    let e = c.if-is_gone.ensures in
    let inside : q.index - 1 < length q.entries.items = omega arith in
    let items = where_some c.remove.result c.remove.ensures.items (c.remove.ensures.variant.1 (omega (arith, q.entries.ok.0))) in
    below_gone g.C.Command.change q c.index.result.now (q.index - 1) d inside c.index.ensures (e.gone refl) c.lose_clean.new.self e.answer
    (rw c.lose_clean.ensures (record { entries = items; index = refl; clean = refl; limit = refl; has_free = refl })) h (omega arith)

pub returns-else-is_gone : goal.returns-else-is_gone
returns-else-is_gone g c d h =
    let q = c.args.self.now in
    let e = c.if-is_gone.ensures in
    kept_at g.C.Command.change d (q.index - 1) q c.index.result.now (omega arith) c.index.ensures e.answer (e.live refl) h
