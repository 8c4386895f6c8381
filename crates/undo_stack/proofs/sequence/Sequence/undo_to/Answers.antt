use Rattle.std.proofs.Common.{◌≤◌, length, refl, ◌∙◌, ap, arith}
use Rattle.undo_stack.specs.Held.{history_at, Becomes}
use Rattle.undo_stack.specs.Moving.{positioned}
use Rattle.undo_stack.proofs.Turned.{turned}
use Rattle.undo_stack.proofs.sequence.Sequence.undo_to.Goals.{then-is_worth_a_slice, else-is_worth_a_slice}
use Rattle.undo_stack.proofs.sequence.Sequence.undo_to.Goals as goal

pub returns : goal.returns
returns g c =
    let f = g.C.Command.change in
    let d = c.args.document.now in
    let e = c.if-is_worth_a_slice.document in
    let q = c.args.self.now in
    let j = c.min-index.result in
    let s = c.if-is_worth_a_slice.self in
    let p = record s { index = j } in
    let within = c.requires.sound.turnable.within in
    let least : j ≤ length q.entries.items = omega (arith, within, c.min-index.ensures) in
    let to = ap (λ n. positioned n (history_at f d q)) c.min-index.ensures in
    elim c.if-is_worth_a_slice.branch [
      | then-is_worth_a_slice w ↦
          let slice = w.make_contiguous-slice in
          let down = w.undo_down.ensures in
          let ys = w.undo_down.new.sequence in
          let items = slice.ensures.writes_back ys (down.moved.same_length ∙ slice.ensures.len) in
          let b : Becomes q ys j q.clean p = record {
            entries = ap (λ x. x.entries.items) w.self-is ∙ items;
            index = refl;
            clean = ap (λ x. x.clean) w.self-is;
            limit = ap (λ x. x.limit) w.self-is;
            has_free = ap (λ x. x.has_free) w.self-is;
          } in
          let t = turned f d e q p ys j slice.result.now w.undo_down.new.document slice.ensures.value w.document-is b
          down.moved down.depth down.nests least c.requires.sound in
          record { sound = t.sound; has_free = t.has_free; stale = t.stale; nests = t.nests; history = t.history ∙ to }
      | else-is_worth_a_slice w ↦
          let each = w.undo_each.ensures in
          let ys = w.undo_each.new.entries.items in
          let b : Becomes q ys j q.clean p = record {
            entries = ap (λ x. x.entries.items) w.self-is;
            index = refl;
            clean = ap (λ x. x.clean) w.self-is;
            limit = ap (λ x. x.limit) w.self-is;
            has_free = ap (λ x. x.has_free) w.self-is;
          } in
          let t = turned f d e q p ys j q.entries.items w.undo_each.new.document refl w.document-is b
          each.moved each.depth each.nests least c.requires.sound in
          record { sound = t.sound; has_free = t.has_free; stale = t.stale; nests = t.nests; history = t.history ∙ to }
    ]
