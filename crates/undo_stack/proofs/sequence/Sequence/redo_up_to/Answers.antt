use Rattle.std.proofs.Common.{refl, ◌∙◌, ap}
use Rattle.undo_stack.specs.Held.{Becomes}
use Rattle.undo_stack.proofs.Turned.{turned}
use Rattle.undo_stack.proofs.sequence.Sequence.redo_up_to.Goals.{then-is_worth_a_slice, else-is_worth_a_slice}
use Rattle.undo_stack.proofs.sequence.Sequence.redo_up_to.Goals as goal

pub returns : goal.returns
returns g c =
    let f = g.C.Command.change in
    let d = c.args.document.now in
    let e = c.if-is_worth_a_slice.document in
    let q = c.args.self.now in
    let j = c.args.index in
    let s = c.if-is_worth_a_slice.self in
    let p = record s { index = j } in
    elim c.if-is_worth_a_slice.branch [
      | then-is_worth_a_slice w ↦
          let slice = w.make_contiguous-slice in
          let up = w.redo_up.ensures in
          let ys = w.redo_up.new.sequence in
          let items = slice.ensures.writes_back ys (up.moved.same_length ∙ slice.ensures.len) in
          let b : Becomes q ys j q.clean p = record {
            entries = ap (λ x. x.entries.items) w.self-is ∙ items;
            index = refl;
            clean = ap (λ x. x.clean) w.self-is;
            limit = ap (λ x. x.limit) w.self-is;
            has_free = ap (λ x. x.has_free) w.self-is;
          } in
          let t = turned f d e q p ys j slice.result.now w.redo_up.new.document slice.ensures.value w.document-is b
          up.moved up.depth up.nests c.requires.within c.requires.sound in
          record { sound = t.sound; has_free = t.has_free; stale = t.stale; nests = t.nests; history = t.history }
      | else-is_worth_a_slice w ↦
          let each = w.redo_each.ensures in
          let ys = w.redo_each.new.entries.items in
          let b : Becomes q ys j q.clean p = record {
            entries = ap (λ x. x.entries.items) w.self-is;
            index = refl;
            clean = ap (λ x. x.clean) w.self-is;
            limit = ap (λ x. x.limit) w.self-is;
            has_free = ap (λ x. x.has_free) w.self-is;
          } in
          let t = turned f d e q p ys j q.entries.items w.redo_each.new.document refl w.document-is b
          each.moved each.depth each.nests c.requires.within c.requires.sound in
          record { sound = t.sound; has_free = t.has_free; stale = t.stale; nests = t.nests; history = t.history }
    ]
