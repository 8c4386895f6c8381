use Rattle.std.proofs.Common.{◌≡◌, ◌≤◌, ◌+◌, ◌-◌, ◌++◌, ◌∷◌, List, ℕ, length, take, drop, sym, ap, subst, ◌∙◌, inr, arith}
use Rattle.std.proofs.lemmas.List.{length-append, length-drop, length-take-le}
use borrow.Rule.Slice.PartMut.{put_mid}
use Rattle.lines.specs.Lines.{lines_of}
use Rattle.memory_editor.specs.Buffers.{size_within, written}
use Rattle.memory_editor.specs.ManyLines.{Ends, RunsLinesUpTo, reply_bytes}
use Rattle.memory_editor.specs.declared.lines_done.LinesDone.{LinesDone}
use Rattle.memory_editor.proofs.ManyLinesDone.{bytes-with_line, goes_on, more_done, length-written, lines-with_line, none_done, put_rest, replies-with_line}
use Rattle.memory_editor.proofs.ManyLinesDone.{rest_is, some_done}
use Rattle.memory_editor.proofs.memory_editor.MemoryEditor.run_lines.Goals as goal

pub returns-then-ends : goal.returns-then-ends
returns-then-ends c =
    let l = c.lines in
    let ended : Ends c.args.stops c.args.bytes.now l.done = c.ends.ensures.ended c.if-ends.true in
    record {
      none = none_done c.args.stops c.args.bytes.now c.args.replies.now c.args.self.now l.done l.self l.replies l.invariant.so_far;
      some = some_done c.args.stops c.args.bytes.now c.args.replies.now c.args.self.now l.done l.self l.replies l.invariant.so_far ended;
      ended = ended;
    }

pub lines-preserved : goal.lines-preserved
lines-preserved c =
    let l = c.lines in
    let stops = c.args.stops in
    let bytes = c.args.bytes.now in
    let buffer = c.args.replies.now in
    let start = c.args.self.now in
    let rest = drop l.done.bytes bytes in
    let left = drop l.done.replies l.replies in
    let line = c.first_line-taken.result.0.now in
    let taken = c.first_line-taken.result.1 in
    let new = c.run_line-put.new.self in
    let reply = reply_bytes new.reply in
    let put = c.run_line-put.result in
    let refused = c.is_refused.result in
    let goes = goes_on stops bytes buffer start l.done l.self l.replies l.invariant.so_far (c.ends.ensures.room c.if-ends.false)
    (c.ends.ensures.accepted c.if-ends.false) in
    let cut : lines_of rest ≡ line ∷ lines_of (drop taken rest) =
    subst (λ (bs : List ℕ). lines_of bs ≡ line ∷ lines_of (drop taken bs)) (rest_is l.done.bytes bytes) c.first_line-taken.ensures.cut in
    let fits : taken ≤ length rest = subst (λ (bs : List ℕ). taken ≤ length bs) (rest_is l.done.bytes bytes) c.first_line-taken.ensures.within in
    let within : l.done.bytes + taken ≤ length bytes = omega (arith, fits, length-drop l.done.bytes bytes, l.invariant.within) in
    let size : put ≡ size_within reply left
    = subst (λ (t : List ℕ). put ≡ size_within reply t) (rest_is l.done.replies l.replies) c.run_line-put.ensures.size in
    let put_is : c.run_line-put.new.replies ≡ written reply left =
    subst (λ (t : List ℕ). c.run_line-put.new.replies ≡ written reply t) (rest_is l.done.replies l.replies) c.run_line-put.ensures.put in
    let end = put_mid l.done.replies (length l.replies - l.done.replies) l.replies c.run_line-put.new.replies in
    let is : end ≡ take l.done.replies l.replies ++ written reply left =
    put_rest l.done.replies l.replies c.run_line-put.new.replies ∙ ap (λ (t : List ℕ). take l.done.replies l.replies ++ t) put_is in
    let counted = c.with_line-done.ensures in
    let more : RunsLinesUpTo stops bytes buffer start c.with_line-done.result new end =
    subst (λ (x : LinesDone). RunsLinesUpTo stops bytes buffer start x new end) (sym counted)
    (more_done stops bytes buffer start l.done l.self l.replies goes line taken cut within new c.run_line-put.ensures.step refused c.is_refused.ensures put end
    size is) in
    let more_lines = ap (λ (x : LinesDone). x.lines) counted ∙ lines-with_line taken refused put l.done in
    let more_bytes = ap (λ (x : LinesDone). x.bytes) counted ∙ bytes-with_line taken refused put l.done in
    let more_replies = ap (λ (x : LinesDone). x.replies) counted in
    let most = replies-with_line taken refused put l.done reply left size in
    let whole : length end ≡ length (take l.done.replies l.replies) + length left =
    ap length is ∙ (length-append (take l.done.replies l.replies) (written reply left)
    ∙ ap (λ n. length (take l.done.replies l.replies) + n) (length-written reply left)) in
    let front = length-take-le l.done.replies l.replies l.invariant.room in
    record {
      so_far = inr more;
      within = more.within;
      counted = omega (arith, more_lines, more_bytes, l.invariant.counted, c.first_line-taken.ensures.some);
      room = omega (arith, more_replies, most, whole, front);
    }
