use Rattle.std.proofs.Common.{◌≤◌, ◌++◌, List, ℕ, length, drop, ap, ◌∙◌, arith}
use Rattle.std.proofs.lemmas.List.{length-append}
use Rattle.memory_editor.proofs.Pieces.{three_pieces}
use Rattle.memory_editor.proofs.many_lines.put_pieces.Goals as goal

pub returns-then-size-buffer-clause-put : goal.returns-then-size-buffer-clause-put
returns-then-size-buffer-clause-put c =
    let head = c.args.head.now in
    let body = c.args.body.now in
    let end = c.args.end.now in
    let fits : length (head ++ body ++ end) ≤ length c.args.buffer.now =
    omega (arith, c.if-size-buffer.true, length-append (head ++ body) end, length-append head body) in
    let left =
    c.split_at_mut-last.ensures.back ∙ ap (λ (t : List ℕ). drop (length end) t)
    (c.split_at_mut-middle.ensures.back ∙ ap (λ (t : List ℕ). drop (length body) t) c.split_at_mut-prefix.ensures.back) in
    rw (c.copy_from_slice.ensures.after, c.copy_body.ensures, c.copy_from_slice-then-size-buffer.ensures.after)
    (three_pieces head body end c.split_at_mut-last.result.1.now c.args.buffer.now fits left)
