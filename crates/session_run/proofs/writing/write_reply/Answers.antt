use Rattle.std.proofs.Common.{rules, ◌≡◌, ◌∙◌, ◌++◌, ◌∷◌, ℕ, List, [], OnErr, arith, ap, subst}
use Rattle.session.specs.Replies.{reply_text}
use Rattle.session_run.specs.Runs.{TakesBeginning, reply_line}
use Rattle.session_run.proofs.writing.write_reply.Goals as goal
use Rattle.session_run.proofs.writing.write_reply.Goals.{in_default, in-Documents+else-remaining_capacity-as_str}

pub returns-clause-err : goal.returns-clause-err
returns-clause-err g c =
    let text : c.match-reply.head.bytes ≡ reply_text c.args.reply =
    elim c.match-reply.branch [ in_default w ↦ search rules | in-Documents+else-remaining_capacity-as_str w ↦ search rules ] in
    let same : c.as_bytes-2.result.now ≡ reply_line c.args.reply = c.as_bytes-2.ensures.value ∙ c.as_str-2.ensures.value ∙ c.push.ensures.ascii (omega arith)
    ∙ ap (λ bytes. bytes ++ 10 ∷ []) text in
    let P : List ℕ → Type 0 = λ bytes. OnErr c.write_whole.result
    (TakesBeginning bytes (g.W.Write.contents c.args.writer.now) (g.W.Write.contents c.write_whole.new.writer)) in
    subst P same c.write_whole.ensures.err
