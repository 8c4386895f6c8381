use Rattle.std.proofs.Common.{List, ℕ, ◌++◌, take, sym, ap, ◌∙◌}
use Rattle.atomic_save.proofs.Comparing.{consumes_both, consumes_kept, read_more, read_another}
use Rattle.atomic_save.proofs.same_bytes.has_bytes.Goals.{in-Ok+in-Some, in-Err}
use Rattle.atomic_save.proofs.same_bytes.has_bytes.Goals as goal

pub returns-in-None : goal.returns-in-None
returns-in-None g c =
    let so_far = c.loop.invariant in
    read_another _ so_far.0 c.loop.rest.now (take c.in-Ok.count c.read.new.buf) _ _ _ so_far.1 so_far.2 c.in-Ok.ensures.bytes.0 c.in-None.ensures.cases

pub loop-preserved : goal.loop-preserved
loop-preserved g c =
    let so_far = c.loop.invariant in
    elim c.match-read.branch [
      | in-Ok+in-Some w ↦
          let more = take w.in-Ok.count c.read.new.buf in
          let cases = w.in-Some.ensures.cases in (
            so_far.0 ++ more,
            read_more c.args.bytes.now so_far.0 c.loop.rest.now more c.match-read.rest.now so_far.1 cases.0 (ap (λ r. r.now) w.rest-is ∙ cases.1),
            consumes_both _ _ _ so_far.0 more so_far.2 w.in-Ok.ensures.bytes.0,
          )
      | in-Err w ↦ (
        so_far.0,
        so_far.1 ∙ ap (λ (ws : List ℕ). so_far.0 ++ ws) (ap (λ r. r.now) (sym w.rest-is)),
        consumes_kept _ _ _ so_far.0 so_far.2 w.in-Err.ensures.bytes,
      )
    ]
