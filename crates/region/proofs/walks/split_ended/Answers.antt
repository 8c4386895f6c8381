use Rattle.std.proofs.Common.{rules, ℕ, sym}
use Rattle.std.proofs.lemmas.List.{take-append-drop}
use Rattle.std.proofs.lemmas.List.Sorted.{IsPartitionPoint-from_clause}
use Rattle.region.specs.Walks.{is_after}
use Rattle.region.proofs.Search.{after_partitioned}
use Rattle.region.proofs.Splits.{ended-take, lasts-drop}
use Rattle.region.proofs.walks.split_ended.Goals as goal

pub returns : goal.returns
returns c =
    let q : ℕ × ℕ = (c.args.x, c.args.y) in
    let runs = c.args.runs.now in
    let at = c.partition_point-at.result in
    let point = IsPartitionPoint-from_clause (λ r. is_after q r) runs at c.partition_point-at.ensures.partitioned (after_partitioned runs q c.requires)
    (λ a r f' k. search rules) in
    rw (c.split_at.ensures.front, c.split_at.ensures.back) (record
    { whole = sym (take-append-drop at runs); ended = ended-take q runs at point; lasts = lasts-drop q runs at point })
