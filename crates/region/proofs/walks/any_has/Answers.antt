use Rattle.std.proofs.Common.{rules, ℕ, sym, ap, ◌∙◌, arith}
use Rattle.std.proofs.lemmas.Bool.Decides.{nat_tests}
use Rattle.std.proofs.lemmas.List.Sorted.{IsPartitionPoint-from_clause}
use Rattle.region.specs.declared.runs.Run.{Run}
use Rattle.region.specs.Runs.{in_run}
use Rattle.region.specs.Walks.{is_after}
use Rattle.region.proofs.Search.{after_partitioned, in_runs-split, in_runs-past}
use Rattle.region.proofs.walks.any_has.Goals as goal

pub returns-then-at-runs : goal.returns-then-at-runs
returns-then-at-runs c =
    let q : ℕ × ℕ = (c.args.x, c.args.y) in
    let runs = c.args.runs.now in
    let at = c.partition_point-at.result in
    let point = IsPartitionPoint-from_clause (λ r. is_after q r) runs at c.partition_point-at.ensures.partitioned (after_partitioned runs q c.requires)
    (λ a r f' k. search rules) in
    c.has.ensures ∙ ap (λ r. in_run r q) c.index-runs-at.is ∙ sym (in_runs-split runs at c.index-runs-at.result q c.requires point c.if-at-runs.true)

pub returns-else-at-runs : goal.returns-else-at-runs
returns-else-at-runs c =
    let q : ℕ × ℕ = (c.args.x, c.args.y) in
    let runs = c.args.runs.now in
    let at = c.partition_point-at.result in
    let none : Run = record { y = 0; x = 0; len = 0 } in
    let point = IsPartitionPoint-from_clause (λ r. is_after q r) runs at c.partition_point-at.ensures.partitioned (after_partitioned runs q c.requires)
    (λ a r f' k. search rules) in
    let past = in_runs-past runs at none q point c.if-at-runs.false in
    rw past (grind (arith, nat_tests))
