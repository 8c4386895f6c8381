use Rattle.std.proofs.Common.{◌≡◌, ◌∷◌, [], ◌++◌, List, ℕ, length, take, ◌∙◌, sym, arith}
use Rattle.std.proofs.Math.Seq.{take-append_seam}
use Rattle.region.specs.declared.runs.Run.{Run}
use Rattle.region.proofs.Pushes.{IsMaximalRuns-last, joins-cells, joins-runs, joins-ended, follows-runs}
use Rattle.region.proofs.Splits.{HaveEnded-append}
use Rattle.region.proofs.walks.push_run.Goals as goal

-- what is left without the last run
prefix_left : (items prefix : List Run) (last : Run) (n : ℕ) (left : List Run) → items ≡ prefix ++ last ∷ [] → n ≡ length prefix → left ≡ take n items
    → left ≡ prefix
prefix_left items prefix last n left whole many is = is ∙ rw (whole, many) (take-append_seam prefix (last ∷ []))

pub touches-requires : goal.touches-requires
touches-requires c =
    let whole : c.args.runs.now.items ≡ c.in-Some.field-0-1.now ++ c.in-Some.last.now ∷ [] = sym c.as_slice.ensures.value ∙ c.in-Some.ensures.cases.0 in
    IsMaximalRuns-last c.in-Some.field-0-1.now c.in-Some.last.now (rw whole at c.requires.runs)

pub joined-joined-requires-clause-first : goal.joined-joined-requires-clause-first
joined-joined-requires-clause-first c =
    let whole : c.args.runs.now.items ≡ c.in-Some.field-0-1.now ++ c.in-Some.last.now ∷ [] = sym c.as_slice.ensures.value ∙ c.in-Some.ensures.cases.0 in
    IsMaximalRuns-last c.in-Some.field-0-1.now c.in-Some.last.now (rw whole at c.requires.runs)

pub returns-then-touches-clause-cells : goal.returns-then-touches-clause-cells
returns-then-touches-clause-cells c q =
    let prefix = c.in-Some.field-0-1.now in
    let last = c.in-Some.last.now in
    let whole : c.args.runs.now.items ≡ prefix ++ last ∷ [] = sym c.as_slice.ensures.value ∙ c.in-Some.ensures.cases.0 in
    let left = prefix_left c.args.runs.now.items prefix last _ c.pop-last.new.self.items whole
    (omega (arith, c.as_slice.ensures.len, c.in-Some.ensures.cases.1)) c.pop-last.ensures.rest in
    rw (c.push_reserved-then-touches.ensures.items, left, whole)
    (joins-cells prefix last c.args.run (rw whole at c.requires.runs) c.requires.run
    (rw whole at c.requires.order) c.joined-joined.result c.joined-joined.ensures.row
    c.joined-joined.ensures.start c.joined-joined.ensures.end (c.touches.ensures.0 c.if-touches.true) q)

pub returns-then-touches-clause-runs : goal.returns-then-touches-clause-runs
returns-then-touches-clause-runs c next h =
    let prefix = c.in-Some.field-0-1.now in
    let last = c.in-Some.last.now in
    let whole : c.args.runs.now.items ≡ prefix ++ last ∷ [] = sym c.as_slice.ensures.value ∙ c.in-Some.ensures.cases.0 in
    let left = prefix_left c.args.runs.now.items prefix last _ c.pop-last.new.self.items whole
    (omega (arith, c.as_slice.ensures.len, c.in-Some.ensures.cases.1)) c.pop-last.ensures.rest in
    rw (c.push_reserved-then-touches.ensures.items, left)
    (joins-runs prefix last c.args.run (rw whole at c.requires.runs) c.requires.run
    (rw whole at c.requires.order) c.joined-joined.result c.joined-joined.ensures.row
    c.joined-joined.ensures.start c.joined-joined.ensures.end (c.touches.ensures.0 c.if-touches.true) next h)

pub returns-then-touches-clause-ended : goal.returns-then-touches-clause-ended
returns-then-touches-clause-ended c q h k =
    let prefix = c.in-Some.field-0-1.now in
    let last = c.in-Some.last.now in
    let whole : c.args.runs.now.items ≡ prefix ++ last ∷ [] = sym c.as_slice.ensures.value ∙ c.in-Some.ensures.cases.0 in
    let left = prefix_left c.args.runs.now.items prefix last _ c.pop-last.new.self.items whole
    (omega (arith, c.as_slice.ensures.len, c.in-Some.ensures.cases.1)) c.pop-last.ensures.rest in
    rw (c.push_reserved-then-touches.ensures.items, left)
    (joins-ended prefix last c.args.run (rw whole at c.requires.runs) c.requires.run
    (rw whole at c.requires.order) c.joined-joined.result c.joined-joined.ensures.row
    c.joined-joined.ensures.start c.joined-joined.ensures.end (c.touches.ensures.0 c.if-touches.true) q (rw whole at h) k)

pub returns-else-touches-clause-runs : goal.returns-else-touches-clause-runs
returns-else-touches-clause-runs c next h =
    let prefix = c.in-Some.field-0-1.now in
    let last = c.in-Some.last.now in
    let whole : c.args.runs.now.items ≡ prefix ++ last ∷ [] = sym c.as_slice.ensures.value ∙ c.in-Some.ensures.cases.0 in
    rw (c.push_reserved-else-touches.ensures.items, whole)
    (follows-runs prefix last c.args.run (rw whole at c.requires.runs) c.requires.run (rw whole at c.requires.order)
    (λ h. let touched = c.touches.ensures.1 h in cc) next h)

pub returns-else-touches-clause-ended : goal.returns-else-touches-clause-ended
returns-else-touches-clause-ended c q h k = rw c.push_reserved-else-touches.ensures.items (HaveEnded-append c.args.runs.now.items (c.args.run ∷ []) q h (k, tt))
