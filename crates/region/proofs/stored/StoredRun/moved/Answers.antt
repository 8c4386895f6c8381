use Rattle.std.proofs.Common.{◌≡◌, ℕ, ◌+◌, ◌-◌, ◌≤◌, ◌&&◌, false, nat_eq, nat_lt, sym, ap, subst, ◌∙◌, arith, pos, ◌+ℤ◌}
use Rattle.std.specs.Prelude.{nat_le}
use Rattle.std.proofs.lemmas.Bool.Decides.{nat_tests}
use Rattle.std.proofs.lemmas.Int.{ints}
use Rattle.region.specs.Runs.{in_run}
use Rattle.region.specs.Walks.{LiesWithinMoved, in_moved_run}
use Rattle.region.proofs.Moving.{IsMovedColumn, read_back, moved_cells, moved_within}
use Rattle.region.proofs.stored.StoredRun.moved.Goals as goal

nothing : (m s e : ℕ) (q : ℕ × ℕ) → e ≤ s → (nat_eq m q.1 && (nat_le s q.0 && nat_lt q.0 e)) ≡ false
nothing m s e q h = grind (arith, nat_tests)

pub returns-then-end-start-clause-cells : goal.returns-then-end-start-clause-cells
returns-then-end-start-clause-cells c q =
    let start : IsMovedColumn c.run-own.result.x c.args.dx c.args.w c.moved_column-start.result =
    read_back c.run-own.result.x c.args.dx c.args.w c.moved_column-start.result c.ranges.dx
    (record { within = c.moved_column-start.ensures.within; behind = c.moved_column-start.ensures.behind; before = c.moved_column-start.ensures.before }) in
    let end : IsMovedColumn (c.run-own.result.x + c.run-own.result.len) c.args.dx c.args.w c.moved_column-end.result =
    read_back (c.run-own.result.x + c.run-own.result.len) c.args.dx c.args.w c.moved_column-end.result c.ranges.dx
    (rw (← c.end.ensures) (record
    { within = c.moved_column-end.ensures.within; behind = c.moved_column-end.ensures.behind; before = c.moved_column-end.ensures.before })) in
    let row : pos c.in_ok-y.y ≡ pos c.run-own.result.y +ℤ c.args.dy = omega (arith, ints, c.in_ok-y.ensures.some.1) in
    sym (nothing c.in_ok-y.y c.moved_column-start.result c.moved_column-end.result q c.if-end-start.true)
    ∙ moved_cells c.run-own.result c.args.dx c.args.dy c.args.w c.args.h c.in_ok-y.y c.moved_column-start.result c.moved_column-end.result
    c.in_ok-y.ensures.some.0 row start end q
    ∙ ap (λ r. in_moved_run r c.args.dx c.args.dy c.args.w c.args.h q) c.run-own.ensures.run

pub returns-clause-cells : goal.returns-clause-cells
returns-clause-cells c q =
    let start : IsMovedColumn c.run-own.result.x c.args.dx c.args.w c.moved_column-start.result =
    read_back c.run-own.result.x c.args.dx c.args.w c.moved_column-start.result c.ranges.dx
    (record { within = c.moved_column-start.ensures.within; behind = c.moved_column-start.ensures.behind; before = c.moved_column-start.ensures.before }) in
    let end : IsMovedColumn (c.run-own.result.x + c.run-own.result.len) c.args.dx c.args.w c.moved_column-end.result =
    read_back (c.run-own.result.x + c.run-own.result.len) c.args.dx c.args.w c.moved_column-end.result c.ranges.dx
    (rw (← c.end.ensures) (record
    { within = c.moved_column-end.ensures.within; behind = c.moved_column-end.ensures.behind; before = c.moved_column-end.ensures.before })) in
    let row : pos c.in_ok-y.y ≡ pos c.run-own.result.y +ℤ c.args.dy = omega (arith, ints, c.in_ok-y.ensures.some.1) in
    let sum : c.moved_column-start.result + (c.moved_column-end.result - c.moved_column-start.result) ≡ c.moved_column-end.result = omega arith in
    let cells : in_run (record { y = c.in_ok-y.y; x = c.moved_column-start.result; len = c.moved_column-end.result - c.moved_column-start.result }) q
    ≡ in_moved_run c.run-own.result c.args.dx c.args.dy c.args.w c.args.h q =
    rw sum (moved_cells c.run-own.result c.args.dx c.args.dy c.args.w c.args.h c.in_ok-y.y c.moved_column-start.result c.moved_column-end.result
    c.in_ok-y.ensures.some.0 row start end q) in
    ap (λ r. in_run r q) c.of.ensures ∙ cells ∙ ap (λ r. in_moved_run r c.args.dx c.args.dy c.args.w c.args.h q) c.run-own.ensures.run

pub returns-clause-within : goal.returns-clause-within
returns-clause-within c =
    let start : IsMovedColumn c.run-own.result.x c.args.dx c.args.w c.moved_column-start.result =
    read_back c.run-own.result.x c.args.dx c.args.w c.moved_column-start.result c.ranges.dx
    (record { within = c.moved_column-start.ensures.within; behind = c.moved_column-start.ensures.behind; before = c.moved_column-start.ensures.before }) in
    let end : IsMovedColumn (c.run-own.result.x + c.run-own.result.len) c.args.dx c.args.w c.moved_column-end.result =
    read_back (c.run-own.result.x + c.run-own.result.len) c.args.dx c.args.w c.moved_column-end.result c.ranges.dx
    (rw (← c.end.ensures) (record
    { within = c.moved_column-end.ensures.within; behind = c.moved_column-end.ensures.behind; before = c.moved_column-end.ensures.before })) in
    let row : pos c.in_ok-y.y ≡ pos c.run-own.result.y +ℤ c.args.dy = omega (arith, ints, c.in_ok-y.ensures.some.1) in
    subst (λ r. LiesWithinMoved c.args.dx c.args.dy c.of.result r) c.run-own.ensures.run
    (subst (λ p. LiesWithinMoved c.args.dx c.args.dy p c.run-own.result) (sym c.of.ensures)
    (moved_within c.run-own.result c.args.dx c.args.dy c.args.w c.in_ok-y.y c.moved_column-start.result c.moved_column-end.result row start end
    c.if-end-start.false))
