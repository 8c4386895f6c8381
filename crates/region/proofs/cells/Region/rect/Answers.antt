use Rattle.std.proofs.Common.{rules, ◌≡◌, ℕ, ◌+◌, ◌||◌, [], inl, ap, ◌∙◌, arith}
use Rattle.std.proofs.lemmas.Bool.Decides.{nat_tests}
use Rattle.region.proofs.Order.{append_none}
use Rattle.region.proofs.Splits.{HaveEnded-later}
use Rattle.std.specs.FinSet as set
use Rattle.region.specs.Cells.{cell_cmp, in_rectangle}
use Rattle.region.specs.Runs.{in_run}
use Rattle.region.proofs.Members.{contains-set_of, in_rectangle-none}
use Rattle.region.proofs.cells.Region.rect.Goals as goal

pub returns-then-w-eq0 : goal.returns-then-w-eq0
returns-then-w-eq0 c q = rw c.empty.ensures (set.contains-empty cell_cmp q ∙ in_rectangle-none c.args.x c.args.y c.args.w c.args.h q c.if-w-eq0.true)

pub returns : goal.returns
returns c q =
    let all : c.loop-row.row ≡ c.args.h = omega arith in
    contains-set_of c.loop-row.runs.items q ∙ c.loop-row.invariant.cells q ∙ ap (λ k. in_rectangle c.args.x c.args.y c.args.w k q) all

one_row_more : (x y w h : ℕ) (q : ℕ × ℕ) → (in_rectangle x y w h q || in_run (record { y = y + h; x = x; len = w }) q) ≡ in_rectangle x y w (h + 1) q
one_row_more x y w h q = grind (arith, nat_tests)

pub loop-row-preserved : goal.loop-row-preserved
loop-row-preserved c =
    let pushed = c.push_run.ensures in
    let inv = c.loop-row.invariant in
    record {
      room = omega (arith, inv.room, pushed.len, pushed.capacity, c.loop-row-test.true);
      runs = rw (append_none c.push_run.new.runs.items) at (pushed.runs [] (search rules, tt, tt));
      cells = λ q. pushed.cells q ∙ rw (c.of-run.ensures, inv.cells q) (one_row_more c.args.x c.args.y c.args.w c.loop-row.row q);
      ended = pushed.ended (c.args.x, c.args.y + (c.loop-row.row + 1))
          (HaveEnded-later c.loop-row.runs.items (c.args.x, c.args.y + c.loop-row.row) _ inv.ended (inl (omega arith))) (grind (arith, nat_tests));
    }
