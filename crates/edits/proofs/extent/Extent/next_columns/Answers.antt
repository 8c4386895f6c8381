use Rattle.std.proofs.Common.{◌∙◌, rules, arith}
use Rattle.edits.proofs.Extents.{lets_change-empty, lets_change-some}
use Rattle.edits.proofs.extent.Extent.next_columns.Goals as goal

pub returns-then-is_empty-clause-some : goal.returns-then-is_empty-clause-some
returns-then-is_empty-clause-some c = record {
  start = omega arith;
  some = c.if-from-end.false;
  fits = omega arith;
  before = λ x a b. absurd (omega arith);
  columns = λ x a b. lets_change-empty c.args.self.now.selection.now (search rules) (x, c.args.y);
}

pub returns-in_default-clause-none : goal.returns-in_default-clause-none
returns-in_default-clause-none c x a b =
    lets_change-some c.args.self.now.selection.now (search rules) (x, c.args.y) ∙ c.in_default.ensures.none x a b

pub returns-clause-some : goal.returns-clause-some
returns-clause-some c =
    let run = c.in-Some.run' in
    let found = c.in-Some.ensures.some in
    record {
      start = found.start;
      some = omega (arith, found.some);
      fits = found.fits;
      before = λ x a b. lets_change-some c.args.self.now.selection.now (search rules) (x, c.args.y) ∙ found.before x a b;
      columns = λ x a b. lets_change-some c.args.self.now.selection.now (search rules) (x, c.args.y) ∙ found.cells x a b;
    }
