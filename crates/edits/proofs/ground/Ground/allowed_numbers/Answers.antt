use Rattle.std.proofs.Common.{rules, ◌≡◌, ℕ, ◌+◌, ◌*◌, ◌/◌, ◌<◌, length, true, Result, Ok, Err, IfOk, arith}
use Rattle.std.specs.declared.alloc.AllocError.{AllocError}
use Rattle.edits.specs.declared.marks.Marks.{Marks}
use Rattle.edits.specs.Marks.{is_marked, room}
use Rattle.std.proofs.lemmas.Result.{IfOk-weaker}
use Rattle.edits.specs.Flooding.{AreAllowed}
use Rattle.edits.proofs.SelectedNumbers.{AreAllowed-all, AreAllowed-selected}
use Rattle.edits.proofs.ground.Ground.allowed_numbers.Goals as goal

pub returns-then-is_empty-clause-cells : goal.returns-then-is_empty-clause-cells
returns-then-is_empty-clause-cells c =
    let g = c.args.self.now in
    all_of c.all.result c.all.ensures.room c.all.ensures.all
  where
    all_of : (r : Result Marks AllocError) → IfOk r (λ marks. room marks ≡ 64 * (length c.args.self.now.tiles.now / 64 + 1))
        → IfOk r (λ marks. (k : ℕ) → k < room marks → is_marked marks k ≡ true) → IfOk r (AreAllowed c.args.self.now)
    all_of (Ok m) e h = AreAllowed-all c.args.self.now m (search rules) (λ p l. h p (omega (arith, e)))
    all_of (Err f) e h = tt

pub returns-else-is_empty-clause-cells : goal.returns-else-is_empty-clause-cells
returns-else-is_empty-clause-cells c =
    let g = c.args.self.now in
    IfOk-weaker c.selected_numbers.result _ (AreAllowed g) (λ m h. AreAllowed-selected g m c.requires (search rules) h) c.selected_numbers.ensures.cells
