use Rattle.std.proofs.Common.{◌≡◌, ◌≤◌, ◌+◌, ◌-◌, ◌*◌, ◌++◌, ℕ, List, length, take, sym, ap, ◌∙◌, append_assoc, append-nil, arith, rules}
use Rattle.std.specs.List.{flat_map, range_with_len}
use Rattle.std.proofs.lemmas.List.{take_all}
use Rattle.std.proofs.lemmas.Slice.{take-put_mid}
use Rattle.memory_editor.specs.Rectangles.{row_of}
use Rattle.memory_editor.proofs.Rows.{copied_within, length-row_of, rows_from}
use Rattle.memory_editor.proofs.rectangle.copy_rows.Goals as goal

pub overflow_add-row-end : goal.overflow_add-row-end
overflow_add-row-end c = omega (arith, c.requires.rows, c.requires.size.height_limit)

pub slice_bounds-copy_values-end-in-loop-row : goal.slice_bounds-copy_values-end-in-loop-row
slice_bounds-copy_values-end-in-loop-row c =
    let r = c.args.rectangle in
    let within : c.loop-row.to + r.width ≤ length c.loop-row.cells =
    omega (
      arith,
      copied_within c.loop-row.to c.loop-row.row r.y r.width r.height c.loop-row.invariant.0 c.loop-row-test.true,
      c.loop-row.auto.cells,
      c.requires.room,
    ) in
    search rules

pub loop-row-preserved : goal.loop-row-preserved
loop-row-preserved c =
    let r = c.args.rectangle in
    let m = c.args.map.now in
    let values = c.args.values.now in
    let row = c.loop-row.row in
    let to = c.loop-row.to in
    let cells = c.loop-row.cells in
    let new = c.copy_values.new.cells in
    let f = row_of m.width r values in
    let rest = flat_map f (range_with_len (row + 1) (r.y + r.height - (row + 1))) in
    let is : new ≡ f row = c.copy_values.ensures in
    let wide : length new ≡ r.width = ap length is ∙ length-row_of r m.width m.height values row c.requires.columns
    (omega (arith, c.loop-row-test.true, c.requires.rows)) c.requires.values in
    let within = copied_within to row r.y r.width r.height c.loop-row.invariant.0 c.loop-row-test.true in
    let front = take-put_mid to (to + r.width - to) cells new (to + r.width) (omega (arith, wide))
    (omega (arith, within, c.loop-row.auto.cells, c.requires.room)) in (
      omega (arith, c.loop-row.invariant.0),
      ap (λ (t : List ℕ). t ++ rest) front
          ∙ (append_assoc (take to cells) new rest
          ∙ (ap (λ (t : List ℕ). take to cells ++ t) (ap (λ (t : List ℕ). t ++ rest) is ∙ sym (rows_from f row (r.y + r.height) c.loop-row-test.true))
          ∙ c.loop-row.invariant.1)),
    )

pub returns : goal.returns
returns c =
    let r = c.args.rectangle in
    let f = row_of c.args.map.now.width r c.args.values.now in
    let row = c.loop-row.row in
    let to = c.loop-row.to in
    let cells = c.loop-row.cells in
    let last : row ≡ r.y + r.height = omega (arith, c.loop-row-test.false, c.loop-row.auto.row-end (omega arith)) in
    let all : to ≡ r.height * r.width = omega (arith, c.loop-row.invariant.0, ap (λ n. n * r.width) last) in
    let none : r.y + r.height - row ≡ 0 = omega (arith, last) in
    sym (take_all to cells (omega (arith, all, c.loop-row.auto.cells, c.requires.room)))
    ∙ (sym (append-nil (take to cells)) ∙ (sym (ap (λ n. take to cells ++ flat_map f (range_with_len row n)) none) ∙ c.loop-row.invariant.1))
