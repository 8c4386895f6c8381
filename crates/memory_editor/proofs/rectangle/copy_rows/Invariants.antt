use Rattle.std.proofs.Common.{◌≡◌, ◌+◌, ◌-◌, ◌*◌, ◌++◌, take}
use Rattle.std.specs.List.{flat_map, range_with_len}
use Rattle.memory_editor.specs.Rectangles.{row_of, rows_of}
use Rattle.memory_editor.proofs.rectangle.copy_rows.Given as goal

abbrev pub invariant-loop-row : goal.invariant-loop-row
invariant-loop-row l =
    let r = l.rectangle in
    (l.to + r.y * r.width ≡ l.row * r.width)
    × (take l.to l.cells ++ flat_map (row_of l.map.width r l.values) (range_with_len l.row (r.y + r.height - l.row)) ≡ rows_of l.map.width r l.values)
