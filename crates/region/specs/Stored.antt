-- Runs that three numbers of 16 bits can hold.
use Rattle.std.specs.Prelude.{◌+◌, ◌^◌, ◌<◌}
use Rattle.region.specs.declared.runs.Run.{Run}

-- the row and the column behind the last cell are numbers of 16 bits
pub record IsShort (r : Run) : Type 0 where
  pub row : r.y < 2 ^ 16
  pub fits : r.x + r.len < 2 ^ 16
