use Rattle.std.proofs.Common.{◌≡◌, ◌+◌, ◌*◌, ◌≤◌, length, drop}
use Rattle.map_values.specs.Texts.{numbers_text}
use Rattle.map_values.proofs.numbers.write_numbers.Given as goal

abbrev pub invariant-loop-left : goal.invariant-loop-left
invariant-loop-left l = record {
  text : drop l.start l.buffer ≡ numbers_text (drop l.left l.numbers);
  room : 11 * l.left ≤ l.start;
  start : l.start + length l.numbers ≤ length l.buffer + l.left;
  few : l.left ≤ length l.numbers;
}

abbrev pub decreases-loop-left : goal.decreases-loop-left
decreases-loop-left l = l.left
