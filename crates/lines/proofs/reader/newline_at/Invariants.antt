use Rattle.std.proofs.Common.{◌≡◌, ◌+◌, ◌-◌, ◌≤◌, length, drop}
use Rattle.lines.specs.Reading.{first_newline}
use Rattle.lines.proofs.reader.newline_at.Given as goal

abbrev pub invariant-loop-seen : goal.invariant-loop-seen
invariant-loop-seen l = record {
  within : l.seen ≤ length l.bytes;
  first : first_newline l.bytes ≡ l.seen + first_newline (drop l.seen l.bytes);
}

abbrev pub decreases-loop-seen : goal.decreases-loop-seen
decreases-loop-seen l = length l.bytes - l.seen
