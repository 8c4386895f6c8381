-- What is told of many lines.
use Rattle.std.specs.Prelude.{if◌then◌else◌}
use Rattle.memory_editor.specs.declared.lines_done.LinesDone.{LinesDone}
use Rattle.roskevad_c.specs.declared.done_counts.DoneCounts.{DoneCounts}

abbrev pub counts_of : LinesDone → DoneCounts
counts_of done = record {
  bytes = done.bytes;
  replies = done.replies;
  is_refused = if done.is_refused then 1 else 0;
  has_room = if done.has_room then 1 else 0;
}
