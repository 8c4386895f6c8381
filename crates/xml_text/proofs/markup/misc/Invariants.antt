use Rattle.std.proofs.Common.{◌≤◌, length}
use denote.Text.{Utf8}
use denote.Shadow.{shadow}
use Rattle.xml_text.specs.Reading.{misc_turn, misc}
use Rattle.xml_text.proofs.Loops.{Goes}
use Rattle.xml_text.proofs.markup.misc.Given as goal

abbrev pub invariant-loop-is_last : goal.invariant-loop-is_last
invariant-loop-is_last l = record {
  utf8 : shadow (Utf8 l.rest);
  shorter : length l.rest ≤ length l.fn.text;
  goes : Goes misc_turn (length l.rest) l.rest (misc l.fn.text);
}

abbrev pub decreases-loop-is_last : goal.decreases-loop-is_last
decreases-loop-is_last l = length l.rest
