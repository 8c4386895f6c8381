use Rattle.std.proofs.Common.{length, string_bytes, ◌+◌, []}
use denote.Text.{Utf8}
use denote.Shadow.{shadow}
use Rattle.xml_text.specs.Answers.{turns}
use Rattle.xml_text.specs.Said.{said_turn}
use Rattle.xml_text.proofs.Loops.{Goes}
use Rattle.xml_text.proofs.said.said.Given as goal

abbrev pub invariant-loop-out : goal.invariant-loop-out
invariant-loop-out l = record {
  utf8 : shadow (Utf8 l.rest);
  goes : Goes (said_turn l.is_value) (length l.rest) (string_bytes l.out, l.rest)
      (turns (length l.fn.text + 1) (said_turn l.is_value) ([], l.fn.text));
}

abbrev pub decreases-loop-out : goal.decreases-loop-out
decreases-loop-out l = length l.rest
