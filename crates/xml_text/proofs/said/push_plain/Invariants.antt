use Rattle.std.proofs.Common.{◌≡◌, ◌++◌, length, string_bytes}
use denote.Text.{Utf8}
use denote.Shadow.{shadow}
use Rattle.xml_text.specs.Said.{plain}
use Rattle.xml_text.proofs.said.push_plain.Given as goal

abbrev pub invariant-loop-left : goal.invariant-loop-left
invariant-loop-left l =
    shadow (Utf8 l.rest) × (string_bytes l.out ++ plain l.is_value l.rest ≡ string_bytes l.fn.out ++ plain l.is_value l.fn.text)

abbrev pub decreases-loop-left : goal.decreases-loop-left
decreases-loop-left l = length l.rest
