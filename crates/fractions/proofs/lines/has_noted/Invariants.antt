use Rattle.std.proofs.Common.{◌≡◌}
use Rattle.serde_json.specs.View.{members_view}
use Rattle.fractions.specs.Lines.{has_noted}
use Rattle.fractions.proofs.lines.has_noted.Given as goal

abbrev pub invariant-loop-name : goal.invariant-loop-name
invariant-loop-name l = has_noted l.place (members_view l.name-iterator) ≡ has_noted l.place (members_view l.members.entries)
