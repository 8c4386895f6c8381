use Rattle.std.proofs.Common.{◌≡◌}
use Rattle.serde_json.specs.View.{members_view}
use Rattle.fractions.specs.Lines.{without_named}
use Rattle.fractions.proofs.lines.remove_named.Given as goal

abbrev pub invariant-loop-name : goal.invariant-loop-name
invariant-loop-name l =
    without_named (members_view l.name-iterator) (members_view l.members.entries)
    ≡ without_named (members_view l.words.entries) (members_view l.initial.members.entries)
