use Rattle.std.proofs.Common.{◌≡◌}
use Rattle.serde_json.specs.View.{members_view}
use Rattle.map_json.specs.Words.{all_named}
use Rattle.member_commands.proofs.making.are_own.Given as goal

abbrev pub invariant-loop-name : goal.invariant-loop-name
invariant-loop-name g l = all_named g.H.Head.parts.is_own (members_view l.name-iterator) ≡ all_named g.H.Head.parts.is_own l.words
