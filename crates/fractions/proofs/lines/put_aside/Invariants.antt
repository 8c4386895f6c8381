use Rattle.std.proofs.Common.{◌≡◌}
use Rattle.serde_json.specs.View.{members_view}
use Rattle.json_members.specs.Members.{put_all}
use Rattle.fractions.specs.Aside.{members_aside}
use Rattle.fractions.proofs.lines.put_aside.Given as goal

abbrev pub invariant-loop-name : goal.invariant-loop-name
invariant-loop-name l =
    put_all (members_aside l.place (members_view l.name-iterator)) (members_view l.members.entries)
    ≡ put_all (members_aside l.place (members_view l.words.entries)) (members_view l.initial.members.entries)
