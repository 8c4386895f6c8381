use Rattle.std.proofs.Common.{◌≡◌}
use Rattle.serde_json.specs.View.{members_view}
use Rattle.json_members.specs.Members.{put_all}
use Rattle.fractions.proofs.lines.put_all.Given as goal

abbrev pub invariant-loop-name : goal.invariant-loop-name
invariant-loop-name l =
    put_all (members_view l.name-iterator) (members_view l.members.entries)
    ≡ put_all (members_view l.fn.more.entries) (members_view l.initial.members.entries)
