use Rattle.std.proofs.Common.{◌≡◌}
use Rattle.map_model.specs.Heads.{tileset_head_with_id, tileset_value}
use Rattle.map_model.specs.Lens.{put}
use Rattle.member_commands.proofs.Narrowed.{both_told}
use Rattle.member_commands.proofs.narrowing.edited_value.Goals as goal

pub returns-in-Set-clause-value : goal.returns-in-Set-clause-value
returns-in-Set-clause-value c =
    let there = rw c.as_str.ensures at c.other_value.ensures.there in
    let value = rw c.as_str.ensures at c.other_value.ensures.value in
    rw c.in-Set.is (both_told (λ v. put (tileset_value c.args.first_id c.in-Set.name) v c.args.document.now
    ≡ put (tileset_head_with_id c.args.first_id) c.args.head.now c.args.document.now) c.other_value.result there value)
