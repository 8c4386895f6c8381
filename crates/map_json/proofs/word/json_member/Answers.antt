use Rattle.std.proofs.Common.{ap, ◌∙◌}
use Rattle.fractions.specs.Places.{is_inner}
use Rattle.map_json.proofs.Asides.{inner_below}
use Rattle.map_json.proofs.word.json_member.Goals as goal

pub json_word-requires-in-SetAside : goal.json_word-requires-in-SetAside
json_word-requires-in-SetAside c = ap is_inner c.below.ensures ∙ inner_below c.args.place c.args.name.now c.requires
