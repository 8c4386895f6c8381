use Rattle.std.proofs.Common.{◌≡◌, Some, sym, ap, ◌∙◌}
use Rattle.std.specs.Option.{option_copied}
use Rattle.map_model.specs.Tilesets.{tileset_with}
use Rattle.member_commands.proofs.Narrowed.{apart-is_head}
use Rattle.member_commands.proofs.narrowing.other_value.Goals as goal

pub returns-clause-value : goal.returns-clause-value
returns-clause-value c =
    let there = ap (λ m. tileset_with m c.args.first_id) (sym c.map.ensures) ∙ sym c.tileset.ensures.tileset ∙ ap option_copied c.in-Some.is in
    apart-is_head c.args.first_id c.args.name.now c.in-Some.tileset.now c.args.head.now c.new.result c.args.document.now c.value_apart.result there
    c.value_apart.ensures.value c.value_apart.ensures.own
