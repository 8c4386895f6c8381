use Rattle.std.proofs.Common.{◌≡◌, Some, sym, ◌∙◌}
use Rattle.command_api.proofs.Swaps.{held_swapped}
use Rattle.map_model.proofs.ValueLaws.{tileset_value-laws}
use Rattle.member_commands.proofs.value_command.SetValueExchange.exchange.Goals as goal

pub set_tileset_value-requires : goal.set_tileset_value-requires
set_tileset_value-requires c =
    let fits = rw (sym c.take.ensures.value ∙ c.in-Some.is) at c.requires.fits in
    rw c.as_str.ensures (record { there = fits.there; well_formed = fits.back })

pub returns : goal.returns
returns c =
    let s = c.args.self.now in
    let has = sym c.take.ensures.value ∙ c.in-Some.is in
    rw has (held_swapped s.is_made (tileset_value-laws s.first_id s.name) (rw has at c.requires.fits) (rw c.as_str.ensures at c.set_tileset_value.ensures.given)
    (rw c.as_str.ensures at c.set_tileset_value.ensures.document))
