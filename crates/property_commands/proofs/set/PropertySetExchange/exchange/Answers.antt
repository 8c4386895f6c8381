use Rattle.std.proofs.Common.{◌∙◌}
use Rattle.map_model.specs.Given.{given_setting}
use Rattle.map_model.proofs.StayPut.{setting_named-laws}
use Rattle.command_api.proofs.Swaps.{shown_swapped}
use Rattle.property_commands.specs.PropertyChanges.{AllowsSetting}
use Rattle.property_commands.specs.Names.{set_property_names}
use Rattle.property_commands.proofs.PropertyMaking.{setting_at-get}
use Rattle.property_commands.proofs.Settings.{set-there, setting_named-get, setting-put, AllowsSetting-put, new_link-turned}
use Rattle.property_commands.proofs.set.PropertySetExchange.exchange.Goals as goal

pub swap_setting-requires-clause-there : goal.swap_setting-requires-clause-there
swap_setting-requires-clause-there c =
    let s = c.args.self.now in
    let fits = rw c.in-Replace.is at c.requires.fits in
    set-there s.owner s.name s.place s.at c.in-Replace.is_made (given_setting s.shown) c.in-Replace.setting c.args.document.now fits

pub swap_setting-requires-clause-value : goal.swap_setting-requires-clause-value
swap_setting-requires-clause-value c = let fits = rw c.in-Replace.is at c.requires.fits in fits.allowed.setting

pub returns-in-Replace : goal.returns-in-Replace
returns-in-Replace c =
    let s = c.args.self.now in
    let d = c.args.document.now in
    let held = c.in-Replace.setting in
    let swap = c.swap_setting in
    let fits = rw c.in-Replace.is at c.requires.fits in
    let stands = fits.allowed.stands in
    let document = swap.ensures.document ∙ setting-put s.owner s.name s.place s.at d stands held in
    rw c.in-Replace.is (
    shown_swapped c.in-Replace.is_made (AllowsSetting s.owner s.name s.place s.at) (setting_named-laws s.owner s.name) fits
    (setting_named-get s.owner s.name s.place s.at d stands ∙ setting_at-get d s.place s.at swap.new.setting swap.ensures.given) document
    (rw document (AllowsSetting-put s.owner s.name s.place s.at d held swap.new.setting stands (rw document at swap.ensures.back)))
    )

pub exchange_property-requires : goal.exchange_property-requires
exchange_property-requires c = let fits = rw c.in-Add.is at c.requires.fits in fits.link

pub returns-in-Add : goal.returns-in-Add
returns-in-Add c =
    let s = c.args.self.now in
    let names = set_property_names s.owner s.name s.follows in
    let turn = c.exchange_property in
    let fits = rw c.in-Add.is at c.requires.fits in
    rw c.in-Add.is (
    new_link-turned s.owner s.name s.place s.at names (given_setting s.shown) c.in-Add.held turn.new.held c.args.document.now turn.new.document fits
    turn.ensures.held (turn.ensures.exchanged names)
    )
