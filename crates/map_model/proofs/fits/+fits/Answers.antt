use Rattle.std.proofs.Common.{sym, ap, ◌∙◌}
use Rattle.std.specs.Option.{option_copied}
use Rattle.map_model.proofs.Tiers.{fits-first, fits-gone, fits-group, fits-no_group, fits-no_groups}
use Rattle.map_model.proofs.fits.+fits.Goals as goal

pub layer_fits-returns-then-not-own_fits : goal.layer_fits-returns-then-not-own_fits
layer_fits-returns-then-not-own_fits t c = fits-gone c.args.groups c.args.tier c.args.layer.now (sym c.own_fits.ensures ∙ c.if-not-own_fits.true)

pub layer_fits-returns-then-groups-eq0 : goal.layer_fits-returns-then-groups-eq0
layer_fits-returns-then-groups-eq0 t c =
    fits-no_groups c.args.groups c.args.tier c.args.layer.now (sym c.own_fits.ensures ∙ c.if-not-own_fits.false) c.if-groups-eq0.true

pub layer_fits-returns-in-Some : goal.layer_fits-returns-in-Some
layer_fits-returns-in-Some t c =
    c.layers_fit.ensures
    ∙ fits-group c.args.groups c.args.tier c.args.layer.now c.in-Some.inside.now (sym c.own_fits.ensures ∙ c.if-not-own_fits.false) c.if-groups-eq0.false
    (sym c.layers.ensures ∙ ap option_copied c.in-Some.is)

pub layer_fits-returns-in-None : goal.layer_fits-returns-in-None
layer_fits-returns-in-None t c =
    fits-no_group c.args.groups c.args.tier c.args.layer.now (sym c.own_fits.ensures ∙ c.if-not-own_fits.false)
    (sym c.layers.ensures ∙ ap option_copied c.in-None.is)

pub layers_fit-returns-then-not-layer_fits : goal.layers_fit-returns-then-not-layer_fits
layers_fit-returns-then-not-layer_fits t c =
    fits-first c.args.groups c.args.tier c.in-Some.layer.now _ (sym c.layer_fits.ensures ∙ c.if-not-layer_fits.true)
    ∙ (rw c.in-Some.ensures.steps at c.loop-layer.invariant)
