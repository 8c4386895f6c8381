use Rattle.std.proofs.Common.{refl, sym, ap, ◌∙◌, subst}
use Rattle.std.specs.Option.{option_copied}
use Rattle.map_model.specs.declared.setting.Setting.{Setting}
use Rattle.command_api.specs.declared.ids.TheConstants.{SET_ID}
use Rattle.command_api.specs.Names.{Names}
use Rattle.command_api.specs.Offers.{FitsSetting}
use Rattle.command_api.proofs.Tags.{OfName-same}
use Rattle.property_commands.proofs.Settings.{set-merged, set-names}
use Rattle.property_commands.proofs.set.PropertySetCommand.merge.Goals as goal

pub returns-clause-merged : goal.returns-clause-merged
returns-clause-merged c told =
    let s = c.args.self.now in
    let d = c.args.document.now in
    let newer = c.in-Value in
    let shown = c.in_ok-shown.shown in
    let before = option_copied newer.before in
    let asked = rw c.in-Value.is at c.requires in
    let tag = c.sets.ensures.0 c.if-not-sets.false in
    let same = OfName-same SET_ID s.owner newer.owner s.name newer.name.now (sym (ap (λ (n : Names). n.tag) (set-names s)) ∙ tag) in
    let owner = sym same.0 in
    let name = sym same.1 in
    let fits = subst (λ (g : Setting). FitsSetting s.owner s.name before g d) (sym c.in_ok-shown.ensures) (rw (owner, name) at asked.0) in
    let rest = c.show.ensures.rest in
    let kind = c.show.ensures.kind in
    rw c.in-Value.is (
    set-merged s c.show.new.self shown c.show.new.self.kind before d _ rest kind fits (rw (owner, name) refl) asked.1
    )
