use Rattle.std.proofs.Common.{subst, sym, ap, ◌∙◌, ◌≡◌, IsSome}
use Rattle.map_model.specs.declared.document.Document.TheInside.{Inside}
use Rattle.map_model.specs.Document.{DocumentParts}
use Rattle.map_model.specs.Lists.{change_at}
use Rattle.map_model.specs.Properties.{IsSetting, property_at, property_with_setting}
use Rattle.map_model.specs.Keeping.{property_tier}
use Rattle.map_model.specs.WellFormed.{IsValue}
use Rattle.map_model.proofs.PropertyKeeps.{owner_tier-with_properties, with_setting-keeps, property_at-IsSetting, with_properties-IsSelectionOf}
use Rattle.map_model.proofs.Selections.{selection-IsSelectionOf}
use Rattle.map_model.proofs.document.Document.swap_setting.Goals as goal

pub invariant_of-self-inside : goal.invariant_of-self-inside
invariant_of-self-inside c =
    let m = c.self-inside.inside.0.0.parts in
    let is : m ≡ c.args.self.now.map = ap (λ (i : Inside). i.map) c.self-inside.view_is ∙ ap (λ (d : DocumentParts). d.map) c.self.view_is in
    let there : IsSome (property_at m c.args.owner c.args.at) = rw is c.requires.there in
    let value : IsSetting m c.args.owner c.args.setting.now = rw is c.requires.value in
    rw c.swap_in.ensures.parts
    (with_setting-keeps c.args.owner c.args.at c.args.setting.now m there value c.self-inside.invariant)

pub invariant_of-self : goal.invariant_of-self
invariant_of-self c = record {
  map = invariant_of-self-inside c;
  selection = rw c.swap_in.ensures.parts
      (with_properties-IsSelectionOf c.args.owner (change_at c.args.at (property_with_setting c.args.setting.now)) c.self-inside.inside.0.0.parts
      c.self-inside.inside.0.1.0 (selection-IsSelectionOf c.self-inside.view_is c.self.invariant));
}

pub returns-clause-given : goal.returns-clause-given
returns-clause-given c =
    let is = ap (λ (i : Inside). i.map) c.self-inside.view_is ∙ ap (λ (d : DocumentParts). d.map) c.self.view_is in
    rw (← is) c.swap_in.ensures.given

pub returns-clause-back : goal.returns-clause-back
returns-clause-back c =
    let m = c.self-inside.inside.0.0.parts in
    let tier = owner_tier-with_properties c.args.owner (change_at c.args.at (property_with_setting c.args.setting.now)) m c.args.owner in
    let old = property_at-IsSetting c.args.owner c.args.at c.swap_in.new.setting m c.swap_in.ensures.given c.self-inside.invariant in
    rw c.swap_in.ensures.parts (record {
      kind = old.kind;
      value = subst (λ n. IsValue (property_tier n) c.swap_in.new.setting.value) (sym tier) old.value;
    })

pub returns-clause-well_formed : goal.returns-clause-well_formed
returns-clause-well_formed c = invariant_of-self c
