use Rattle.std.proofs.Common.{◌≡◌, Some, None, IsSome, option_map, refl, sym, ap, ◌∙◌}
use Rattle.std.specs.Option.{option_copied_mut}
use Rattle.serde_json.specs.Find.{get_member}
use Rattle.serde_json.specs.View.{view}
use Rattle.serde_json.proofs.Views.{view-lookup}
use Rattle.map_model.specs.Heads.{with_member}
use Rattle.map_model.proofs.ValueLaws.{members_view-set_value}
use Rattle.map_model.proofs.contents.Kept.replace_value.Goals as goal

pub unreachable-requires : goal.unreachable-requires
unreachable-requires c =
    let found = ap (get_member c.args.name.now) (sym c.self.view_is) ∙ sym (view-lookup c.args.name.now c.self.inside.members.entries)
    ∙ ap (option_map view) (sym c.get_mut.ensures.value ∙ ap option_copied_mut c.in_default.is) in
    let no = rw found at c.requires in
    cc

pub returns-clause-given : goal.returns-clause-given
returns-clause-given c =
    ap (get_member c.args.name.now) (sym c.self.view_is) ∙ sym (view-lookup c.args.name.now c.self.inside.members.entries)
    ∙ ap (option_map view) (sym c.get_mut.ensures.value ∙ ap option_copied_mut c.in-Some.is) ∙ ap (λ v. Some (view v)) (sym c.replace.ensures.value)

pub returns-clause-kept : goal.returns-clause-kept
returns-clause-kept c =
    let written = (c.get_mut.follows.holds c.replace.new.dest).0 in
    let told = ap view c.replace.ensures.after ∙ c.value.view_is in
    rw (written, members_view-set_value c.args.name.now c.replace.new.dest c.self.inside.members.entries, told, c.self.view_is) refl
