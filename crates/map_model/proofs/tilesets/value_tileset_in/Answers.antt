use Rattle.std.proofs.Common.{◌≡◌, ℕ, Some, None, IsSome, Option, is_some, option_and_then, find, refl, sym, ap, ◌∙◌}
use Rattle.std.specs.List.{position}
use Rattle.serde_json.specs.Find.{get_member}
use Rattle.map_model.specs.declared.parts.Tileset.{Tileset}
use Rattle.map_model.specs.Heads.{with_member}
use Rattle.map_model.specs.Tilesets.{has_first_id}
use Rattle.map_model.proofs.Changes.{find-at_position, position-found, set-at_position}
use Rattle.map_model.proofs.ValueLaws.{some-then}
use Rattle.map_model.proofs.tilesets.value_tileset_in.Goals as goal

pub unreachable-requires : goal.unreachable-requires
unreachable-requires c =
    let there = position-found (has_first_id c.args.first_id) c.args.tilesets.now (some-then (λ t. get_member c.args.name.now t.kept) _ c.requires) in
    let none : position (has_first_id c.args.first_id) c.args.tilesets.now ≡ None = sym c.place_in.ensures ∙ c.in_default.is in
    let no = sym (ap is_some none) ∙ there in
    cc

pub replace_value-requires : goal.replace_value-requires
replace_value-requires c =
    let place = sym c.place_in.ensures ∙ c.in-Some.is in
    let found = find-at_position (has_first_id c.args.first_id) c.args.tilesets.now c.in-Some.at c.get_mut.result.now place c.get_mut.ensures.value in
    rw found at c.requires

pub returns-clause-given : goal.returns-clause-given
returns-clause-given c =
    let place = sym c.place_in.ensures ∙ c.in-Some.is in
    let found = find-at_position (has_first_id c.args.first_id) c.args.tilesets.now c.in-Some.at c.get_mut.result.now place c.get_mut.ensures.value in
    rw found c.replace_value.ensures.given

pub returns-clause-tilesets : goal.returns-clause-tilesets
returns-clause-tilesets c =
    let place = sym c.place_in.ensures ∙ c.in-Some.is in
    rw c.replace_value.ensures.kept (set-at_position (has_first_id c.args.first_id)
    (λ t. record t { kept = with_member c.args.name.now (λ own. c.args.value) t.kept }) c.args.tilesets.now c.in-Some.at c.get_mut.result.now place
    c.get_mut.ensures.value)
