use Rattle.std.proofs.Common.{◌≡◌, ◌≤◌, ℕ, Bool, false, not, Option, IsSome, is_some, sym, ap, ◌∙◌, arith}
use Rattle.std.specs.List.{list_any}
use Rattle.map_model.specs.declared.parts.MapParts.{MapParts}
use Rattle.map_model.specs.Renumbering.{has_losses}
use Rattle.map_model.specs.Tilesets.{tileset_place}
use Rattle.map_model.specs.Uses.{base_limit}
use Rattle.edits.specs.TilesetEdits.{is_in_way}
use Rattle.property_commands.proofs.Numbering.{found, number-below, number_made, own-below}
use Rattle.property_commands.proofs.number.NumberTileset.new.Goals as goal

there : (o p : Option ℕ) (q : Bool) → o ≡ p → is_some o ≡ not q → q ≡ false → IsSome p
there o p q same is out = ap is_some (sym same) ∙ (is ∙ ap not out)

free : (first number : ℕ) (m n : MapParts) (q : Bool) → n ≡ m → q ≡ list_any (is_in_way first number) n.tilesets → q ≡ false
    → list_any (is_in_way first number) m.tilesets ≡ false
free first number m n q same is out = ap (λ k. list_any (is_in_way first number) k.tilesets) (sym same) ∙ (sym is ∙ out)

pub has_losses-requires-clause-from : goal.has_losses-requires-clause-from
has_losses-requires-clause-from c =
    let map = c.map-map.result.now in
    let some = there _ _ _ c.tileset_place.ensures.place c.is_none.ensures c.if-is_none.false in
    let small = (found map c.args.first_id some c.tileset_place.ensures.well_formed).1 in
    own-below c.args.first_id base_limit map.tilesets (omega (arith, small))

pub has_losses-requires-clause-to : goal.has_losses-requires-clause-to
has_losses-requires-clause-to c =
    let map = c.map-map.result.now in
    let well_formed = c.tileset_place.ensures.well_formed in
    let some = there _ _ _ c.tileset_place.ensures.place c.is_none.ensures c.if-is_none.false in
    let way = free c.args.first_id c.args.number map _ _ c.parts.ensures.value c.is_any_in_way.ensures c.if-is_any_in_way.false in
    number-below c.args.first_id c.args.number map (found map c.args.first_id some well_formed).0 way c.if-number-gt-MAX_FIRST_ID.false well_formed

pub returns-clause-command : goal.returns-clause-command
returns-clause-command c =
    let same = c.map-map.ensures in
    let place = c.tileset_place.ensures.place ∙ ap (λ m. tileset_place m c.args.first_id) same in
    let some = there _ _ _ place c.is_none.ensures c.if-is_none.false in
    let way = free c.args.first_id c.args.number _ _ _ (c.parts.ensures.value ∙ same) c.is_any_in_way.ensures c.if-is_any_in_way.false in
    let losses = ap (λ m. has_losses m c.args.first_id c.args.number) (sym same) ∙ (sym c.has_losses.ensures ∙ c.if-has_losses.false) in
    let low : 1 ≤ c.args.number = omega (arith, c.if-number-eq0.false) in
    number_made c.args.document.now c.args.first_id c.args.number some low c.if-number-gt-MAX_FIRST_ID.false way losses
    (rw (← same) c.tileset_place.ensures.well_formed)
