-- A tileset that is added, and one that is removed.
use Rattle.std.proofs.Common.{◌≡◌, IsUtf8, ℕ, ◌<◌, ◌≤◌, List, [], ◌∷◌, length, true, false, Option, Some, None, IsSome, Result, Ok, refl, arith}
use Rattle.std.proofs.lemmas.Bool.{lt-ltb, le-leb, and_parts, ltb-true}
use Rattle.std.proofs.lemmas.List.Quantifiers.{position-Some}
use Rattle.map_model.specs.declared.limits.TheConstants.{MAX_FIRST_ID, MAX_TILESETS}
use Rattle.map_model.specs.declared.parts.MapParts.{MapParts}
use Rattle.map_model.specs.declared.parts.Tileset.{Tileset}
use Rattle.map_model.specs.Document.{DocumentParts, with_map}
use Rattle.map_model.specs.Lists.{Each}
use Rattle.map_model.specs.NewMap.{external_tileset}
use Rattle.map_model.specs.Tilesets.{has_first_id, has_uses, tileset_at, tileset_place}
use Rattle.map_model.specs.WellFormed.{IsTileset, IsWellFormed}
use Rattle.map_model.proofs.Changes.{slice_get-Some}
use Rattle.map_model.proofs.NewMaps.{external_tileset-IsTileset}
use Rattle.map_model.proofs.TilesetChanges.{insert_tileset-keeps, remove_tileset-keeps}
use Rattle.refusals.specs.declared.edit_fault.EditFault.{EditFault}
use Rattle.command_api.specs.Making.{Makes}
use Rattle.command_api.proofs.Links.{link_made}
use Rattle.edits.specs.TilesetEdits.{is_above, after_add_tileset, after_put_tileset, after_remove_tileset, with_last_tileset}
use Rattle.property_commands.specs.TilesetChanges.{add_tileset_change, remove_tileset_change}
use Rattle.property_commands.specs.Names.{add_tileset_names, remove_tileset_names}

below : (first : ℕ) (ts : List Tileset) → is_above first ts ≡ true → Each (λ t. t.first_id < first) ts
below first [] h = tt
below first (t ∷ ts) h = let both = and_parts _ _ h in (ltb-true _ _ both.0, below first ts both.1)

-- a tileset whose first id is above all others is put in behind them
last_made : (d : DocumentParts) (t : Tileset) (at : ℕ) (loose : Option Tileset) (after : Result DocumentParts EditFault) → at ≡ length d.map.tilesets
    → loose ≡ Some t → is_above t.first_id d.map.tilesets ≡ true → IsTileset t → length d.map.tilesets < MAX_TILESETS → IsWellFormed d.map
    → after ≡ Ok (with_map (with_last_tileset t) d)
    → Makes add_tileset_names d after (add_tileset_change (record { at = at; tileset = Some loose; first_id = t.first_id }))
last_made d t at loose after last is above tileset few h result =
    rw (is, last) (
    link_made refl (record {
      ready = omega arith;
      before = h;
      after = insert_tileset-keeps d.map (length d.map.tilesets) t few tileset (below t.first_id d.map.tilesets above) h;
    }) result
    )

pub add_tileset_made : (d : DocumentParts) (first : ℕ) (source : List ℕ) (at : ℕ) (loose : Option Tileset) → IsUtf8 source → at ≡ length d.map.tilesets
    → loose ≡ Some (external_tileset first source) → is_above first d.map.tilesets ≡ true → 1 ≤ first
    → first ≤ MAX_FIRST_ID → length d.map.tilesets < MAX_TILESETS → IsWellFormed d.map
    → Makes add_tileset_names d (after_add_tileset d first source) (add_tileset_change (record { at = at; tileset = Some loose; first_id = first }))
add_tileset_made d first source at loose utf8 last is above low high few h =
    last_made d (external_tileset first source) at loose (after_add_tileset d first source) last is above
    (external_tileset-IsTileset first source utf8 low high) few h
    (rw (above, le-leb 1 first low, le-leb first MAX_FIRST_ID high, lt-ltb (length d.map.tilesets) MAX_TILESETS few) refl)

pub put_tileset_made : (d : DocumentParts) (t : Tileset) (at : ℕ) (loose : Option Tileset) → at ≡ length d.map.tilesets → loose ≡ Some t
    → is_above t.first_id d.map.tilesets ≡ true → IsTileset t → length d.map.tilesets < MAX_TILESETS → IsWellFormed d.map
    → Makes add_tileset_names d (after_put_tileset d t) (add_tileset_change (record { at = at; tileset = Some loose; first_id = t.first_id }))
put_tileset_made d t at loose last is above tileset few h =
    last_made d t at loose (after_put_tileset d t) last is above tileset few h
    (rw (above, lt-ltb (length d.map.tilesets) MAX_TILESETS few) refl)

-- a tileset stands at the place that is found
place-there : (m : MapParts) (first at : ℕ) → tileset_place m first ≡ Some at → IsSome (tileset_at m at)
place-there m first at e =
    let none : Tileset = external_tileset 0 [] in
    let found = position-Some (has_first_id first) m.tilesets at none e in
    let there = slice_get-Some m.tilesets at found.0 in
    rw there.1 refl

pub remove_tileset_made : (d : DocumentParts) (first at : ℕ) → tileset_place d.map first ≡ Some at → has_uses d.map first ≡ false → IsWellFormed d.map
    → Makes remove_tileset_names d (after_remove_tileset d first) (remove_tileset_change (record { at = at; tileset = None; first_id = first }))
remove_tileset_made d first at e unused h =
    link_made refl (record { ready = place-there d.map first at e; before = h; after = remove_tileset-keeps d.map at _ refl h }) (rw (e, unused) refl)
