-- A tileset that gets another first id.
use Rattle.std.proofs.Common.{◌≡◌, ◌⊎◌, inl, inr, ℕ, ◌<◌, ◌≤◌, List, [], ◌∷◌, Bool, true, false, nat_le, Option, Some, None, IsSome, refl, arith}
use Rattle.std.specs.List.{list_any}
use Rattle.std.proofs.lemmas.Bool.{le-leb, or_parts}
use Rattle.std.proofs.lemmas.List.Quantifiers.{position-Some}
use Rattle.std.proofs.lemmas.Option.{get_or_from_slice_get}
use Rattle.std.proofs.lemmas.Bool.Decides.{nat_tests}
use Rattle.map_model.specs.declared.limits.TheConstants.{MAX_FIRST_ID}
use Rattle.map_model.specs.declared.parts.Layer.{Layer}
use Rattle.map_model.specs.declared.parts.MapParts.{MapParts}
use Rattle.map_model.specs.declared.parts.Tileset.{Tileset}
use Rattle.map_model.specs.Document.{DocumentParts}
use Rattle.map_model.specs.Groups.{all_drawn}
use Rattle.map_model.specs.Lists.{Each}
use Rattle.map_model.specs.Renumbering.{KeepsTileset, LiesApart, MayBeRenumbered, end_in, has_losses, loses_tileset}
use Rattle.map_model.specs.Tilesets.{has_first_id, tileset_place, tileset_with, values_of}
use Rattle.map_model.specs.NewMap.{external_tileset}
use Rattle.map_model.specs.Uses.{base_limit, end_of, nearer}
use Rattle.map_model.specs.WellFormed.{IsWellFormed}
use Rattle.map_model.proofs.Changes.{find-at_position, slice_get-Some}
use Rattle.map_model.proofs.Renumbered.{apart, end-above}
use Rattle.map_model.proofs.TilesetChanges.{tileset_with-IsTileset}
use Rattle.command_api.specs.Making.{Makes}
use Rattle.edits.specs.TilesetEdits.{after_number_tileset, is_in_way}
use Rattle.property_commands.specs.TilesetChanges.{number_tileset_change}
use Rattle.property_commands.specs.Names.{number_tileset_names}

-- ---- what no test finds
keeps : (low end to value : ℕ) → loses_tileset low end to value ≡ false → KeepsTileset low end to value
keeps low end to value e = record {
  along = λ between. grind (arith, nat_tests, rw between at e);
  stays = λ between. rw between at e;
}

values-keep : (low end to : ℕ) (vs : List ℕ) → list_any (loses_tileset low end to) vs ≡ false → Each (KeepsTileset low end to) vs
values-keep low end to [] e = tt
values-keep low end to (v ∷ vs) e =
    let both = or_parts (loses_tileset low end to v) (list_any (loses_tileset low end to) vs) e in
    (keeps low end to v both.0, values-keep low end to vs both.1)

drawn-keep : (low end to : ℕ) (ds : List (ℕ × Layer)) → list_any (λ d. list_any (loses_tileset low end to) (values_of d)) ds ≡ false
    → Each (λ d. Each (KeepsTileset low end to) (values_of d)) ds
drawn-keep low end to [] e = tt
drawn-keep low end to (d ∷ ds) e =
    let both = or_parts (list_any (loses_tileset low end to) (values_of d)) (list_any (λ k. list_any (loses_tileset low end to) (values_of k)) ds) e in
    (values-keep low end to (values_of d) both.0, drawn-keep low end to ds both.1)

lies-apart : (first number : ℕ) (t : Tileset) → is_in_way first number t ≡ false → LiesApart first number t
lies-apart first number t e differs = by_side (nat_le first t.first_id) refl
  where
    by_side : (q : Bool) → nat_le first t.first_id ≡ q → ((t.first_id < first) × (t.first_id < number)) ⊎ ((first < t.first_id) × (number < t.first_id))
    by_side true h = inr (grind (arith, nat_tests, differs, e, h))
    by_side false h = inl (grind (arith, nat_tests, differs, e, h))

all-apart : (first number : ℕ) (ts : List Tileset) → list_any (is_in_way first number) ts ≡ false → Each (LiesApart first number) ts
all-apart first number [] e = tt
all-apart first number (t ∷ ts) e =
    let both = or_parts (is_in_way first number t) (list_any (is_in_way first number) ts) e in
    (lies-apart first number t both.0, all-apart first number ts both.1)

-- ---- the tileset that is there
found-at : (m : MapParts) (first at : ℕ) → tileset_place m first ≡ Some at → IsWellFormed m
    → IsSome (tileset_with m first) × (first ≤ MAX_FIRST_ID)
found-at m first at e h =
    let none : Tileset = external_tileset 0 [] in
    let found = position-Some (has_first_id first) m.tilesets at none e in
    let there = slice_get-Some m.tilesets at found.0 in
    let with : tileset_with m first ≡ Some there.0 = find-at_position (has_first_id first) m.tilesets at there.0 e there.1 in
    let is = tileset_with-IsTileset m first there.0 with h in
    let same = get_or_from_slice_get m.tilesets at there.0 none there.1 in
    (rw with refl, grind (arith, nat_tests, is.high, found.1, same))

pub found : (m : MapParts) (first : ℕ) → IsSome (tileset_place m first) → IsWellFormed m → IsSome (tileset_with m first) × (first ≤ MAX_FIRST_ID)
found m first some h = by_place (tileset_place m first) refl some
  where
    by_place : (o : Option ℕ) → tileset_place m first ≡ o → IsSome o → IsSome (tileset_with m first) × (first ≤ MAX_FIRST_ID)
    by_place None e s = cc
    by_place (Some at) e s = found-at m first at e h

-- a number is below the end of what is above it, and so is the new one, as no tileset stands between
pub own-below : (first end : ℕ) (ts : List Tileset) → first < end → first < end_of first end ts
own-below first end [] h = h
own-below first end (t ∷ ts) h = let next : first < nearer first end t = grind (arith, nat_tests, h) in own-below first (nearer first end t) ts next

pub number-below : (first number : ℕ) (m : MapParts) → IsSome (tileset_with m first) → list_any (is_in_way first number) m.tilesets ≡ false
    → number ≤ MAX_FIRST_ID → IsWellFormed m → number < end_in m first
number-below first number m there way high h =
    let are = apart first number m.tilesets there (all-apart first number m.tilesets way) h.tilesets.distinct in
    end-above first number base_limit m.tilesets are (omega (arith, high))

pub number_made : (d : DocumentParts) (first number : ℕ) → IsSome (tileset_place d.map first) → 1 ≤ number → number ≤ MAX_FIRST_ID
    → list_any (is_in_way first number) d.map.tilesets ≡ false → has_losses d.map first number ≡ false → IsWellFormed d.map
    → Makes number_tileset_names d (after_number_tileset d first number)
    (number_tileset_change (record { from = first; to = number; first_id = number }))
number_made d first number some low high way losses h = by_place (tileset_place d.map first) refl some
  where
    may : MayBeRenumbered first number d.map
    may = record {
      there = (found d.map first some h).0;
      low = low;
      high = high;
      apart = all-apart first number d.map.tilesets way;
      values = drawn-keep first (end_in d.map first) number (all_drawn d.map.layers) losses;
    }

    by_place : (o : Option ℕ) → tileset_place d.map first ≡ o → IsSome o
        → Makes number_tileset_names d (after_number_tileset d first number)
        (number_tileset_change (record { from = first; to = number; first_id = number }))
    by_place None e s = cc
    by_place (Some at) e s = record {
      fits = (λ t. cc, record { fits = (may, h); settled = refl });
      document = rw (e, le-leb 1 number low, le-leb number MAX_FIRST_ID high, way, losses) refl;
      names = refl;
    }
