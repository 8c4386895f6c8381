-- The law of joined cells: as many steps as a layer has cells reach what a list of cells joins.
use Rattle.std.proofs.Common.{◌≡◌, ℕ, ◌+◌, ◌*◌, ◌<◌, ◌≤◌, List, length, get_or, Bool, true, false, ◌&&◌, nat_lt, mul_comm, refl, ◌∙◌, arith}
use Rattle.std.specs.List.{slice_get}
use Rattle.std.specs.FinSet as set
use Rattle.std.proofs.lemmas.Bool.Decides.{nat_tests}
use Rattle.std.proofs.lemmas.Option.{slice_get_past}
use Rattle.region.specs.Cells.{cell_cmp}
use Rattle.map_model.specs.Lookups.{tiles_in}
use Rattle.map_model.proofs.Keeps.{length-tiles_in}
use Rattle.edits.specs.Covering.{lets_change}
use Rattle.edits.specs.Filling.{free_from, ReachedIsJoined}
use Rattle.edits.specs.Joining.{is_free_cell, is_value}
use Rattle.edits.proofs.Joined.{is_reached-AreJoined}

-- a free cell lies in the layer
free-within : (w h : ℕ) (tiles : List ℕ) (selection : set.FinSet cell_cmp) (value : ℕ) → length tiles ≡ h * w → (q : ℕ × ℕ)
    → is_free_cell w tiles selection value q ≡ true → (q.0 < w) × (q.1 < h)
free-within w h tiles selection value size q free = by_tests (nat_lt q.0 w) (nat_lt (q.1 * w + q.0) (length tiles)) refl refl free
  where
    row_of : q.1 * w + q.0 < h * w → q.1 < h
    row_of l = grind arith

    by_tests : (a b : Bool) → nat_lt q.0 w ≡ a → nat_lt (q.1 * w + q.0) (length tiles) ≡ b
        → (a && (is_value (slice_get tiles (q.1 * w + q.0)) value && lets_change selection q)) ≡ true → (q.0 < w) × (q.1 < h)
    by_tests true true s t e =
        let column : q.0 < w = grind (arith, nat_tests) in
        let number : q.1 * w + q.0 < length tiles = grind (arith, nat_tests) in
        (column, row_of (omega (arith, size)))
    by_tests true false s t e =
        let past : length tiles ≤ q.1 * w + q.0 = grind (arith, nat_tests) in
        let none = slice_get_past tiles (q.1 * w + q.0) past in
        cc
    by_tests false b s t e = cc

pub reached_is_joined : ReachedIsJoined
reached_is_joined m id selection start q well_formed has =
    let tiles = tiles_in m id in
    let size : length tiles ≡ m.height * m.width = length-tiles_in m id has well_formed ∙ mul_comm m.width m.height in
    rw size
    (is_reached-AreJoined (free_from m.width tiles selection start) start m.width m.height
    (free-within m.width m.height tiles selection (get_or tiles (start.1 * m.width + start.0) 0) size) q)
