-- The cells of one layer stand in its chunks.
use Rattle.std.proofs.Common.{◌≡◌, ℕ, ◌+◌, ◌-◌, ◌*◌, ◌<◌, ◌≤◌, ◌⊎◌, inl, inr, List, ◌∷◌, ◌++◌, Bool, true, false, Option, get_or, map, replicate}
use Rattle.std.proofs.Common.{refl, sym, ap, ◌∙◌, subst, arith}
use Rattle.std.specs.Prelude.{ℤ, pos, ◌+ℤ◌, ◌-ℤ◌, ◌<ℤ◌, int_lt, unsigned_abs, nat_lt, nat_le, ◌&&◌, if◌then◌else◌}
use Rattle.std.proofs.lemmas.Int.{ints}
use Rattle.std.proofs.lemmas.Bool.Decides.{nat_tests}
use Rattle.serde_json.specs.Data.{Data, Items, no_items, item, Members}
use Rattle.serde_json.specs.View.{items_of}
use Rattle.infinite_maps.specs.declared.rectangle.Rectangle.{Rectangle}
use Rattle.infinite_maps.specs.declared.plane.Plane.{Plane}
use Rattle.infinite_maps.specs.Coverage.{are_apart}
use Rattle.infinite_maps.specs.Rectangles.{area}
use Rattle.infinite_maps.specs.Wide.{size, wide, before_x, before_y, cell_on, widened}
use Rattle.infinite_maps.specs.Notes.{noted, noted_all, plane_of}
use Rattle.infinite_maps.specs.Layers.{chunk, chunk_items, if_apart, old_rectangles, new_rectangles}
use Rattle.infinite_maps.specs.Placed.{times}
use Rattle.infinite_maps.specs.Laws as laws
use Rattle.infinite_maps.specs.Laws.{CellsStand, cell_in_map, cell_in_chunks, chunks_at, chunks_of, AreSpelled}
use Rattle.infinite_maps.proofs.Places.{answered}
use Rattle.infinite_maps.proofs.Covers.{AllWithin}
use Rattle.infinite_maps.proofs.Together.{Stands, all_stand}
use Rattle.infinite_maps.proofs.ChunkCells.{AreWords}
use Rattle.infinite_maps.proofs.ChunkLists.{OnMap, counted, cell_if, cell_found, none_counted, no_cell_found}
use Rattle.infinite_maps.proofs.Widened.{IsUsual, IsAround, around_map, widened_cell, widened_words, wide_cell_stands, no_cell_before, no_cell_behind}

pub usual : (ms : Members) (note : Data) → laws.IsNear (plane_of ms note) → IsUsual (plane_of ms note)
usual ms note near = record {
  near_x = near.0;
  near_y = near.1;
  columns = omega arith;
  rows = omega arith;
  across = omega arith;
  down = omega arith;
  lost_x = omega arith;
  lost_y = omega arith;
}

-- the old rectangles lie on the wide map, and are apart
noted_within : (p : Plane) (columns rows : ℕ) (ds : Items) → before_x p + p.columns ≤ columns → before_y p + p.rows ≤ rows
    → AllWithin columns rows (noted_all p ds)
noted_within p columns rows no_items right bottom = tt
noted_within p columns rows (item d ds) right bottom =
    let rest = noted_within p columns rows ds right bottom in
    let Within = λ (b : Bool). AllWithin columns rows (if b then noted p d ∷ noted_all p ds else noted_all p ds) in
    let by : (b : Bool) → Within b = λ b. elim b as Within [
      | true ↦ (omega (arith, right), omega (arith, bottom), rest)
      | false ↦ rest
    ] in
    by (nat_lt 0 (area (noted p d)))

apart_or_none : (p : Plane) (rs : List Rectangle) → AllWithin p.columns p.rows rs
    → (are_apart p.columns (replicate (size p) false) (if_apart p rs) ≡ true) × AllWithin p.columns p.rows (if_apart p rs)
apart_or_none p rs within = elim (answered (are_apart p.columns (replicate (size p) false) rs)) [
  | inl e ↦ rw e (e, within)
  | inr e ↦ rw e (refl, tt)
]

-- the corner of the map, or a place counted from it
from_corner : (z x : ℤ) → (x <ℤ z) ⊎ (z +ℤ pos (unsigned_abs (x -ℤ z)) ≡ x)
from_corner z x = elim (answered (int_lt x z)) [
  | inl e ↦ inl (omega (arith, ints))
  | inr e ↦ inr (omega (arith, ints))
]

-- chunks of rectangles have the layer's cells
stand_at : (p q : Plane) (dx dy : ℕ) (text : Bool) (cells wide_cells : List ℕ) (rs : List Rectangle) (i j : ℕ) → IsAround p q dx dy → OnMap q rs
    → (text ≡ true → AreWords wide_cells)
    → Stands q wide_cells rs i j
    → (i < q.columns → j < q.rows → get_or wide_cells (j * q.columns + i) 0 ≡ (if nat_le dx i && nat_le dy j then cell_on p cells (i - dx) (j - dy) else 0))
    → cell_in_chunks (q.x +ℤ pos i) (q.y +ℤ pos j) (items_of (map (chunk q text wide_cells) rs)) ≡ cell_in_map p cells (q.x +ℤ pos i) (q.y +ℤ pos j)
stand_at p q dx dy text cells wide_cells rs i j h on words s same =
    let found = cell_found q text wide_cells rs i j h.small on words in
    let stood = wide_cell_stands p q dx dy cells i j h in
    let at = λ (b : Bool). cell_if b wide_cells (j * q.columns + i) in
    found ∙ elim (answered (nat_lt 0 (times i j rs))) [
      | inl e ↦
          let some : 0 < times i j rs = grind (arith, nat_tests) in
          let inside = s.inside some in
          ap at e ∙ same inside.0 inside.1 ∙ sym stood
      | inr e ↦ ap at e ∙ (elim (answered (nat_lt i q.columns)) [
        | inr f ↦ let out : q.columns ≤ i = grind (arith, nat_tests) in sym (stood ∙ no_cell_behind p q dx dy cells i j h (inl out))
        | inl f ↦ elim (answered (nat_lt j q.rows)) [
          | inr g ↦ let out : q.rows ≤ j = grind (arith, nat_tests) in sym (stood ∙ no_cell_behind p q dx dy cells i j h (inr out))
          | inl g ↦
              let x : i < q.columns = grind (arith, nat_tests) in
              let y : j < q.rows = grind (arith, nat_tests) in
              let none : times i j rs ≡ 0 = grind (arith, nat_tests) in
              let zero' : get_or wide_cells (j * q.columns + i) 0 ≡ 0 = elim (answered (nat_lt 0 (get_or wide_cells (j * q.columns + i) 0))) [
                | inl k ↦
                    let more : 0 < get_or wide_cells (j * q.columns + i) 0 = grind (arith, nat_tests) in
                    let some = s.all x y more in absurd (omega (arith, some, none))
                | inr k ↦ grind (arith, nat_tests)
              ] in
              sym zero' ∙ same x y ∙ sym stood
        ]
      ])
    ]

pub chunks_stand : (p : Plane) (text : Bool) (cells : List ℕ) (note : Option Data) → IsUsual p → (text ≡ true → AreWords cells)
    → CellsStand p cells (items_of (map (chunk (wide p) text (widened p cells))
    (old_rectangles p note ++ new_rectangles (wide p) (widened p cells) (old_rectangles p note))))
chunks_stand p text cells note u words =
    let q = wide p in
    let wide_cells = widened p cells in
    let h = around_map p u in
    let olds = old_rectangles p note in
    let rs = olds ++ new_rectangles q wide_cells olds in
    let apart = apart_or_none q (noted_all p (chunk_items note)) (noted_within p q.columns q.rows (chunk_items note) h.columns h.rows) in
    let s : (i j : ℕ) → Stands q wide_cells rs i j = λ i j. all_stand q wide_cells olds i j h.across h.down apart.0 apart.1 in
    let on : OnMap q rs = λ i j some. (s i j).inside some in
    let wide_words : text ≡ true → AreWords wide_cells = λ e. widened_words p cells (words e) in
    let Same = λ (x y : ℤ). cell_in_chunks x y (items_of (map (chunk q text wide_cells) rs)) ≡ cell_in_map p cells x y in
    let Once = λ (x y : ℤ). chunks_at x y (items_of (map (chunk q text wide_cells) rs)) ≤ 1 in
    let out : (x y : ℤ) → (x <ℤ q.x) ⊎ (y <ℤ q.y) → Same x y × Once x y = λ x y e.
    let none = none_counted q text wide_cells rs x y h.small on e in
    (no_cell_found q text wide_cells rs x y h.small on e ∙ sym (no_cell_before p q (before_x p) (before_y p) cells x y h e), omega (arith, none)) in
    let inside : (i j : ℕ) → Same (q.x +ℤ pos i) (q.y +ℤ pos j) × Once (q.x +ℤ pos i) (q.y +ℤ pos j) = λ i j.
    let count = counted q text wide_cells rs i j h.small on in
    let once = (s i j).once in
    (stand_at p q (before_x p) (before_y p) text cells wide_cells rs i j h on wide_words (s i j) (widened_cell p cells i j), omega (arith, count, once)) in
    let both : (x y : ℤ) → Same x y × Once x y = λ x y. elim (from_corner q.x x) [
      | inl e ↦ out x y (inl e)
      | inr e ↦ elim (from_corner q.y y) [
        | inl f ↦ out x y (inr f)
        | inr f ↦
            let k = q.x +ℤ pos (unsigned_abs (x -ℤ q.x)) in
            subst (λ (x : ℤ). Same x y × Once x y) e (subst (λ (y : ℤ). Same k y × Once k y) f
            (inside (unsigned_abs (x -ℤ q.x)) (unsigned_abs (y -ℤ q.y))))
      ]
    ] in
    record { cell = λ x y. (both x y).0; apart = λ x y. (both x y).1 }
