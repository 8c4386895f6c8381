-- The cells and places of a list of chunks.
use Rattle.std.proofs.Common.{◌≡◌, ℕ, ◌+◌, ◌*◌, ◌^◌, ◌<◌, ◌⊎◌, inl, inr, List, [], ◌∷◌, Bool, true, false, get_or, map, refl, sym, ap, ◌∙◌, arith}
use Rattle.std.specs.Prelude.{ℤ, pos, ◌+ℤ◌, ◌<ℤ◌, nat_lt, if◌then◌else◌}
use Rattle.std.proofs.lemmas.Bool.Decides.{nat_tests}
use Rattle.serde_json.specs.View.{items_of}
use Rattle.infinite_maps.specs.declared.rectangle.Rectangle.{Rectangle}
use Rattle.infinite_maps.specs.declared.plane.Plane.{Plane}
use Rattle.infinite_maps.specs.Rectangles.{width, height}
use Rattle.infinite_maps.specs.Layers.{chunk}
use Rattle.infinite_maps.specs.Placed.{has, times}
use Rattle.infinite_maps.specs.Laws.{covers, cell_in_chunk, cell_in_chunks, chunks_at}
use Rattle.infinite_maps.proofs.Places.{facts, answered, not_both, of_facts, no_facts}
use Rattle.infinite_maps.proofs.ChunkCells.{AreWords}
use Rattle.infinite_maps.proofs.ChunkPlaces.{IsNear, chunk_covers, chunk_no_cover, chunk_empty, chunk_cell}

-- a plane whose chunks have no place past 64 bits
pub record IsSmall (p : Plane) : Type 0 where
  pub near_x : IsNear p.x
  pub near_y : IsNear p.y
  pub columns : p.columns < 2 ^ 40
  pub rows : p.rows < 2 ^ 40

-- all places of rectangles lie on the map
abbrev pub OnMap : Plane → List Rectangle → Type 0
OnMap p rs = (i j : ℕ) → 0 < times i j rs → (i < p.columns) × (j < p.rows)

on_map_rest : (p : Plane) (r : Rectangle) (rs : List Rectangle) → OnMap p (r ∷ rs) → OnMap p rs
on_map_rest p r rs h i j some = h i j (omega (arith, some))

-- a rectangle has no cell, or begins on the map
begins : (p : Plane) (r : Rectangle) (rs : List Rectangle) → IsSmall p → OnMap p (r ∷ rs)
    → ((width r ≡ 0) ⊎ (height r ≡ 0)) ⊎ ((r.left < 2 ^ 40) × (r.top < 2 ^ 40))
begins p r rs small h = elim (answered (nat_lt 0 (width r))) [
  | inr e ↦ inl (inl (grind (arith, nat_tests)))
  | inl e ↦ elim (answered (nat_lt 0 (height r))) [
    | inr f ↦ inl (inr (grind (arith, nat_tests)))
    | inl f ↦
        let wide : 0 < width r = grind (arith, nat_tests) in
        let high : 0 < height r = grind (arith, nat_tests) in
        let here : has r.left r.top r ≡ true = of_facts r.left r.top r (record {
          from_left = omega arith;
          to_right = omega (arith, wide);
          from_top = omega arith;
          to_bottom = omega (arith, high);
        }) in
        let some : 0 < times r.left r.top (r ∷ rs) = omega (arith, ap (λ (b : Bool). (if b then 1 else 0) + times r.left r.top rs) here) in
        let on = h r.left r.top some in
        let right : r.left < p.columns = on.0 in
        let below : r.top < p.rows = on.1 in
        inr (omega (arith, right, small.columns), omega (arith, below, small.rows))
  ]
]

nothing_there : (r : Rectangle) (i j : ℕ) → (width r ≡ 0) ⊎ (height r ≡ 0) → has i j r ≡ false
nothing_there r i j (inl e) = no_facts i j r (λ h. omega (arith, e, h.from_left, h.to_right))
nothing_there r i j (inr e) = no_facts i j r (λ h. omega (arith, e, h.from_top, h.to_bottom))

covers_as : (p : Plane) (text : Bool) (cells : List ℕ) (r : Rectangle) (rs : List Rectangle) (i j : ℕ) → IsSmall p → OnMap p (r ∷ rs)
    → covers (p.x +ℤ pos i) (p.y +ℤ pos j) (chunk p text cells r) ≡ has i j r
covers_as p text cells r rs i j small h = elim (begins p r rs small h) [
  | inl none ↦ chunk_empty p text cells r (p.x +ℤ pos i) (p.y +ℤ pos j) none ∙ sym (nothing_there r i j none)
  | inr at ↦ chunk_covers p text cells r i j small.near_x small.near_y at.0 at.1
]

pub counted : (p : Plane) (text : Bool) (cells : List ℕ) (rs : List Rectangle) (i j : ℕ) → IsSmall p → OnMap p rs
    → chunks_at (p.x +ℤ pos i) (p.y +ℤ pos j) (items_of (map (chunk p text cells) rs)) ≡ times i j rs
counted p text cells [] i j small h = refl
counted p text cells (r ∷ rs) i j small h =
    rw (covers_as p text cells r rs i j small h, counted p text cells rs i j small (on_map_rest p r rs h)) refl

-- the cell of the layer, or 0 where no rectangle is
abbrev pub cell_if : Bool → List ℕ → ℕ → ℕ
cell_if some cells n = if some then get_or cells n 0 else 0

pub cell_found : (p : Plane) (text : Bool) (cells : List ℕ) (rs : List Rectangle) (i j : ℕ) → IsSmall p → OnMap p rs → (text ≡ true → AreWords cells)
    → cell_in_chunks (p.x +ℤ pos i) (p.y +ℤ pos j) (items_of (map (chunk p text cells) rs)) ≡ cell_if (nat_lt 0 (times i j rs)) cells (j * p.columns + i)
cell_found p text cells [] i j small h words = refl
cell_found p text cells (r ∷ rs) i j small h words =
    let x = p.x +ℤ pos i in
    let y = p.y +ℤ pos j in
    let rest = cell_in_chunks x y (items_of (map (chunk p text cells) rs)) in
    let by = λ (b : Bool). if b then cell_in_chunk x y (chunk p text cells r) else rest in
    let same = ap by (covers_as p text cells r rs i j small h) in
    elim (answered (has i j r)) [
      | inr e ↦
          let count : times i j (r ∷ rs) ≡ times i j rs = omega (arith, ap (λ (b : Bool). (if b then 1 else 0) + times i j rs) e) in
          same ∙ ap by e ∙ cell_found p text cells rs i j small (on_map_rest p r rs h) words
          ∙ ap (λ (n : ℕ). cell_if (nat_lt 0 n) cells (j * p.columns + i)) (sym count)
      | inl e ↦
          let f = facts i j r e in
          let count : nat_lt 0 (times i j (r ∷ rs)) ≡ true =
          let some : 0 < times i j (r ∷ rs) = omega (arith, ap (λ (b : Bool). (if b then 1 else 0) + times i j rs) e) in grind (arith, nat_tests) in
          let here : cell_in_chunk x y (chunk p text cells r) ≡ get_or cells (j * p.columns + i) 0 = elim (begins p r rs small h) [
            | inl none ↦ absurd (not_both _ e (nothing_there r i j none))
            | inr at ↦ chunk_cell p text cells r i j small.near_x small.near_y at.0 at.1 words f
          ] in
          same ∙ ap by e ∙ here ∙ ap (λ (b : Bool). cell_if b cells (j * p.columns + i)) (sym count)
    ]

-- left of the corner of the map, and above it, there is no chunk
none_covers : (p : Plane) (text : Bool) (cells : List ℕ) (r : Rectangle) (rs : List Rectangle) (x y : ℤ) → IsSmall p → OnMap p (r ∷ rs)
    → (x <ℤ p.x) ⊎ (y <ℤ p.y) → covers x y (chunk p text cells r) ≡ false
none_covers p text cells r rs x y small h out = elim (begins p r rs small h) [
  | inl none ↦ chunk_empty p text cells r x y none
  | inr at ↦ chunk_no_cover p text cells r x y small.near_x small.near_y at.0 at.1 out
]

pub none_counted : (p : Plane) (text : Bool) (cells : List ℕ) (rs : List Rectangle) (x y : ℤ) → IsSmall p → OnMap p rs
    → (x <ℤ p.x) ⊎ (y <ℤ p.y) → chunks_at x y (items_of (map (chunk p text cells) rs)) ≡ 0
none_counted p text cells [] x y small h out = refl
none_counted p text cells (r ∷ rs) x y small h out =
    rw (none_covers p text cells r rs x y small h out, none_counted p text cells rs x y small (on_map_rest p r rs h) out) refl

pub no_cell_found : (p : Plane) (text : Bool) (cells : List ℕ) (rs : List Rectangle) (x y : ℤ) → IsSmall p → OnMap p rs
    → (x <ℤ p.x) ⊎ (y <ℤ p.y) → cell_in_chunks x y (items_of (map (chunk p text cells) rs)) ≡ 0
no_cell_found p text cells [] x y small h out = refl
no_cell_found p text cells (r ∷ rs) x y small h out =
    rw (none_covers p text cells r rs x y small h out) (no_cell_found p text cells rs x y small (on_map_rest p r rs h) out)
