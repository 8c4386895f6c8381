-- The wide map has the cells of the map, at their places.
use Rattle.std.proofs.Common.{◌≡◌, ℕ, ◌+◌, ◌-◌, ◌*◌, ◌/◌, ◌%◌, ◌^◌, ◌<◌, ◌≤◌, ◌⊎◌, inl, inr, max, List, Bool, true, false, get_or, map, refl, sym, ap}
use Rattle.std.proofs.Common.{◌∙◌, arith}
use Rattle.std.specs.Prelude.{ℤ, pos, ◌+ℤ◌, ◌-ℤ◌, ◌<ℤ◌, int_le, unsigned_abs, FitsSigned, nat_lt, nat_le, ◌&&◌, if◌then◌else◌}
use Rattle.std.specs.Int.{w64, int_wrapping_sub}
use Rattle.std.specs.List.{range_with_len}
use Rattle.std.proofs.lemmas.Int.{ints, wrapping_sub_is, int_wrap_fits, fits_signed_from_abs}
use Rattle.std.proofs.lemmas.List.{get_or_past}
use Rattle.std.proofs.lemmas.List.FromFn.{get_or-map-range_with_len, length-map-range_with_len}
use Rattle.std.proofs.lemmas.Nat.{div-add-mod', mod_below, div-mul-add, mod-mul-add, mul-add-lt}
use Rattle.std.proofs.lemmas.Bool.Decides.{nat_tests}
use Rattle.infinite_maps.specs.declared.plane.Plane.{Plane}
use Rattle.infinite_maps.specs.Wide.{size, whole_side, has_room, wide_by, wide, before_x, before_y, cell_on, wide_cell, widened}
use Rattle.infinite_maps.specs.Laws.{is_among, behind, cell_in_map}
use Rattle.infinite_maps.proofs.Places.{both_parts, answered}
use Rattle.infinite_maps.proofs.ChunkCells.{AreWords}
use Rattle.infinite_maps.proofs.ChunkPlaces.{IsNear, among, behind_by, both_no_left, both_no_right}
use Rattle.infinite_maps.proofs.ChunkLists.{IsSmall}

-- a plane as a note of `made_finite` tells it
pub record IsUsual (p : Plane) : Type 0 where
  pub near_x : unsigned_abs p.x < 2 ^ 39
  pub near_y : unsigned_abs p.y < 2 ^ 39
  pub columns : p.columns ≤ 4096
  pub rows : p.rows ≤ 4096
  pub across : 0 < p.across
  pub down : 0 < p.down
  pub lost_x : p.lost_x ≤ 4096
  pub lost_y : p.lost_y ≤ 4096

-- how a wider map lies about the map
pub record IsAround (p q : Plane) (dx dy : ℕ) : Type 0 where
  pub x : q.x +ℤ pos dx ≡ p.x
  pub y : q.y +ℤ pos dy ≡ p.y
  pub columns : dx + p.columns ≤ q.columns
  pub rows : dy + p.rows ≤ q.rows
  pub small : IsSmall q
  pub across : 0 < q.across
  pub down : 0 < q.down

pub whole_side_enough : (side lost limit : ℕ) → 0 < side → limit + lost ≤ whole_side side lost limit
whole_side_enough side lost limit h =
    let n = limit + lost + (side - 1) in
    let m : max side 1 ≡ side = omega arith in
    let e : n / max side 1 * max side 1 ≡ n / side * side = rw m refl in
    let a = div-add-mod' n side in
    let b = mod_below n side h in
    omega (arith, e, a, b)

corner : (z : ℤ) (n : ℕ) → unsigned_abs z < 2 ^ 39 → n ≤ 4096 → (int_wrapping_sub w64 z (pos n) +ℤ pos n ≡ z) × IsNear (int_wrapping_sub w64 z (pos n))
corner z n near small =
    let a : FitsSigned w64 z = fits_signed_from_abs w64 z (omega (arith, ints)) in
    let b : FitsSigned w64 (pos n) = fits_signed_from_abs w64 (pos n) (omega (arith, ints)) in
    let c : FitsSigned w64 (z -ℤ pos n) = fits_signed_from_abs w64 (z -ℤ pos n) (omega (arith, ints)) in
    let e : int_wrapping_sub w64 z (pos n) ≡ z -ℤ pos n = wrapping_sub_is w64 z (pos n) a b ∙ int_wrap_fits w64 (z -ℤ pos n) c in
    (omega (arith, ints, e), omega (arith, ints, e))

room_parts : (p : Plane) (w h : ℕ) → has_room p w h ≡ true → (w < 4096) × (h < 4096)
room_parts p w h e =
    let a = both_parts (nat_lt w 4096 && nat_lt h 4096) _ e in
    let b = both_parts (nat_lt w 4096) (nat_lt h 4096) a.0 in
    let c : nat_lt w 4096 ≡ true = b.0 in
    let d : nat_lt h 4096 ≡ true = b.1 in
    (grind (arith, nat_tests), grind (arith, nat_tests))

less_none : (n : ℕ) → n - 0 ≡ n
less_none n = omega arith

around_by : (p : Plane) (w h : ℕ) → IsUsual p → p.columns + p.lost_x ≤ w → p.rows + p.lost_y ≤ h
    → IsAround p (wide_by p w h) (p.lost_x - (wide_by p w h).lost_x) (p.lost_y - (wide_by p w h).lost_y)
around_by p w h u right bottom = elim (answered (has_room p w h)) [
  | inl e ↦
      let room = room_parts p w h e in
      let short : w < 4096 = room.0 in
      let low : h < 4096 = room.1 in
      let x = corner p.x p.lost_x u.near_x u.lost_x in
      let y = corner p.y p.lost_y u.near_y u.lost_y in
      let same_x : int_wrapping_sub w64 p.x (pos p.lost_x) +ℤ pos (p.lost_x - 0) ≡ p.x =
      ap (λ (n : ℕ). int_wrapping_sub w64 p.x (pos p.lost_x) +ℤ pos n) (less_none p.lost_x) ∙ x.0 in
      let same_y : int_wrapping_sub w64 p.y (pos p.lost_y) +ℤ pos (p.lost_y - 0) ≡ p.y =
      ap (λ (n : ℕ). int_wrapping_sub w64 p.y (pos p.lost_y) +ℤ pos n) (less_none p.lost_y) ∙ y.0 in
      rw e (record {
        x = same_x;
        y = same_y;
        columns = omega (arith, right);
        rows = omega (arith, bottom);
        small = record { near_x = x.1; near_y = y.1; columns = omega (arith, short); rows = omega (arith, low) };
        across = u.across;
        down = u.down;
      })
  | inr e ↦ rw e (record {
    x = omega (arith, ints);
    y = omega (arith, ints);
    columns = omega arith;
    rows = omega arith;
    small = record { near_x = omega (arith, u.near_x); near_y = omega (arith, u.near_y); columns = omega (arith, u.columns); rows = omega (arith, u.rows) };
    across = u.across;
    down = u.down;
  })
]

pub around_map : (p : Plane) → IsUsual p → IsAround p (wide p) (before_x p) (before_y p)
unfolding wide
around_map p u = around_by p (whole_side p.across p.lost_x p.columns) (whole_side p.down p.lost_y p.rows) u
    (whole_side_enough p.across p.lost_x p.columns u.across) (whole_side_enough p.down p.lost_y p.rows u.down)

-- the cells of a layer of the wide map are those of the layer
pub widened_cell : (p : Plane) (cells : List ℕ) (i j : ℕ) → i < (wide p).columns → j < (wide p).rows
    → get_or (widened p cells) (j * (wide p).columns + i) 0 ≡ wide_cell p cells i j
unfolding widened
widened_cell p cells i j x y =
    let c = (wide p).columns in
    let k = j * c + i in
    let m : max c 1 ≡ c = omega (arith, x) in
    let f = λ (k : ℕ). wide_cell p cells (k % max c 1) (k / max c 1) in
    let low : k < size (wide p) = omega (arith, mul-add-lt j c i (wide p).rows y x) in
    let column : k % max c 1 ≡ i = ap (λ (n : ℕ). k % n) m ∙ mod-mul-add j c i x in
    let row : k / max c 1 ≡ j = ap (λ (n : ℕ). k / n) m ∙ div-mul-add j c i x in
    get_or-map-range_with_len f 0 (size (wide p)) k k 0 low (omega arith)
    ∙ (ap (λ (n : ℕ). wide_cell p cells n (k / max c 1)) column ∙ ap (λ (n : ℕ). wide_cell p cells i n) row)

cell_words : (p : Plane) (cells : List ℕ) (i j : ℕ) → AreWords cells → wide_cell p cells i j < 2 ^ 32
cell_words p cells i j h =
    let either : (b : Bool) (n : ℕ) → n < 2 ^ 32 → (if b then n else 0) < 2 ^ 32 = λ b n. elim b as (λ (b : Bool). n < 2 ^ 32 → (if b then n else 0) < 2 ^ 32) [
      | true ↦ λ h. h
      | false ↦ λ h. omega arith
    ] in
    either _ _ (either _ _ (h _))

pub widened_words : (p : Plane) (cells : List ℕ) → AreWords cells → AreWords (widened p cells)
unfolding widened
widened_words p cells words k =
    let c = max (wide p).columns 1 in
    let f = λ (k : ℕ). wide_cell p cells (k % c) (k / c) in
    let n = size (wide p) in
    elim (answered (nat_lt k n)) [
      | inl e ↦
          let lt : k < n = grind (arith, nat_tests) in
          let here = get_or-map-range_with_len f 0 n k k 0 lt (omega arith) in
          let small = cell_words p cells (k % c) (k / c) words in
          omega (arith, here, small)
      | inr e ↦
          let past : n ≤ k = grind (arith, nat_tests) in
          let long = length-map-range_with_len f 0 n in
          let none = get_or_past (map f (range_with_len 0 n)) k 0 (omega (arith, long, past)) in
          omega (arith, none)
    ]

-- and stand where they stood
same_cell : (a b c d b' d' : Bool) (m n : ℕ) → (a ≡ true → b ≡ b') → (c ≡ true → d ≡ d') → (a ≡ true → c ≡ true → m ≡ n)
    → (if (a && b) && (c && d) then m else 0) ≡ (if a && c then (if b' && d' then n else 0) else 0)
same_cell false b c d b' d' m n f g h = refl
same_cell true false false d b' d' m n f g h = refl
same_cell true true false d b' d' m n f g h = refl
same_cell true b true d b' d' m n f g h = rw (f refl, g refl, h refl refl) refl

sides : (a i n : ℕ) → nat_le a i ≡ true → nat_lt i (a + n) ≡ nat_lt (i - a) n
sides a i n e =
    let le : a ≤ i = grind (arith, nat_tests) in
    elim (answered (nat_lt (i - a) n)) [
      | inl f ↦
          let lt : i - a < n = grind (arith, nat_tests) in
          let more : i < a + n = omega (arith, le, lt) in
          let yes : nat_lt i (a + n) ≡ true = grind (arith, nat_tests) in
          yes ∙ sym f
      | inr f ↦
          let ge : n ≤ i - a = grind (arith, nat_tests) in
          let no_more : a + n ≤ i = omega (arith, le, ge) in
          let none : nat_lt i (a + n) ≡ false = grind (arith, nat_tests) in
          none ∙ sym f
    ]

behind_corner : (z w : ℤ) (a i : ℕ) → w +ℤ pos a ≡ z → nat_le a i ≡ true → behind z (w +ℤ pos i) ≡ i - a
behind_corner z w a i e h =
    let le : a ≤ i = grind (arith, nat_tests) in
    ap (λ (v : ℤ). behind v (w +ℤ pos i)) (sym e) ∙ behind_by w a i le

among_corner : (z w : ℤ) (a n i : ℕ) → w +ℤ pos a ≡ z → is_among z n (w +ℤ pos i) ≡ (nat_le a i && nat_lt i (a + n))
among_corner z w a n i e =
    let c : (a + n) - a ≡ n = omega arith in
    ap (λ (v : ℤ). is_among v n (w +ℤ pos i)) (sym e) ∙ ap (λ (m : ℕ). is_among (w +ℤ pos a) m (w +ℤ pos i)) (sym c) ∙ among w a (a + n) i

pub wide_cell_stands : (p q : Plane) (dx dy : ℕ) (cells : List ℕ) (i j : ℕ) → IsAround p q dx dy
    → cell_in_map p cells (q.x +ℤ pos i) (q.y +ℤ pos j)
    ≡ (if nat_le dx i && nat_le dy j then cell_on p cells (i - dx) (j - dy) else 0)
wide_cell_stands p q dx dy cells i j h =
    rw (among_corner p.x q.x dx p.columns i h.x, among_corner p.y q.y dy p.rows j h.y)
    (same_cell (nat_le dx i) (nat_lt i (dx + p.columns)) (nat_le dy j) (nat_lt j (dy + p.rows)) (nat_lt (i - dx) p.columns) (nat_lt (j - dy) p.rows) _ _
    (sides dx i p.columns) (sides dy j p.rows)
    (λ e f. rw (behind_corner p.x q.x dx i h.x e, behind_corner p.y q.y dy j h.y f) refl))

-- outside of the wide map there is no cell
pub no_cell_before : (p q : Plane) (dx dy : ℕ) (cells : List ℕ) (x y : ℤ) → IsAround p q dx dy → (x <ℤ q.x) ⊎ (y <ℤ q.y) → cell_in_map p cells x y ≡ 0
no_cell_before p q dx dy cells x y h (inl e) =
    let none : int_le p.x x ≡ false = elim (answered (int_le p.x x)) [ inl f ↦ absurd (omega (arith, ints, h.x)) | inr f ↦ f ] in
    rw none refl
no_cell_before p q dx dy cells x y h (inr e) =
    let none : int_le p.y y ≡ false = elim (answered (int_le p.y y)) [ inl f ↦ absurd (omega (arith, ints, h.y)) | inr f ↦ f ] in
    ap (λ (b : Bool). if b then get_or cells (behind p.y y * p.columns + behind p.x x) 0 else 0)
    (both_no_right (is_among p.x p.columns x) (is_among p.y p.rows y) (both_no_left (int_le p.y y) _ none))

none_either : (b : Bool) → ◌≡◌ {A = ℕ} (if b then 0 else 0) 0
none_either true = refl
none_either false = refl

pub no_cell_behind : (p q : Plane) (dx dy : ℕ) (cells : List ℕ) (i j : ℕ) → IsAround p q dx dy → (q.columns ≤ i) ⊎ (q.rows ≤ j)
    → (if nat_le dx i && nat_le dy j then cell_on p cells (i - dx) (j - dy) else 0) ≡ 0
no_cell_behind p q dx dy cells i j h out =
    let none : cell_on p cells (i - dx) (j - dy) ≡ 0 = elim out [
      | inl e ↦
          let wide = h.columns in
          let far : p.columns ≤ i - dx = omega (arith, e, wide) in
          let no_column : nat_lt (i - dx) p.columns ≡ false = grind (arith, nat_tests) in
          rw no_column refl
      | inr e ↦
          let high = h.rows in
          let far : p.rows ≤ j - dy = omega (arith, e, high) in
          let no_row : nat_lt (j - dy) p.rows ≡ false = grind (arith, nat_tests) in
          ap (λ (b : Bool). if b then get_or cells ((j - dy) * p.columns + (i - dx)) 0 else 0)
          (both_no_right (nat_lt (i - dx) p.columns) (nat_lt (j - dy) p.rows) no_row)
    ] in
    ap (λ (n : ℕ). if nat_le dx i && nat_le dy j then n else 0) none ∙ none_either (nat_le dx i && nat_le dy j)
