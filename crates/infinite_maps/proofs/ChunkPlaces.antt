-- Where the chunks of rectangles lie on the plane, and which cells they have there.
use Rattle.std.proofs.Common.{◌≡◌, ℕ, ◌+◌, ◌-◌, ◌*◌, ◌^◌, ◌<◌, ◌≤◌, ◌⊎◌, inl, inr, List, Bool, true, false, Some, get_or, map, refl, sym, ap, ◌∙◌, arith}
use Rattle.std.specs.Prelude.{ℤ, pos, negsuc, ◌+ℤ◌, ◌≤ℤ◌, ◌<ℤ◌, int_le, int_lt, unsigned_abs, FitsSigned, nat_lt, nat_le, ◌&&◌, unwrap_or}
use Rattle.std.specs.Int.{w64, int_wrapping_add}
use Rattle.std.specs.List.{range_with_len}
use Rattle.std.proofs.lemmas.Int.{ints, wrapping_add_is, int_wrap_fits, fits_signed_from_abs}
use Rattle.std.proofs.lemmas.List.{get_or_past}
use Rattle.std.proofs.lemmas.List.FromFn.{get_or-map-range_with_len, length-map-range_with_len}
use Rattle.std.proofs.lemmas.Bool.Decides.{nat_tests}
use Rattle.serde_json.specs.Find.{as_i64, of_integer}
use Rattle.infinite_maps.specs.declared.rectangle.Rectangle.{Rectangle}
use Rattle.infinite_maps.specs.declared.plane.Plane.{Plane}
use Rattle.infinite_maps.specs.Rectangles.{width, height, area, place}
use Rattle.infinite_maps.specs.Cells.{cut}
use Rattle.infinite_maps.specs.Layers.{chunk, place_at}
use Rattle.infinite_maps.specs.Notes.{integer}
use Rattle.infinite_maps.specs.Placed.{has}
use Rattle.infinite_maps.specs.Laws.{is_among, behind, covers, cell_in_chunk}
use Rattle.infinite_maps.proofs.Places.{Has, answered, both_parts, not_both, numbered}
use Rattle.infinite_maps.proofs.ChunkCells.{AreWords, cells_of-cells_data}

-- a place of which no sum with a side goes past 64 bits
abbrev pub IsNear : ℤ → Type 0
IsNear z = unsigned_abs z < 2 ^ 40

pub number_read : (z : ℤ) → unsigned_abs z < 2 ^ 62 → as_i64 (of_integer z) ≡ Some z
number_read (pos n) h =
    let small : nat_lt n (2 ^ 63) ≡ true = grind (arith, nat_tests) in
    rw small refl
number_read (negsuc n) h = refl

near_sum : (z : ℤ) (n : ℕ) → IsNear z → n < 2 ^ 40 → int_wrapping_add w64 z (pos n) ≡ z +ℤ pos n
near_sum z n near small =
    let a : FitsSigned w64 z = fits_signed_from_abs w64 z (omega (arith, ints)) in
    let b : FitsSigned w64 (pos n) = fits_signed_from_abs w64 (pos n) (omega (arith, ints)) in
    let c : FitsSigned w64 (z +ℤ pos n) = fits_signed_from_abs w64 (z +ℤ pos n) (omega (arith, ints)) in
    wrapping_add_is w64 z (pos n) a b ∙ int_wrap_fits w64 (z +ℤ pos n) c

pub place_read : (z : ℤ) (n : ℕ) → IsNear z → n < 2 ^ 40 → integer (Some (place_at z n)) ≡ z +ℤ pos n
place_read z n near small =
    let e = near_sum z n near small in
    let h : unsigned_abs (z +ℤ pos n) < 2 ^ 62 = omega (arith, ints) in
    ap (λ (y : ℤ). unwrap_or (as_i64 (of_integer y)) (pos 0)) e ∙ ap (λ o. unwrap_or o (pos 0)) (number_read (z +ℤ pos n) h)

pub both_no_left : (a b : Bool) → a ≡ false → (a && b) ≡ false
both_no_left true b e = absurd (not_both true refl e)
both_no_left false b e = refl

pub both_no_right : (a b : Bool) → b ≡ false → (a && b) ≡ false
both_no_right true b e = e
both_no_right false b e = refl

same_tests : (a b : Bool) → (a ≡ true → b ≡ true) → (b ≡ true → a ≡ true) → a ≡ b
same_tests true b f g = sym (f refl)
same_tests false true f g = g refl
same_tests false false f g = refl

pub both_true : (a b : Bool) → a ≡ true → b ≡ true → (a && b) ≡ true
both_true a b p q = rw (p, q) refl

int_le_of : (x y : ℤ) → x ≤ℤ y → int_le x y ≡ true
int_le_of x y h = elim (answered (int_le x y)) [ inl e ↦ e | inr e ↦ absurd (omega (arith, ints)) ]

int_lt_of : (x y : ℤ) → x <ℤ y → int_lt x y ≡ true
int_lt_of x y h = elim (answered (int_lt x y)) [ inl e ↦ e | inr e ↦ absurd (omega (arith, ints)) ]

-- places counted from one place
pub among : (z : ℤ) (left right i : ℕ) → is_among (z +ℤ pos left) (right - left) (z +ℤ pos i) ≡ (nat_le left i && nat_lt i right)
among z left right i = same_tests _ _
    (λ e.
    let p = both_parts (int_le (z +ℤ pos left) (z +ℤ pos i)) (int_lt (z +ℤ pos i) ((z +ℤ pos left) +ℤ pos (right - left))) e in
    let a : int_le (z +ℤ pos left) (z +ℤ pos i) ≡ true = p.0 in
    let b : int_lt (z +ℤ pos i) ((z +ℤ pos left) +ℤ pos (right - left)) ≡ true = p.1 in
    let c : left ≤ i = omega (arith, ints, a) in
    let d : i < right = omega (arith, ints, b, c) in
    both_true (nat_le left i) (nat_lt i right) (grind (arith, nat_tests)) (grind (arith, nat_tests)))
    (λ e.
    let p = both_parts (nat_le left i) (nat_lt i right) e in
    let a : nat_le left i ≡ true = p.0 in
    let b : nat_lt i right ≡ true = p.1 in
    let c : left ≤ i = grind (arith, nat_tests) in
    let d : i < right = grind (arith, nat_tests) in
    both_true (int_le (z +ℤ pos left) (z +ℤ pos i)) (int_lt (z +ℤ pos i) ((z +ℤ pos left) +ℤ pos (right - left)))
    (int_le_of (z +ℤ pos left) (z +ℤ pos i) (omega (arith, ints))) (int_lt_of (z +ℤ pos i) ((z +ℤ pos left) +ℤ pos (right - left)) (omega (arith, ints))))

pub before : (z : ℤ) (left n : ℕ) (x : ℤ) → x <ℤ z → is_among (z +ℤ pos left) n x ≡ false
before z left n x h = elim (answered (int_le (z +ℤ pos left) x)) [
  | inl e ↦ absurd (omega (arith, ints))
  | inr e ↦ both_no_left _ _ e
]

pub among_none : (z x : ℤ) → is_among z 0 x ≡ false
among_none z x = elim (answered (int_le z x)) [
  | inl e ↦ elim (answered (int_lt x (z +ℤ pos 0))) [ inl f ↦ absurd (omega (arith, ints)) | inr f ↦ both_no_right _ _ f ]
  | inr e ↦ both_no_left _ _ e
]

-- the chunk of a rectangle has its places, counted from the corner of the map
pub chunk_covers : (p : Plane) (text : Bool) (cells : List ℕ) (r : Rectangle) (i j : ℕ) → IsNear p.x → IsNear p.y → r.left < 2 ^ 40 → r.top < 2 ^ 40
    → covers (p.x +ℤ pos i) (p.y +ℤ pos j) (chunk p text cells r) ≡ has i j r
unfolding chunk
chunk_covers p text cells r i j near_x near_y left top =
    rw (place_read p.x r.left near_x left, place_read p.y r.top near_y top, among p.x r.left r.right i, among p.y r.top r.bottom j) refl

pub chunk_no_cover : (p : Plane) (text : Bool) (cells : List ℕ) (r : Rectangle) (x y : ℤ) → IsNear p.x → IsNear p.y → r.left < 2 ^ 40 → r.top < 2 ^ 40
    → (x <ℤ p.x) ⊎ (y <ℤ p.y) → covers x y (chunk p text cells r) ≡ false
unfolding chunk
chunk_no_cover p text cells r x y near_x near_y left top (inl h) =
    rw (place_read p.x r.left near_x left) (both_no_left _ _ (before p.x r.left (width r) x h))
chunk_no_cover p text cells r x y near_x near_y left top (inr h) =
    rw (place_read p.y r.top near_y top) (both_no_right _ _ (before p.y r.top (height r) y h))

-- a chunk without cells has no place
pub chunk_empty : (p : Plane) (text : Bool) (cells : List ℕ) (r : Rectangle) (x y : ℤ) → (width r ≡ 0) ⊎ (height r ≡ 0)
    → covers x y (chunk p text cells r) ≡ false
unfolding chunk
chunk_empty p text cells r x y (inl h) = both_no_left _ _ (ap (λ (n : ℕ). is_among (integer (Some (place_at p.x r.left))) n x) h ∙ among_none _ x)
chunk_empty p text cells r x y (inr h) = both_no_right _ _ (ap (λ (n : ℕ). is_among (integer (Some (place_at p.y r.top))) n y) h ∙ among_none _ y)

-- and has the layer's cells there
pub behind_by : (z : ℤ) (left i : ℕ) → left ≤ i → behind (z +ℤ pos left) (z +ℤ pos i) ≡ i - left
behind_by z left i h = omega (arith, ints)

pub cut_cell : (columns : ℕ) (cells : List ℕ) (r : Rectangle) (i j : ℕ) → Has i j r
    → get_or (cut columns cells r) ((j - r.top) * width r + (i - r.left)) 0 ≡ get_or cells (j * columns + i) 0
unfolding cut
cut_cell columns cells r i j h =
    let k = numbered columns i j r h in
    get_or-map-range_with_len (λ (k : ℕ). get_or cells (place columns r k) 0) 0 (area r) _ _ 0 k.below (omega arith)
    ∙ ap (λ (n : ℕ). get_or cells n 0) k.there

cut_words : (columns : ℕ) (cells : List ℕ) (r : Rectangle) → AreWords cells → AreWords (cut columns cells r)
unfolding cut
cut_words columns cells r words k = elim (answered (nat_lt k (area r))) [
  | inl e ↦
      let lt : k < area r = grind (arith, nat_tests) in
      let here = get_or-map-range_with_len (λ (k : ℕ). get_or cells (place columns r k) 0) 0 (area r) k k 0 lt (omega arith) in
      let small = words (place columns r k) in
      omega (arith, here, small)
  | inr e ↦
      let past : area r ≤ k = grind (arith, nat_tests) in
      let long = length-map-range_with_len (λ (k : ℕ). get_or cells (place columns r k) 0) 0 (area r) in
      let none = get_or_past (map (λ (k : ℕ). get_or cells (place columns r k) 0) (range_with_len 0 (area r))) k 0 (omega (arith, long, past)) in
      omega (arith, none)
]

pub chunk_cell : (p : Plane) (text : Bool) (cells : List ℕ) (r : Rectangle) (i j : ℕ) → IsNear p.x → IsNear p.y → r.left < 2 ^ 40 → r.top < 2 ^ 40
    → (text ≡ true → AreWords cells) → Has i j r → cell_in_chunk (p.x +ℤ pos i) (p.y +ℤ pos j) (chunk p text cells r) ≡ get_or cells (j * p.columns + i) 0
unfolding chunk
chunk_cell p text cells r i j near_x near_y left top words h =
    rw (
      place_read p.x r.left near_x left,
      place_read p.y r.top near_y top,
      behind_by p.x r.left i h.from_left,
      behind_by p.y r.top j h.from_top,
      cells_of-cells_data text (cut p.columns cells r) (λ e. cut_words p.columns cells r (words e)),
    )
    (cut_cell p.columns cells r i j h)
