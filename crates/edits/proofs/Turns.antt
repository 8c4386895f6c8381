-- What the cells of a difference do, when they are set to their values on a side.
use Rattle.std.proofs.Common.{◌≡◌, ℕ, zero, suc, ◌+◌, ◌*◌, ◌<◌, ◌≤◌, List, [], ◌∷◌, length, Bool, true, false, cond, nat_eq, get_or, refl, sym, ap, ◌∙◌, arith}
use Rattle.std.specs.List.{slice_set}
use Rattle.std.proofs.lemmas.Bool.Decides.{nat_tests}
use Rattle.std.proofs.lemmas.List.Sums.{fold-append}
use Rattle.std.proofs.Math.Nat.{div-lt_iff_lt-mul}
use Rattle.map_model.specs.declared.edit.CellEdit.{CellEdit}
use Rattle.map_model.specs.declared.edit.Side.{Side}
use Rattle.map_model.specs.declared.edit.Side.TheVariants.{Before, After}
use Rattle.map_model.specs.declared.parts.MapParts.{MapParts}
use Rattle.map_model.specs.CellEdits.{side_value, cell_number, put_values}
use Rattle.map_model.specs.Lists.{Each}
use Rattle.map_model.specs.Lookups.{HasTiles, tiles_in, with_tiles, with_edits, IsWithin}
use Rattle.map_model.specs.WellFormed.{IsSize, IsWellFormed}
use Rattle.map_model.proofs.Keeps.{length-tiles_in}
use Rattle.map_model.proofs.Listings.{Each-append}
use Rattle.map_model.proofs.Turns.{with_tiles-with_tiles, with_tiles-along, with_tiles-same, tiles_in-with_tiles}
use Rattle.map_model.specs.Difference.{edit_at, change_at, difference, difference_in}
use Rattle.edits.proofs.Differences.{difference-skip}

-- the first values from one list, the others from another
mixed : ℕ → List ℕ → List ℕ → List ℕ
mixed zero xs ys = ys
mixed (suc k) [] ys = ys
mixed (suc k) (x ∷ xs) [] = []
mixed (suc k) (x ∷ xs) (y ∷ ys) = x ∷ mixed k xs ys

mixed-all : (xs ys : List ℕ) → length xs ≡ length ys → mixed (length xs) xs ys ≡ xs
unfolding mixed
mixed-all [] [] e = refl
mixed-all [] (y ∷ ys) e = absurd (omega arith)
mixed-all (x ∷ xs) [] e = absurd (omega arith)
mixed-all (x ∷ xs) (y ∷ ys) e = ap (λ zs. x ∷ zs) (mixed-all xs ys (omega arith))

mixed-set : (k : ℕ) (xs ys : List ℕ) → length xs ≡ length ys → k < length xs → slice_set (mixed k xs ys) k (get_or xs k 0) ≡ mixed (suc k) xs ys
unfolding mixed
mixed-set k [] ys e l = absurd (omega arith)
mixed-set k (x ∷ xs) [] e l = absurd (omega arith)
mixed-set zero (x ∷ xs) (y ∷ ys) e l = refl
mixed-set (suc k) (x ∷ xs) (y ∷ ys) e l = ap (λ zs. x ∷ zs) (mixed-set k xs ys (omega arith) (omega arith))

mixed-same : (k : ℕ) (xs ys : List ℕ) → length xs ≡ length ys → k < length xs → get_or ys k 0 ≡ get_or xs k 0 → mixed k xs ys ≡ mixed (suc k) xs ys
unfolding mixed
mixed-same k [] ys e l s = absurd (omega arith)
mixed-same k (x ∷ xs) [] e l s = absurd (omega arith)
mixed-same zero (x ∷ xs) (y ∷ ys) e l s = ap (λ z. z ∷ ys) s
mixed-same (suc k) (x ∷ xs) (y ∷ ys) e l s = ap (λ zs. x ∷ zs) (mixed-same k xs ys (omega arith) (omega arith) s)

mixed-zero : (xs ys : List ℕ) → mixed 0 xs ys ≡ ys
unfolding mixed
mixed-zero xs ys = refl

number-edit_at : (w number a b : ℕ) → 0 < w → cell_number w (edit_at w number a b) ≡ number
number-edit_at w number a b l = omega arith

-- The difference of xs and ys, put over one of the two, gives the other one: `from` and `to` are the two in either order.
module _ (w : ℕ) (some : 0 < w) (side : Side) (xs ys from to : List ℕ) (sizes : length to ≡ length from)
    (value : (k : ℕ) → side_value side (edit_at w k (get_or xs k 0) (get_or ys k 0)) ≡ get_or to k 0)
    (same : (k : ℕ) → get_or xs k 0 ≡ get_or ys k 0 → get_or from k 0 ≡ get_or to k 0) where
  put-change_at : (k : ℕ) → k < length to → put_values w side (change_at w k (get_or xs k 0) (get_or ys k 0)) (mixed k to from) ≡ mixed (suc k) to from
  put-change_at k l = by_test (nat_eq (get_or xs k 0) (get_or ys k 0)) refl
    where
      by_test : (b : Bool) → nat_eq (get_or xs k 0) (get_or ys k 0) ≡ b
          → put_values w side (cond b [] (edit_at w k (get_or xs k 0) (get_or ys k 0) ∷ [])) (mixed k to from) ≡ mixed (suc k) to from
      by_test true e = mixed-same k to from sizes l (same k (grind (arith, nat_tests)))
      by_test false e =
          ap (λ p. slice_set (mixed k to from) p (side_value side (edit_at w k (get_or xs k 0) (get_or ys k 0))))
          (number-edit_at w k (get_or xs k 0) (get_or ys k 0) some)
          ∙ ap (slice_set (mixed k to from) k) (value k) ∙ mixed-set k to from sizes l

  put-first : (k : ℕ) → k ≤ length to → put_values w side (difference w xs ys k) from ≡ mixed k to from
  put-first zero l = sym (mixed-zero to from)
  put-first (suc k) l =
      fold-append (λ vs e. slice_set vs (cell_number w e) (side_value side e)) from (difference w xs ys k) (change_at w k (get_or xs k 0) (get_or ys k 0))
      ∙ ap (put_values w side (change_at w k (get_or xs k 0) (get_or ys k 0))) (put-first k (omega arith)) ∙ put-change_at k (omega arith)

  put-all : put_values w side (difference w xs ys (length to)) from ≡ to
  put-all = put-first (length to) (omega arith) ∙ mixed-all to from sizes

put-after : (w : ℕ) (xs ys : List ℕ) → 0 < w → length ys ≡ length xs → put_values w After (difference w xs ys (length ys)) xs ≡ ys
put-after w xs ys some e = put-all w some After xs ys xs ys e (λ k. refl) (λ k s. s)

put-before : (w : ℕ) (xs ys : List ℕ) → 0 < w → length xs ≡ length ys → put_values w Before (difference w xs ys (length xs)) ys ≡ xs
put-before w xs ys some e = put-all w some Before xs ys ys xs e (λ k. refl) (λ k s. sym s)

-- ---- maps
-- the values after, put over the first map, give the second, where that differs in the layer alone
pub with_edits-after : (m : MapParts) (id : ℕ) (f : List ℕ → List ℕ) (es : List CellEdit) → ((vs : List ℕ) → length (f vs) ≡ length vs)
    → es ≡ difference_in id m (with_tiles m id f) → HasTiles m id → IsWellFormed m → with_edits m id es After ≡ with_tiles m id f
with_edits-after m id f es same e t h =
    let xs = tiles_in m id in
    let size : m.width * m.height ≡ length (f xs) = sym (same xs ∙ length-tiles_in m id t h) in
    let is : es ≡ difference m.width xs (f xs) (length (f xs)) =
    e ∙ ap (λ ys. difference m.width xs ys (m.width * m.height)) (tiles_in-with_tiles m id f t) ∙ ap (difference m.width xs (f xs)) size in
    with_tiles-along m id (put_values m.width After es) f (
    ap (λ ds. put_values m.width After ds xs) is ∙ put-after m.width xs (f xs) (omega (arith, h.size.wide)) (same xs)
    )

-- the values before, put over the second map, give the first
pub with_edits-before : (m : MapParts) (id : ℕ) (f : List ℕ → List ℕ) (es : List CellEdit) → ((vs : List ℕ) → length (f vs) ≡ length vs)
    → es ≡ difference_in id m (with_tiles m id f) → HasTiles m id → IsWellFormed m → with_edits (with_tiles m id f) id es Before ≡ m
with_edits-before m id f es same e t h =
    let xs = tiles_in m id in
    let size : m.width * m.height ≡ length xs = sym (length-tiles_in m id t h) in
    let is : es ≡ difference m.width xs (f xs) (length xs) =
    e ∙ ap (λ ys. difference m.width xs ys (m.width * m.height)) (tiles_in-with_tiles m id f t) ∙ ap (difference m.width xs (f xs)) size in
    with_tiles-with_tiles m id (put_values m.width Before es) f
    ∙ with_tiles-along m id (λ vs. put_values m.width Before es (f vs)) (λ vs. vs) (
    ap (λ ds. put_values m.width Before ds (f xs)) is ∙ put-before m.width xs (f xs) (omega (arith, h.size.wide)) (sym (same xs))
    )
    ∙ with_tiles-same m id

-- the values after, put over the map that the values before led to, give the map back
pub with_edits-again : (m : MapParts) (id : ℕ) (f : List ℕ → List ℕ) (es : List CellEdit) → ((vs : List ℕ) → length (f vs) ≡ length vs)
    → es ≡ difference_in id (with_tiles m id f) m → HasTiles m id → IsWellFormed m → with_edits (with_tiles m id f) id es After ≡ m
with_edits-again m id f es same e t h =
    let ys = tiles_in m id in
    let size : m.width * m.height ≡ length ys = sym (length-tiles_in m id t h) in
    let is : es ≡ difference m.width (f ys) ys (length ys) =
    e ∙ ap (λ xs. difference m.width xs ys (m.width * m.height)) (tiles_in-with_tiles m id f t) ∙ ap (difference m.width (f ys) ys) size in
    with_tiles-with_tiles m id (put_values m.width After es) f
    ∙ with_tiles-along m id (λ vs. put_values m.width After es (f vs)) (λ vs. vs) (
    ap (λ ds. put_values m.width After ds (f ys)) is ∙ put-after m.width (f ys) ys (omega (arith, h.size.wide)) (sym (same ys))
    )
    ∙ with_tiles-same m id

-- the values before, put over a map, give the one of which the cells are the difference to it
pub with_edits-back : (m : MapParts) (id : ℕ) (f : List ℕ → List ℕ) (es : List CellEdit) → ((vs : List ℕ) → length (f vs) ≡ length vs)
    → es ≡ difference_in id (with_tiles m id f) m → HasTiles m id → IsWellFormed m → with_edits m id es Before ≡ with_tiles m id f
with_edits-back m id f es same e t h =
    let ys = tiles_in m id in
    let size : m.width * m.height ≡ length (f ys) = sym (same ys ∙ length-tiles_in m id t h) in
    let is : es ≡ difference m.width (f ys) ys (length (f ys)) =
    e ∙ ap (λ xs. difference m.width xs ys (m.width * m.height)) (tiles_in-with_tiles m id f t) ∙ ap (difference m.width (f ys) ys) size in
    with_tiles-along m id (put_values m.width Before es) f (
    ap (λ ds. put_values m.width Before ds ys) is ∙ put-before m.width (f ys) ys (omega (arith, h.size.wide)) (same ys)
    )

-- a map differs from itself in no cell
pub difference_in-same : (m : MapParts) (id : ℕ) → difference_in id m m ≡ []
difference_in-same m id =
    let all : 0 + m.width * m.height ≡ m.width * m.height = omega arith in
    ap (difference m.width (tiles_in m id) (tiles_in m id)) (sym all)
    ∙ difference-skip m.width (tiles_in m id) (tiles_in m id) 0 (m.width * m.height) (λ i l. refl)

pub with_edits-none : (m : MapParts) (id : ℕ) (side : Side) → with_edits m id [] side ≡ m
with_edits-none m id side = with_tiles-same m id

-- the cells of a difference lie in the map
within_first : (m : MapParts) (xs ys : List ℕ) (k : ℕ) → 0 < m.width → k ≤ m.width * m.height → Each (IsWithin m) (difference m.width xs ys k)
within_first m xs ys zero some l = tt
within_first m xs ys (suc k) some l =
    Each-append (IsWithin m) (difference m.width xs ys k) (change_at m.width k (get_or xs k 0) (get_or ys k 0)) (within_first m xs ys k some (omega arith))
    (by_test (nat_eq (get_or xs k 0) (get_or ys k 0)))
  where
    inside : IsWithin m (edit_at m.width k (get_or xs k 0) (get_or ys k 0))
    inside = (omega arith, (div-lt_iff_lt-mul {k = m.width} {x = k} {y = m.height} some).1 (omega arith))

    by_test : (b : Bool) → Each (IsWithin m) (cond b [] (edit_at m.width k (get_or xs k 0) (get_or ys k 0) ∷ []))
    by_test true = tt
    by_test false = (inside, tt)

pub difference_in-within : (m n : MapParts) (id : ℕ) → IsSize m.width m.height → Each (IsWithin m) (difference_in id m n)
difference_in-within m n id h = within_first m (tiles_in m id) (tiles_in n id) (m.width * m.height) (omega (arith, h.wide)) (omega arith)
