-- The new rectangles of all blocks.
use Rattle.std.proofs.Common.{◌≡◌, ℕ, zero, suc, ◌+◌, ◌*◌, ◌/◌, ◌<◌, ◌≤◌, ◌⊎◌, inl, inr, max, List, [], ◌∷◌, ◌++◌, Bool, true, false, Option, Some}
use Rattle.std.proofs.Common.{None, get_or, refl, sym, ap, subst, arith}
use Rattle.std.specs.Prelude.{not, ◌&&◌, nat_lt, if◌then◌else◌}
use Rattle.std.proofs.lemmas.Bool.Decides.{nat_tests}
use Rattle.std.proofs.lemmas.Nat.{div-add-mod', mod_below}
use Rattle.infinite_maps.specs.declared.rectangle.Rectangle.{Rectangle}
use Rattle.infinite_maps.specs.declared.plane.Plane.{Plane}
use Rattle.infinite_maps.specs.Rectangles.{area, bounds}
use Rattle.infinite_maps.specs.Coverage.{is_uncovered}
use Rattle.infinite_maps.specs.Growth.{edge, block_count, block_at, is_new, new_cells, pieces_by, pieces, row_pieces, rows_pieces, grown}
use Rattle.infinite_maps.specs.Placed.{has, times}
use Rattle.infinite_maps.proofs.Places.{facts, answered, not_both, numbered, of_facts, times-append}
use Rattle.infinite_maps.proofs.Covers.{at, uncovered}
use Rattle.infinite_maps.proofs.Pieces.{found, AroundInside, news_inside, bounds_inside, bounds_has, some_has, inside_has}

-- rectangles have a place at most once, only where it is not covered and lies there, and if its cell is new
pub record Fits (columns : ℕ) (cells : List ℕ) (cover : List Bool) (i j : ℕ) (here : Bool) (rs : List Rectangle) : Type 0 where
  pub at_most : times i j rs ≤ 1
  pub free : 0 < times i j rs → at cover (j * columns + i) ≡ false
  pub inside : 0 < times i j rs → here ≡ true
  pub filled : here ≡ true → is_new cells cover (j * columns + i) ≡ true → 0 < times i j rs

new_is_free : (cells : List ℕ) (cover : List Bool) (n : ℕ) → is_new cells cover n ≡ true → at cover n ≡ false
new_is_free cells cover n e =
    let parts : (a b : Bool) → (a && not b) ≡ true → b ≡ false = λ a b. elim a as (λ (a : Bool). (a && not b) ≡ true → b ≡ false) [
      | true ↦ elim b as (λ (b : Bool). not b ≡ true → b ≡ false) [ true ↦ λ e. sym e | false ↦ λ e. refl ]
      | false ↦ λ e. absurd (not_both true refl (sym e))
    ] in
    parts (nat_lt 0 (get_or cells n 0)) (at cover n) e

one_rectangle : (columns : ℕ) (cells : List ℕ) (cover : List Bool) (i j : ℕ) (r b : Rectangle) → is_uncovered columns cover b ≡ true
    → (has i j b ≡ true → has i j r ≡ true) → (has i j r ≡ true → is_new cells cover (j * columns + i) ≡ true → has i j b ≡ true)
    → Fits columns cells cover i j (has i j r) (b ∷ [])
one_rectangle columns cells cover i j r b free inside filled = elim (answered (has i j b)) [
  | inl e ↦ record {
    at_most = omega (arith, ap (λ (b : Bool). (if b then 1 else 0) + 0) e);
    free = λ p. uncovered columns i j b cover free e;
    inside = λ p. inside e;
    filled = λ h new. omega (arith, ap (λ (b : Bool). (if b then 1 else 0) + 0) e);
  }
  | inr e ↦ record {
    at_most = omega (arith, ap (λ (b : Bool). (if b then 1 else 0) + 0) e);
    free = λ p. absurd (omega (arith, p, ap (λ (b : Bool). (if b then 1 else 0) + 0) e));
    inside = λ p. absurd (omega (arith, p, ap (λ (b : Bool). (if b then 1 else 0) + 0) e));
    filled = λ h new. absurd (not_both (has i j b) (filled h new) e);
  }
]

some_new : (columns : ℕ) (cells : List ℕ) (cover : List Bool) (i j : ℕ) (r : Rectangle) → has i j r ≡ true → is_new cells cover (j * columns + i) ≡ true
    → 0 < times i j (new_cells columns cells cover r (area r))
some_new columns cells cover i j r h new =
    let f = facts i j r h in
    let k = numbered columns i j r f in
    (found columns cells cover r (area r) i j (omega arith)).all _ k.below
    (record { column = omega (arith, k.column, f.from_left); row = omega (arith, k.row, f.from_top) }) new

fit_by : (columns : ℕ) (cells : List ℕ) (cover : List Bool) (i j : ℕ) (r : Rectangle) (o : Option Rectangle) → AroundInside r o
    → (0 < times i j (new_cells columns cells cover r (area r)) → some_has i j o ≡ true)
    → Fits columns cells cover i j (has i j r) (pieces_by columns cover r (new_cells columns cells cover r (area r)) o)
fit_by columns cells cover i j r None inside around = record {
  at_most = omega arith;
  free = λ p. absurd (omega (arith, p));
  inside = λ p. absurd (omega (arith, p));
  filled = λ h new. absurd (not_both true refl (sym (around (some_new columns cells cover i j r h new))));
}
fit_by columns cells cover i j r (Some b) inside around =
    let news = new_cells columns cells cover r (area r) in
    let all = found columns cells cover r (area r) i j (omega arith) in
    let F : List Rectangle → Type 0 = λ rs. Fits columns cells cover i j (has i j r) rs in
    let else_by : Bool → List Rectangle = λ c. if c then b ∷ [] else news in
    let each : Fits columns cells cover i j (has i j r) news = record {
      at_most = all.at_most;
      free = λ p. new_is_free cells cover (j * columns + i) (all.new p);
      inside = all.inside;
      filled = λ h new. some_new columns cells cover i j r h new;
    } in
    let smaller : F (else_by (is_uncovered columns cover b)) = elim (answered (is_uncovered columns cover b)) [
      | inl e ↦ subst (λ (c : Bool). F (else_by c)) (sym e)
          (one_rectangle columns cells cover i j r b e (inside_has i j b r inside) (λ h new. around (some_new columns cells cover i j r h new)))
      | inr e ↦ subst (λ (c : Bool). F (else_by c)) (sym e) each
    ] in
    elim (answered (is_uncovered columns cover r)) [
      | inl e ↦ subst (λ (c : Bool). F (if c then r ∷ [] else else_by (is_uncovered columns cover b))) (sym e)
          (one_rectangle columns cells cover i j r r e (λ h. h) (λ h new. h))
      | inr e ↦ subst (λ (c : Bool). F (if c then r ∷ [] else else_by (is_uncovered columns cover b))) (sym e) smaller
    ]

pub pieces_fit : (columns : ℕ) (cells : List ℕ) (cover : List Bool) (i j : ℕ) (r : Rectangle)
    → Fits columns cells cover i j (has i j r) (pieces columns cells cover r)
unfolding pieces
pieces_fit columns cells cover i j r =
    let news = new_cells columns cells cover r (area r) in
    fit_by columns cells cover i j r (bounds news) (bounds_inside r news (news_inside columns cells cover r (area r) (omega arith))) (bounds_has i j news)

-- rectangles in two parts of a region that have no place in common
pub both_fit : (columns : ℕ) (cells : List ℕ) (cover : List Bool) (i j : ℕ) (a b here : Bool) (rs ss : List Rectangle)
    → Fits columns cells cover i j a rs → Fits columns cells cover i j b ss
    → (a ≡ true → b ≡ true → ⊥) → (a ≡ true → here ≡ true) → (b ≡ true → here ≡ true) → (here ≡ true → (a ≡ true) ⊎ (b ≡ true))
    → Fits columns cells cover i j here (rs ++ ss)
both_fit columns cells cover i j a b here rs ss f g apart left right parts =
    let sum = times-append i j rs ss in
    let m = times i j rs in
    let n = times i j ss in
    let some : 0 < times i j (rs ++ ss) → (0 < m) ⊎ (0 < n) = λ p. elim (answered (nat_lt 0 m)) [
      | inl e ↦ inl (grind (arith, nat_tests))
      | inr e ↦ let none : m ≡ 0 = grind (arith, nat_tests) in inr (omega (arith, none, sum, p))
    ] in
    record {
      at_most = elim (answered (nat_lt 0 m)) [
        | inr e ↦ let none : m ≡ 0 = grind (arith, nat_tests) in omega (arith, none, sum, g.at_most)
        | inl e ↦ let one : 0 < m = grind (arith, nat_tests) in elim (answered (nat_lt 0 n)) [
          | inr e ↦ let none : n ≡ 0 = grind (arith, nat_tests) in omega (arith, none, sum, f.at_most)
          | inl e ↦ let other : 0 < n = grind (arith, nat_tests) in absurd (apart (f.inside one) (g.inside other))
        ]
      ];
      free = λ p. elim (some p) [ inl q ↦ f.free q | inr q ↦ g.free q ];
      inside = λ p. elim (some p) [ inl q ↦ left (f.inside q) | inr q ↦ right (g.inside q) ];
      filled = λ h new. elim (parts h) [
        | inl q ↦ let more = f.filled q new in omega (arith, sum, more)
        | inr q ↦ let more = g.filled q new in omega (arith, sum, more)
      ];
    }

pub none_fit : (columns : ℕ) (cells : List ℕ) (cover : List Bool) (i j : ℕ) (here : Bool) → (here ≡ true → ⊥) → Fits columns cells cover i j here []
none_fit columns cells cover i j here no_place = record {
  at_most = omega arith;
  free = λ p. absurd (omega (arith, p));
  inside = λ p. absurd (omega (arith, p));
  filled = λ h new. absurd (no_place h);
}

-- edges go up, from 0 to the limit
edge_up : (side lost limit n : ℕ) → edge side lost limit n ≤ edge side lost limit (n + 1)
edge_up side lost limit n = let more : (n + 1) * side ≡ n * side + side = omega arith in omega (arith, more)

edge_first : (side lost limit : ℕ) → edge side lost limit 0 ≡ 0
edge_first side lost limit = omega arith

edge_last : (side lost limit : ℕ) → 0 < side → edge side lost limit (block_count side lost limit) ≡ limit
edge_last side lost limit h =
    let n = limit + lost in
    let m : max side 1 ≡ side = omega arith in
    let e : (n / max side 1 + 1) * side ≡ n / side * side + side = rw m (omega arith) in
    let a = div-add-mod' n side in
    let b = mod_below n side h in
    omega (arith, e, a, b)

-- what lies between two edges of a row
abbrev pub part : ℕ → ℕ → ℕ → ℕ → Rectangle
part left right top bottom = record { left = left; top = top; right = right; bottom = bottom }

beside : (i j a b c top bottom : ℕ) → a ≤ b → b ≤ c → has i j (part a b top bottom) ≡ true → has i j (part b c top bottom) ≡ true → ⊥
beside i j a b c top bottom p q e f =
    let g = facts i j (part a b top bottom) e in
    let h = facts i j (part b c top bottom) f in
    omega (arith, g.to_right, h.from_left)

wider : (i j a b c d top bottom : ℕ) → a ≤ b → c ≤ d → has i j (part b c top bottom) ≡ true → has i j (part a d top bottom) ≡ true
wider i j a b c d top bottom p q e =
    let g = facts i j (part b c top bottom) e in
    of_facts i j (part a d top bottom) (record {
      from_left = omega (arith, g.from_left);
      to_right = omega (arith, g.to_right);
      from_top = g.from_top;
      to_bottom = g.to_bottom;
    })

one_of_two : (i j a b c top bottom : ℕ) → has i j (part a c top bottom) ≡ true → (has i j (part a b top bottom) ≡ true) ⊎ (has i j (part b c top bottom) ≡ true)
one_of_two i j a b c top bottom e =
    let g = facts i j (part a c top bottom) e in
    elim (answered (nat_lt i b)) [
      | inl lt ↦ inl (of_facts i j (part a b top bottom) (record {
        from_left = g.from_left;
        to_right = grind (arith, nat_tests);
        from_top = g.from_top;
        to_bottom = g.to_bottom;
      }))
      | inr ge ↦ inr (of_facts i j (part b c top bottom) (record {
        from_left = grind (arith, nat_tests);
        to_right = g.to_right;
        from_top = g.from_top;
        to_bottom = g.to_bottom;
      }))
    ]

-- the blocks of a row
pub row_fits : (p : Plane) (cells : List ℕ) (cover : List Bool) (i j row n : ℕ)
    → Fits p.columns cells cover i j
    (has i j (part 0 (edge p.across p.lost_x p.columns n) (edge p.down p.lost_y p.rows row) (edge p.down p.lost_y p.rows (row + 1))))
    (row_pieces p cells cover row n)
row_fits p cells cover i j row zero = none_fit p.columns cells cover i j _ (λ e. let f = facts i j _ e in omega (arith, f.to_right))
row_fits p cells cover i j row (suc n) =
    let x = λ (k : ℕ). edge p.across p.lost_x p.columns k in
    let top = edge p.down p.lost_y p.rows row in
    let bottom = edge p.down p.lost_y p.rows (row + 1) in
    let up : x n ≤ x (n + 1) = edge_up p.across p.lost_x p.columns n in
    let next : suc n ≡ n + 1 = omega arith in
    rw next (both_fit p.columns cells cover i j (has i j (part 0 (x n) top bottom)) (has i j (part (x n) (x (n + 1)) top bottom))
    (has i j (part 0 (x (n + 1)) top bottom)) (row_pieces p cells cover row n) (pieces p.columns cells cover (block_at p row n))
    (row_fits p cells cover i j row n) (pieces_fit p.columns cells cover i j (block_at p row n))
    (beside i j 0 (x n) (x (n + 1)) top bottom (omega arith) up)
    (wider i j 0 0 (x n) (x (n + 1)) top bottom (omega arith) up)
    (wider i j 0 (x n) (x (n + 1)) (x (n + 1)) top bottom (omega arith) (omega arith))
    (one_of_two i j 0 (x n) (x (n + 1)) top bottom))

under : (i j left right a b c : ℕ) → has i j (part left right a b) ≡ true → has i j (part left right b c) ≡ true → ⊥
under i j left right a b c e f =
    let g = facts i j (part left right a b) e in
    let h = facts i j (part left right b c) f in
    omega (arith, g.to_bottom, h.from_top)

higher : (i j left right a b c d : ℕ) → a ≤ b → c ≤ d → has i j (part left right b c) ≡ true → has i j (part left right a d) ≡ true
higher i j left right a b c d p q e =
    let g = facts i j (part left right b c) e in
    of_facts i j (part left right a d) (record {
      from_left = g.from_left;
      to_right = g.to_right;
      from_top = omega (arith, g.from_top);
      to_bottom = omega (arith, g.to_bottom);
    })

one_of_rows : (i j left right a b c : ℕ) → has i j (part left right a c) ≡ true
    → (has i j (part left right a b) ≡ true) ⊎ (has i j (part left right b c) ≡ true)
one_of_rows i j left right a b c e =
    let g = facts i j (part left right a c) e in
    elim (answered (nat_lt j b)) [
      | inl lt ↦ inl (of_facts i j (part left right a b) (record {
        from_left = g.from_left;
        to_right = g.to_right;
        from_top = g.from_top;
        to_bottom = grind (arith, nat_tests);
      }))
      | inr ge ↦ inr (of_facts i j (part left right b c) (record {
        from_left = g.from_left;
        to_right = g.to_right;
        from_top = grind (arith, nat_tests);
        to_bottom = g.to_bottom;
      }))
    ]

-- the blocks of all rows
pub rows_fit : (p : Plane) (cells : List ℕ) (cover : List Bool) (i j n : ℕ) → 0 < p.across
    → Fits p.columns cells cover i j (has i j (part 0 p.columns 0 (edge p.down p.lost_y p.rows n))) (rows_pieces p cells cover n)
rows_fit p cells cover i j zero across = none_fit p.columns cells cover i j _ (λ e. let f = facts i j _ e in omega (arith, f.to_bottom))
rows_fit p cells cover i j (suc n) across =
    let y = λ (k : ℕ). edge p.down p.lost_y p.rows k in
    let count = block_count p.across p.lost_x p.columns in
    let up : y n ≤ y (n + 1) = edge_up p.down p.lost_y p.rows n in
    let next : suc n ≡ n + 1 = omega arith in
    let row : Fits p.columns cells cover i j (has i j (part 0 p.columns (y n) (y (n + 1)))) (row_pieces p cells cover n count)
    = subst (λ (right : ℕ). Fits p.columns cells cover i j (has i j (part 0 right (y n) (y (n + 1)))) (row_pieces p cells cover n count))
    (edge_last p.across p.lost_x p.columns across) (row_fits p cells cover i j n count) in
    rw next (both_fit p.columns cells cover i j (has i j (part 0 p.columns 0 (y n))) (has i j (part 0 p.columns (y n) (y (n + 1))))
    (has i j (part 0 p.columns 0 (y (n + 1)))) (rows_pieces p cells cover n) (row_pieces p cells cover n count)
    (rows_fit p cells cover i j n across) row
    (under i j 0 p.columns 0 (y n) (y (n + 1)))
    (higher i j 0 p.columns 0 0 (y n) (y (n + 1)) (omega arith) up)
    (higher i j 0 p.columns 0 (y n) (y (n + 1)) (y (n + 1)) (omega arith) (omega arith))
    (one_of_rows i j 0 p.columns 0 (y n) (y (n + 1))))

pub grown_fit : (p : Plane) (cells : List ℕ) (cover : List Bool) (i j : ℕ) → 0 < p.across → 0 < p.down
    → Fits p.columns cells cover i j (has i j (part 0 p.columns 0 p.rows)) (grown p cells cover)
unfolding grown
grown_fit p cells cover i j across down =
    subst (λ (bottom : ℕ). Fits p.columns cells cover i j (has i j (part 0 p.columns 0 bottom)) (grown p cells cover))
    (edge_last p.down p.lost_y p.rows down) (rows_fit p cells cover i j (block_count p.down p.lost_y p.rows) across)
