-- Old and new rectangles have each place at most once, and each whose cell is not 0.
use Rattle.std.proofs.Common.{◌≡◌, ℕ, zero, suc, ◌+◌, ◌*◌, ◌<◌, ◌≤◌, inl, inr, List, [], ◌∷◌, ◌++◌, Bool, true, false, get_or, replicate, refl, ap, ◌∙◌, arith}
use Rattle.std.specs.Prelude.{nat_lt, if◌then◌else◌}
use Rattle.std.proofs.lemmas.Bool.Decides.{nat_tests}
use Rattle.std.proofs.lemmas.Nat.{mul-add-lt}
use Rattle.infinite_maps.specs.declared.rectangle.Rectangle.{Rectangle}
use Rattle.infinite_maps.specs.declared.plane.Plane.{Plane}
use Rattle.infinite_maps.specs.Coverage.{cover_of, are_apart}
use Rattle.infinite_maps.specs.Growth.{is_new, grown}
use Rattle.infinite_maps.specs.Wide.{size}
use Rattle.infinite_maps.specs.Layers.{new_rectangles}
use Rattle.infinite_maps.specs.Placed.{has, times}
use Rattle.infinite_maps.proofs.Places.{Has, facts, answered, not_both, of_facts, times-append}
use Rattle.infinite_maps.proofs.Covers.{at, AllWithin, cover_has, cover_has_not, apart_once}
use Rattle.infinite_maps.proofs.Blocks.{part, grown_fit}

within_has : (columns rows i j : ℕ) (rs : List Rectangle) → AllWithin columns rows rs → 0 < times i j rs → has i j (part 0 columns 0 rows) ≡ true
within_has columns rows i j [] within h = absurd (omega arith)
within_has columns rows i j (r ∷ rs) within h = elim (answered (has i j r)) [
  | inl e ↦
      let f = facts i j r e in
      let right : r.right ≤ columns = within.0 in
      let bottom : r.bottom ≤ rows = within.1 in
      of_facts i j (part 0 columns 0 rows) (record {
        from_left = omega arith;
        to_right = omega (arith, f.to_right);
        from_top = omega arith;
        to_bottom = omega (arith, f.to_bottom);
      })
  | inr e ↦ within_has columns rows i j rs within.2 (omega (arith, h, ap (λ (b : Bool). (if b then 1 else 0) + times i j rs) e))
]

nothing_covered : (n m : ℕ) → m < n → at (replicate n false) m ≡ false
nothing_covered zero m h = absurd (omega arith)
nothing_covered (suc n) zero h = refl
nothing_covered (suc n) (suc m) h = nothing_covered n m (omega arith)

-- what old and new rectangles of a plane are at a place
pub record Stands (p : Plane) (cells : List ℕ) (rs : List Rectangle) (i j : ℕ) : Type 0 where
  pub once : times i j rs ≤ 1
  pub inside : 0 < times i j rs → (i < p.columns) × (j < p.rows)
  pub all : i < p.columns → j < p.rows → 0 < get_or cells (j * p.columns + i) 0 → 0 < times i j rs

is_new_of : (cells : List ℕ) (cover : List Bool) (n : ℕ) → 0 < get_or cells n 0 → at cover n ≡ false → is_new cells cover n ≡ true
is_new_of cells cover n more free =
    let yes : nat_lt 0 (get_or cells n 0) ≡ true = grind (arith, nat_tests) in
    rw (yes, free) refl

pub all_stand : (p : Plane) (cells : List ℕ) (olds : List Rectangle) (i j : ℕ) → 0 < p.across → 0 < p.down
    → are_apart p.columns (replicate (size p) false) olds ≡ true → AllWithin p.columns p.rows olds
    → Stands p cells (olds ++ new_rectangles p cells olds) i j
all_stand p cells olds i j across down apart within =
    let cover = cover_of p.columns (size p) olds in
    let news = grown p cells cover in
    let here = has i j (part 0 p.columns 0 p.rows) in
    let fit = grown_fit p cells cover i j across down in
    let old = apart_once p.columns i j olds (replicate (size p) false) apart in
    let sum = times-append i j olds news in
    let m = times i j olds in
    let n = times i j news in
    let n_old : 0 < n → m ≡ 0 = λ q. elim (answered (nat_lt 0 m)) [
      | inl e ↦
          let some : 0 < m = grind (arith, nat_tests) in
          absurd (not_both _ (cover_has p.columns i j olds (replicate (size p) false) some) (fit.free q))
      | inr e ↦ grind (arith, nat_tests)
    ] in
    let sides : here ≡ true → (i < p.columns) × (j < p.rows) = λ e. let f = facts i j (part 0 p.columns 0 p.rows) e in (f.to_right, f.to_bottom) in
    record {
      once = elim (answered (nat_lt 0 n)) [
        | inl e ↦ let some : 0 < n = grind (arith, nat_tests) in let none = n_old some in omega (arith, none, sum, fit.at_most)
        | inr e ↦ let none : n ≡ 0 = grind (arith, nat_tests) in omega (arith, none, sum, old)
      ];
      inside = λ q. elim (answered (nat_lt 0 n)) [
        | inl e ↦ let some : 0 < n = grind (arith, nat_tests) in sides (fit.inside some)
        | inr e ↦
            let none : n ≡ 0 = grind (arith, nat_tests) in
            let some : 0 < m = omega (arith, none, sum, q) in
            sides (within_has p.columns p.rows i j olds within some)
      ];
      all = λ x y more. elim (answered (nat_lt 0 m)) [
        | inl e ↦ let some : 0 < m = grind (arith, nat_tests) in omega (arith, some, sum)
        | inr e ↦
            let none : m ≡ 0 = grind (arith, nat_tests) in
            let low : j * p.columns + i < size p = omega (arith, mul-add-lt j p.columns i p.rows y x) in
            let free : at cover (j * p.columns + i) ≡ false =
            cover_has_not p.columns p.rows i j olds (replicate (size p) false) within x none ∙ nothing_covered (size p) (j * p.columns + i) low in
            let on : Has i j (part 0 p.columns 0 p.rows) = record { from_left = omega arith; to_right = x; from_top = omega arith; to_bottom = y } in
            let some = fit.filled (of_facts i j (part 0 p.columns 0 p.rows) on)
            (is_new_of cells cover (j * p.columns + i) more free) in
            omega (arith, some, sum)
      ];
    }
