-- Which cells the runs have.
use Rattle.std.proofs.Common.{◌≡◌, ℕ, zero, suc, ◌+◌, false, ◌&&◌, ◌||◌, nat_eq, List, [], ◌∷◌, refl, ap, ◌∙◌, arith}
use Rattle.std.specs.Prelude.{nat_le, nat_lt}
use Rattle.std.specs.List.{list_any}
use Rattle.std.specs.declared.cmp.Ordering.{Ordering}
use Rattle.std.specs.declared.cmp.Ordering.TheVariants.{Less, Equal, Greater}
use Rattle.std.specs.Ordering.{nat_cmp, eq_by_cmp, ordering_then}
use Rattle.std.specs.FinSet as set
use Rattle.std.proofs.lemmas.Bool.Decides.{nat_tests}
use Rattle.std.proofs.lemmas.List.Folds.{list_any-append}
use Rattle.region.specs.declared.runs.Run.{Run}
use Rattle.region.specs.Cells.{cell_cmp, row_cells, block_cells, cells_of, rectangle, set_of, in_rectangle}
use Rattle.region.specs.Equality.{cell_cmp_total}
use Rattle.region.specs.Runs.{in_run, in_runs}

row_step : (q : ℕ × ℕ) (x y n : ℕ) → (eq_by_cmp cell_cmp q (x, y) || (nat_eq y q.1 && (nat_le (suc x) q.0 && nat_lt q.0 (suc x + n))))
    ≡ (nat_eq y q.1 && (nat_le x q.0 && nat_lt q.0 (x + suc n)))
row_step q x y n = grind (arith, nat_tests)

row_none : (q : ℕ × ℕ) (x y : ℕ) → false ≡ (nat_eq y q.1 && (nat_le x q.0 && nat_lt q.0 (x + 0)))
row_none q x y = grind (arith, nat_tests)

row_has : (q : ℕ × ℕ) (y x n : ℕ) → list_any (eq_by_cmp cell_cmp q) (row_cells y x n) ≡ (nat_eq y q.1 && (nat_le x q.0 && nat_lt q.0 (x + n)))
row_has q y x zero = row_none q x y
row_has q y x (suc n) = ap (λ b. eq_by_cmp cell_cmp q (x, y) || b) (row_has q y (suc x) n) ∙ row_step q x y n

runs_have : (q : ℕ × ℕ) (rs : List Run) → list_any (eq_by_cmp cell_cmp q) (cells_of rs) ≡ in_runs rs q
runs_have q [] = refl
runs_have q (r ∷ rs) =
    list_any-append (eq_by_cmp cell_cmp q) (row_cells r.y r.x r.len) (cells_of rs)
    ∙ ap (λ b. b || list_any (eq_by_cmp cell_cmp q) (cells_of rs)) (row_has q r.y r.x r.len)
    ∙ ap (λ b. in_run r q || b) (runs_have q rs)

-- the set of the runs' cells has the cells that are in the runs
pub contains-set_of : (rs : List Run) (q : ℕ × ℕ) → set.contains (set_of rs) q ≡ in_runs rs q
contains-set_of rs q = set.contains-from_list cell_cmp_total (cells_of rs) q ∙ runs_have q rs

-- ---- rectangles
row_of : (q : ℕ × ℕ) (x y w h : ℕ) → ((nat_eq y q.1 && (nat_le x q.0 && nat_lt q.0 (x + w))) || in_rectangle x (suc y) w h q) ≡ in_rectangle x y w (suc h) q
row_of q x y w h = grind (arith, nat_tests)

no_row : (q : ℕ × ℕ) (x y w : ℕ) → false ≡ in_rectangle x y w 0 q
no_row q x y w = grind (arith, nat_tests)

block_has : (q : ℕ × ℕ) (x y w h : ℕ) → list_any (eq_by_cmp cell_cmp q) (block_cells x y w h) ≡ in_rectangle x y w h q
block_has q x y w zero = no_row q x y w
block_has q x y w (suc h) =
    list_any-append (eq_by_cmp cell_cmp q) (row_cells y x w) (block_cells x (suc y) w h)
    ∙ ap (λ b. b || list_any (eq_by_cmp cell_cmp q) (block_cells x (suc y) w h)) (row_has q y x w)
    ∙ ap (λ b. (nat_eq y q.1 && (nat_le x q.0 && nat_lt q.0 (x + w))) || b) (block_has q x (suc y) w h) ∙ row_of q x y w h

-- a rectangle has the cells that lie in it
pub contains-rectangle : (x y w h : ℕ) (q : ℕ × ℕ) → set.contains (rectangle x y w h) q ≡ in_rectangle x y w h q
contains-rectangle x y w h q = set.contains-from_list cell_cmp_total (block_cells x y w h) q ∙ block_has q x y w h

-- a rectangle of no columns has no cell
pub in_rectangle-none : (x y w h : ℕ) (q : ℕ × ℕ) → w ≡ 0 → false ≡ in_rectangle x y w h q
in_rectangle-none x y w h q e = grind (arith, nat_tests)

ordered-or : (a b : ℕ) → nat_cmp a b ≡ Equal → a ≡ b
ordered-or a b e = set.nat_cmp-IsAntisymmetric a b e

pub cell_cmp-same : set.IsAntisymmetric cell_cmp
cell_cmp-same p q e = by_row (nat_cmp p.1 q.1) refl e
  where
    by_row : (o : Ordering) → nat_cmp p.1 q.1 ≡ o → ordering_then o (nat_cmp p.0 q.0) ≡ Equal → p ≡ q
    by_row Less h k = cc
    by_row Greater h k = cc
    by_row Equal h k = λ i. (ordered-or p.0 q.0 k i, ordered-or p.1 q.1 h i)
