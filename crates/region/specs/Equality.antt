-- When two sets of cells are the same.
use Rattle.std.specs.Prelude.{◌≡◌, Bool, true, false, ◌&&◌}
use Rattle.std.proofs.Common.{refl, ap, ◌∙◌}
use Rattle.std.specs.FinSet as set
use Rattle.std.specs.Cmp.{IsTotalOrder, IsPartialEquivalence, IsEquivalence, equiv, first_so, second_so, nat_cmp_total, then_total, on_total}
use Rattle.region.specs.Cells.{cell_cmp}

-- whether two sets have the same cells
abbrev pub same_cells : set.FinSet cell_cmp → set.FinSet cell_cmp → Bool
same_cells s t = set.is_subset s t && set.is_subset t s

pub cell_cmp_total : IsTotalOrder cell_cmp
cell_cmp_total = then_total (on_total (λ q. q.1) nat_cmp_total) (on_total (λ q. q.0) nat_cmp_total)

both_true : (a b : Bool) → a ≡ true → b ≡ true → (a && b) ≡ true
both_true a b h k = ap (λ x. x && b) h ∙ k

swapped : (a b : Bool) → (a && b) ≡ (b && a)
swapped true true = refl
swapped true false = refl
swapped false true = refl
swapped false false = refl

subset-trans : (s t u : set.FinSet cell_cmp) → set.is_subset s t ≡ true → set.is_subset t u ≡ true → set.is_subset s u ≡ true
subset-trans s t u h k =
    set.contains-is_subset cell_cmp_total s u (λ q one. set.is_subset-contains cell_cmp_total t u k q (set.is_subset-contains cell_cmp_total s t h q one))

subset-itself : (s : set.FinSet cell_cmp) → set.is_subset s s ≡ true
subset-itself s = set.contains-is_subset cell_cmp_total s s (λ q one. one)

same_trans : (s t u : set.FinSet cell_cmp) → same_cells s t ≡ true → same_cells t u ≡ true → same_cells s u ≡ true
same_trans s t u h k =
    both_true (set.is_subset s u) (set.is_subset u s)
    (subset-trans s t u (first_so (set.is_subset s t) (set.is_subset t s) h) (first_so (set.is_subset t u) (set.is_subset u t) k))
    (subset-trans u t s (second_so (set.is_subset t u) (set.is_subset u t) k) (second_so (set.is_subset s t) (set.is_subset t s) h))

pub same_cells-partial_laws : IsPartialEquivalence same_cells
same_cells-partial_laws = record { symm = λ s t. swapped (set.is_subset s t) (set.is_subset t s); trans = same_trans }

pub same_cells-laws : IsEquivalence same_cells
same_cells-laws = equiv same_cells-partial_laws (λ s. both_true (set.is_subset s s) (set.is_subset s s) (subset-itself s) (subset-itself s))
