-- The rows of a layer and of those that stand in it.
use Rattle.std.proofs.Common.{◌≡◌, ◌≢◌, ℕ, zero, suc, ◌-◌, List, [], ◌∷◌, Option, Some, None, refl, sym, ap, ◌∙◌, arith}
use Rattle.map_model.specs.declared.parts.Layer.{Layer}
use Rattle.map_model.specs.Groups.{group_of}
use Rattle.map_model.specs.Lists.{or_empty}
use Rattle.map_lists.specs.Rows.{row_of, rows_among, rows_under}

pub rows-no_groups : (groups : ℕ) (parent : Option ℕ) (l : Layer) → groups ≡ 0 → row_of parent l ∷ [] ≡ rows_under groups parent l
unfolding rows_under
rows-no_groups zero parent l z = refl
rows-no_groups (suc groups) parent l z = absurd (omega (arith, z))

pub rows-no_group : (groups : ℕ) (parent : Option ℕ) (l : Layer) → group_of l ≡ None → row_of parent l ∷ [] ≡ rows_under groups parent l
unfolding rows_under
rows-no_group zero parent l g = refl
rows-no_group (suc groups) parent l g = ap (λ o. row_of parent l ∷ rows_among groups (Some l.id) (or_empty o)) (sym g)

pub rows-group : (groups : ℕ) (parent : Option ℕ) (l : Layer) (ks : List Layer) → groups ≢ 0 → group_of l ≡ Some ks
    → row_of parent l ∷ rows_among (groups - 1) (Some l.id) ks ≡ rows_under groups parent l
unfolding rows_under
rows-group zero parent l ks z g = absurd (z refl)
rows-group (suc groups) parent l ks z g =
    let n : suc groups - 1 ≡ groups = omega arith in
    ap (λ k. row_of parent l ∷ rows_among k (Some l.id) ks) n ∙ ap (λ o. row_of parent l ∷ rows_among groups (Some l.id) (or_empty o)) (sym g)
