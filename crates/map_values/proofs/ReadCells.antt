-- Cells read one after the other, as a loop does.
use Rattle.std.proofs.Common.{◌≡◌, ℕ, List, [], ◌∷◌, ◌++◌, Option, Some, None, option_map, refl, sym, ap, ◌∙◌, append_assoc}
use Rattle.std.proofs.Common.{◌+◌, ◌<◌, ◌≤◌, length, get_or, drop}
use Rattle.std.proofs.lemmas.List.{append-nil, at_drop_more, drop_all}
use Rattle.serde_json.specs.View.{view, items_view}
use Rattle.serde_json.specs.declared.value.Value.{Value}
use Rattle.serde_json.specs.Data.{item}
use Rattle.map_values.specs.Cells.{cell_of, cells_of}

cells_prefix : List ℕ → Option (List ℕ) → Option (List ℕ)
cells_prefix prefix o = option_map (λ cs. prefix ++ cs) o

pub no_prefix : (prefix : List ℕ) (o : Option (List ℕ)) → prefix ≡ [] → option_map (λ cs. prefix ++ cs) o ≡ o
no_prefix prefix None e = refl
no_prefix prefix (Some cs) e = rw e refl

prefix_cell : (prefix : List ℕ) (k : ℕ) (o : Option (List ℕ))
    → option_map (λ cs. prefix ++ cs) (option_map (λ cs. k ∷ cs) o) ≡ option_map (λ cs. (prefix ++ k ∷ []) ++ cs) o
prefix_cell prefix k None = refl
prefix_cell prefix k (Some cs) = ap (λ (ys : List ℕ). Some ys) (sym (append_assoc prefix (k ∷ []) cs))

module _ (vs : List Value) (i : ℕ) (v : Value) (lt : i < length vs) (is : v ≡ get_or vs i v) where
  here : cells_of (items_view (drop i vs)) ≡ cells_of (item (view v) (items_view (drop (i + 1) vs)))
  here = at_drop_more (λ (ws : List Value). cells_of (items_view ws)) vs i v lt
      ∙ ap (λ (w : Value). cells_of (item (view w) (items_view (drop (i + 1) vs)))) (sym is)

  pub one_more_cell : (prefix : List ℕ) (k : ℕ) → cell_of (view v) ≡ Some k
      → option_map (λ cs. prefix ++ cs) (cells_of (items_view (drop i vs)))
      ≡ option_map (λ cs. (prefix ++ k ∷ []) ++ cs) (cells_of (items_view (drop (i + 1) vs)))
  one_more_cell prefix k e = rw (here, e) (prefix_cell prefix k (cells_of (items_view (drop (i + 1) vs))))

  pub bad_cell : (prefix : List ℕ) → cell_of (view v) ≡ None → option_map (λ cs. prefix ++ cs) (cells_of (items_view (drop i vs))) ≡ None
  bad_cell prefix e = rw (here, e) refl

pub all_cells : (vs : List Value) (i : ℕ) (prefix : List ℕ) → length vs ≤ i → option_map (λ cs. prefix ++ cs) (cells_of (items_view (drop i vs))) ≡ Some prefix
all_cells vs i prefix le = rw (drop_all i vs le) (ap (λ (ys : List ℕ). Some ys) (append-nil prefix))
