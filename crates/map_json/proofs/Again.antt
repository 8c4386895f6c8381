-- What is written is read again: scalars, lists and cells.
use Rattle.std.proofs.Common.{◌≡◌, ℕ, suc, ◌*◌, ◌^◌, ◌<◌, ◌≤◌, true, List, [], ◌∷◌, length, Some, Result, Ok, refl, ap, arith}
use Rattle.std.specs.Prelude.{nat_le}
use Rattle.map_model.specs.Lists.{Each}
use Rattle.std.proofs.lemmas.Bool.{le-leb, lt-ltb}
use Rattle.std.proofs.lemmas.Nat.{from_le_bytes-to_le_bytes_4}
use Rattle.serde_json.specs.Data.{Data, array}
use Rattle.serde_json.specs.Events.{items_len}
use Rattle.refusals.specs.declared.map_refusal.MapRefusal.{MapRefusal}
use Rattle.map_values.specs.Scalars.{whole_at}
use Rattle.map_json.specs.Elements.{each, elements_at}
use Rattle.map_values.specs.Cells.{cell_of, cells_of, words_of, bytes_of}
use Rattle.map_values.specs.Arrays.{items_by, whole_tree}

pub whole_again : (low high n : ℕ) → low ≤ n → n ≤ high → whole_at low high (whole_tree n) ≡ Ok n
unfolding whole_at
whole_again low high n a b = rw (le-leb low n a, le-leb n high b) refl

pub items_len-items_by : {A : Type 0} (tree : A → Data) (xs : List A) → items_len (items_by tree xs) ≡ length xs
items_len-items_by tree [] = refl
items_len-items_by tree (x ∷ xs) = ap suc (items_len-items_by tree xs)

module _ {A : Type 0} (tree : A → Data) (read : Data → Result A MapRefusal) where
  pub each_again : (xs : List A) → Each (λ x. read (tree x) ≡ Ok x) xs → each read (items_by tree xs) ≡ Ok xs
  each_again [] h = refl
  each_again (x ∷ xs) h = rw (h.0, each_again xs h.1) refl

  pub elements_again : (most : ℕ) (xs : List A) → length xs ≤ most → Each (λ x. read (tree x) ≡ Ok x) xs
      → elements_at most read (array (items_by tree xs)) ≡ Ok xs
  elements_again most xs few h =
      let fits : nat_le (items_len (items_by tree xs)) most ≡ true = rw (items_len-items_by tree xs) (le-leb (length xs) most few) in
      rw fits (each_again xs h)

cell_again : (c : ℕ) → c < 2 ^ 32 → cell_of (whole_tree c) ≡ Some c
unfolding cell_of
cell_again c h = rw (lt-ltb c (2 ^ 32) h) refl

pub cells_again : (cells : List ℕ) → Each (λ c. c < 2 ^ 32) cells → cells_of (items_by whole_tree cells) ≡ Some cells
cells_again [] h = refl
cells_again (c ∷ cs) h = rw (cell_again c h.0, cells_again cs h.1) refl

pub length-bytes_of : (cells : List ℕ) → length (bytes_of cells) ≡ 4 * length cells
length-bytes_of [] = refl
length-bytes_of (c ∷ cs) = let more = length-bytes_of cs in omega arith

pub words_again : (cells : List ℕ) → Each (λ c. c < 2 ^ 32) cells → words_of (bytes_of cells) ≡ cells
unfolding words_of
words_again [] h = refl
words_again (c ∷ cs) h = rw (from_le_bytes-to_le_bytes_4 c h.0, words_again cs h.1) refl
