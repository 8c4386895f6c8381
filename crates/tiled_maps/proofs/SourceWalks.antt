-- A loop that takes values out of a list, and pushes what a function makes of each.
use Rattle.std.proofs.Common.{◌≡◌, ℕ, suc, List, [], ◌∷◌, ◌++◌, length, map, codes, Option, refl, sym, ap, ◌∙◌, append_assoc, arith}
use Rattle.std.proofs.lemmas.List.{append-nil, map-append}
use Rattle.serde_json.specs.Data.{Data, item, Members}
use Rattle.serde_json.specs.View.{view, items_of, items_view}
use Rattle.serde_json.specs.declared.value.Value.{Value}
use Rattle.tiled_maps.specs.Sources.{items_with, or_else, member_with, array_with}
use Rattle.tiled_maps.specs.Formats.{written_as}
use Rattle.tiled_maps.specs.Alike.{layer_as, layers_like, compression_by}

abbrev pub mapped : (Data → Data) → List Value → List Data
mapped f vs = map (λ v. f (view v)) vs

-- what was made of the values so far, and those that are left, are all
pub record IsMade (f : Data → Data) (all done left : List Value) : Type 0 where
  pub so_far : map view done ++ mapped f left ≡ mapped f all

pub IsMade-none : (f : Data → Data) (all done left : List Value) → done ≡ [] → left ≡ all → IsMade f all done left
IsMade-none f all done left none same = record { so_far = ap (λ vs. map view vs ++ mapped f left) none ∙ ap (mapped f) same }

pub IsMade-pushed : (f : Data → Data) (all done left rest : List Value) (new x : Value) → IsMade f all done left → left ≡ x ∷ rest
    → view new ≡ f (view x) → IsMade f all (done ++ new ∷ []) rest
IsMade-pushed f all done left rest new x made is same = record {
  so_far = ap (λ ds. ds ++ mapped f rest) (map-append view done (new ∷ []))
      ∙ (append_assoc (map view done) (view new ∷ []) (mapped f rest)
      ∙ (ap (λ d. map view done ++ d ∷ mapped f rest) same ∙ (ap (λ vs. map view done ++ mapped f vs) (sym is) ∙ made.so_far)));
}

items_with-mapped : (f : Data → Data) (vs : List Value) → items_of (mapped f vs) ≡ items_with f (items_view vs)
items_with-mapped f [] = refl
items_with-mapped f (v ∷ vs) = ap (item (f (view v))) (items_with-mapped f vs)

pub IsMade-all : (f : Data → Data) (all done left : List Value) → IsMade f all done left → length left ≡ 0
    → items_view done ≡ items_with f (items_view all)
IsMade-all f all done [] made none = ap items_of (sym (append-nil (map view done)) ∙ made.so_far) ∙ items_with-mapped f all
IsMade-all f all done (x ∷ xs) made none = absurd (omega arith)

layers_like-suc : (n m : ℕ) (first olds : Option Members) (ms : Members) → n ≡ suc m
    → layers_like n first olds ms
    ≡ written_as (or_else olds first) (compression_by olds (member_with (codes "layers") (array_with (layer_as m first olds)) ms))
unfolding layers_like
layers_like-suc n m first olds ms e = ap (λ k. layers_like k first olds ms) e

-- what was made of a map, a group or a layer, step by step
pub layers_like-made : (n m : ℕ) (first olds other : Option Members) (ms below own ns : Members) → n ≡ suc m
    → below ≡ member_with (codes "layers") (array_with (layer_as m first olds)) ms → own ≡ compression_by olds below → other ≡ or_else olds first
    → ns ≡ written_as other own → ns ≡ layers_like n first olds ms
layers_like-made n m first olds other ms below own ns more layers compression like new =
    let so_far : own ≡ compression_by olds (member_with (codes "layers") (array_with (layer_as m first olds)) ms)
    = compression ∙ ap (compression_by olds) layers in
    new ∙ (ap (λ o. written_as o own) like ∙ (ap (written_as (or_else olds first)) so_far ∙ sym (layers_like-suc n m first olds ms more)))
