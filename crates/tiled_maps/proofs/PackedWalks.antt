-- The walks that unpack layers, and pack them.
use Rattle.std.proofs.Common.{◌≡◌, ◌≤◌, ℕ, suc, ◌+◌, min, drop, Bool, true, List, [], ◌∷◌, ◌++◌, length, map, Some, None, codes, refl, sym, ap, ◌∙◌, subst}
use Rattle.std.proofs.Common.{append_assoc, arith}
use Rattle.std.proofs.lemmas.List.{append-nil, map-append, drop_all}
use Rattle.serde_json.specs.Data.{Data, Members, put}
use Rattle.serde_json.specs.Find.{get_member}
use Rattle.serde_json.specs.View.{view, items_of, items_view}
use Rattle.serde_json.specs.declared.value.Value.{Value}
use Rattle.json_members.specs.Members.{without}
use Rattle.tiled_maps.specs.Sources.{array_with, member_with}
use Rattle.tiled_maps.specs.Packed.{compression, note_name, frame_at, is_packed, data_unpacked, chunk_unpacked, void_checked, renamed, layer_unpacked}
use Rattle.tiled_maps.specs.Packed.{layers_unpacked, item_unpacked}
use Rattle.tiled_maps.specs.Packed.{sum_in, sum_below, layer_cells, all_cells}
use Rattle.tiled_maps.specs.Packing.{ItemsRelated, ArrayRelated, SomeRelated, MemberRelated, LayerPacked, LayersPacked, ItemPacked}

layers_unpacked-suc : (n m cells : ℕ) (ms : Members) → n ≡ suc m
    → layers_unpacked n cells ms ≡ layer_unpacked cells (member_with (codes "layers") (array_with (item_unpacked m cells)) ms)
unfolding layers_unpacked
layers_unpacked-suc n m cells ms e = ap (λ k. layers_unpacked k cells ms) e

-- a map, a group or a layer, with what was made of it step by step
pub layers_unpacked-made : (n m cells : ℕ) (ms own ns : Members) → n ≡ suc m → own ≡ member_with (codes "layers") (array_with (item_unpacked m cells)) ms
    → ns ≡ layer_unpacked cells own → ns ≡ layers_unpacked n cells ms
layers_unpacked-made n m cells ms own ns more below layer =
    layer ∙ (ap (layer_unpacked cells) below ∙ sym (layers_unpacked-suc n m cells ms more))

-- a packed layer, the same
pub layer_unpacked-packed : (cells : ℕ) (ms own all ns : Members) → is_packed ms ≡ true → own ≡ data_unpacked cells ms
    → all ≡ member_with (codes "chunks") (array_with chunk_unpacked) own → ns ≡ renamed compression note_name (void_checked all)
    → ns ≡ layer_unpacked cells ms
layer_unpacked-packed cells ms own all ns is first chunks new =
    let b = ap (member_with (codes "chunks") (array_with chunk_unpacked)) first in
    rw is (new ∙ ap (λ m. renamed compression note_name (void_checked m)) (chunks ∙ b))

pub all_cells-suc : (test : Members → Bool) (n m cells : ℕ) (ms : Members) → n ≡ suc m
    → all_cells test n cells ms ≡ layer_cells test cells ms + sum_below (λ own. all_cells test m cells own) ms
unfolding all_cells
all_cells-suc test n m cells ms e = ap (λ k. all_cells test k cells ms) e

-- ---- members that are taken out and put in again
pub member_put : (k : List ℕ) (R : Data → Data → Type 0) (ms left ns : Members) (d e : Data) → Some d ≡ get_member k ms → left ≡ without k ms → R d e
    → ns ≡ put k e left → MemberRelated k R ms ns
member_put k R ms left ns d e is gone r new = (Some e, subst (λ o. SomeRelated R o (Some e)) is r, new ∙ ap (put k e) gone)

pub member_none : (k : List ℕ) (R : Data → Data → Type 0) (ms ns : Members) → None ≡ get_member k ms → ns ≡ without k ms → MemberRelated k R ms ns
member_none k R ms ns is gone = (None, subst (λ o. SomeRelated R o None) is tt, gone)

-- ---- lists of which each value is related to its own
abbrev ListRelated : (Data → Data → Type 0) → List Data → List Data → Type 0
ListRelated R [] [] = Unit {0}
ListRelated R [] (e ∷ es) = ⊥
ListRelated R (d ∷ ds) [] = ⊥
ListRelated R (d ∷ ds) (e ∷ es) = R d e × ListRelated R ds es

ListRelated-more : (R : Data → Data → Type 0) (ds es : List Data) (d e : Data) → ListRelated R ds es → R d e → ListRelated R (ds ++ d ∷ []) (es ++ e ∷ [])
ListRelated-more R [] [] d e h r = (r, tt)
ListRelated-more R [] (x ∷ es) d e h r = absurd h
ListRelated-more R (x ∷ ds) [] d e h r = absurd h
ListRelated-more R (x ∷ ds) (y ∷ es) d e h r = (h.0, ListRelated-more R ds es d e h.1 r)

ItemsRelated-lists : (R : Data → Data → Type 0) (ds es : List Data) → ListRelated R ds es → ItemsRelated R (items_of ds) (items_of es)
ItemsRelated-lists R [] [] h = tt
ItemsRelated-lists R [] (e ∷ es) h = absurd h
ItemsRelated-lists R (d ∷ ds) [] h = absurd h
ItemsRelated-lists R (d ∷ ds) (e ∷ es) h = (h.0, ItemsRelated-lists R ds es h.1)

-- what was made of the values that were passed so far, of all
pub record AreMade (R : Data → Data → Type 0) (all done left : List Value) : Type 0 where
  pub passed : List Data
  pub split : map view all ≡ passed ++ map view left
  pub related : ListRelated R passed (map view done)

pub AreMade-none : (R : Data → Data → Type 0) (all done left : List Value) → done ≡ [] → left ≡ all → AreMade R all done left
AreMade-none R all done left none same = record {
  passed = [];
  split = ap (map view) (sym same);
  related = subst (λ (vs : List Value). ListRelated R [] (map view vs)) (sym none) tt;
}

pub AreMade-pushed : (R : Data → Data → Type 0) (all done left rest : List Value) (new x : Value) → AreMade R all done left → left ≡ x ∷ rest
    → R (view x) (view new) → AreMade R all (done ++ new ∷ []) rest
AreMade-pushed R all done left rest new x made is r = record {
  passed = made.passed ++ view x ∷ [];
  split = made.split ∙ (ap (λ vs. made.passed ++ map view vs) is ∙ sym (append_assoc made.passed (view x ∷ []) (map view rest)));
  related = subst (ListRelated R (made.passed ++ view x ∷ [])) (sym (map-append view done (new ∷ [])))
      (ListRelated-more R made.passed (map view done) (view x) (view new) made.related r);
}

pub AreMade-all : (R : Data → Data → Type 0) (all done left : List Value) → AreMade R all done left → length left ≡ 0
    → ItemsRelated R (items_view all) (items_view done)
AreMade-all R all done [] made none =
    let same : made.passed ≡ map view all = sym (append-nil made.passed) ∙ sym made.split in
    ItemsRelated-lists R (map view all) (map view done) (subst (λ ds. ListRelated R ds (map view done)) same made.related)
AreMade-all R all done (x ∷ xs) made none = absurd (omega arith)

-- ---- a map, a group or a layer
pub LayersPacked-zero : (n : ℕ) (ms : Members) → n ≡ 0 → LayersPacked n ms ms
unfolding LayersPacked
LayersPacked-zero n ms e = subst (λ (k : ℕ). LayersPacked k ms ms) (sym e) refl

pub LayersPacked-suc : (n m : ℕ) (ms own ns : Members) → n ≡ suc m → MemberRelated (codes "layers") (ArrayRelated (ItemPacked m)) ms own
    → LayerPacked (frame_at note_name own) own ns → LayersPacked n ms ns
unfolding LayersPacked
LayersPacked-suc n m ms own ns e below layer = subst (λ (k : ℕ). LayersPacked k ms ns) (sym e) (own, below, layer)

-- ---- sums
-- the sum at the end of a list
pub sum_at_end : (f : Members → ℕ) (vs all : List Value) (at sum : ℕ) → vs ≡ all → length vs ≤ at
    → min (sum + sum_in f (items_view (drop at vs))) 18446744073709551615 ≡ min (sum_in f (items_view vs)) 18446744073709551615
    → sum ≤ 18446744073709551615 → sum ≡ min (sum_in f (items_view all)) 18446744073709551615
sum_at_end f vs all at sum same end h few =
    let none : sum_in f (items_view (drop at vs)) ≡ 0 = ap (λ left. sum_in f (items_view left)) (drop_all at vs end) in
    let e = ap (λ items. sum_in f (items_view items)) same in
    omega (arith, h, none, e, few)
