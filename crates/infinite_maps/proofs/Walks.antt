-- The walk over a tree, beside lists of values and of members.
use Rattle.std.proofs.Math.Seq.{take-nil}
use Rattle.std.proofs.Common.{◌≡◌, ℕ, zero, suc, ◌≤◌, take, List, [], ◌∷◌, map, length, Ordering, Less, Equal, Greater, nat_cmp, refl, sym, ap, arith}
use Rattle.std.specs.Cmp.Lexicographic.{slice_cmp}
use Rattle.std.specs.Ordering.{match_ordering}
use Rattle.serde_json.specs.Data.{Data, item, Members, no_members, member, put}
use Rattle.serde_json.specs.View.{view, items_of}
use Rattle.serde_json.specs.declared.value.Value.{Value}
use Rattle.infinite_maps.specs.declared.plane.Plane.{Plane}
use Rattle.infinite_maps.specs.declared.part.Part.{Part}
use Rattle.infinite_maps.specs.Infinite.{below, spread, items_spread, members_spread}
use Rattle.infinite_maps.specs.Margins.{each_item}
use Rattle.json_members.proofs.MembersLemmas.{same_name}

spread_put_at : (o : Ordering) (p : Plane) (part : Part) (k l : List ℕ) (d e : Data) (ms : Members) → slice_cmp nat_cmp k l ≡ o
    → members_spread p part (put k d ms) ≡ put k (spread p (below part k) d) (members_spread p part ms)
    → members_spread p part (match_ordering o (member k d (member l e ms)) (member l d ms) (member l e (put k d ms)))
    ≡ match_ordering o (member k (spread p (below part k) d) (member l (spread p (below part l) e) (members_spread p part ms)))
    (member l (spread p (below part k) d) (members_spread p part ms))
    (member l (spread p (below part l) e) (put k (spread p (below part k) d) (members_spread p part ms)))
spread_put_at Less p part k l d e ms is later = refl
spread_put_at Equal p part k l d e ms is later = ap (λ n. member l (spread p (below part n) d) (members_spread p part ms)) (sym (same_name k l is))
spread_put_at Greater p part k l d e ms is later = ap (member l (spread p (below part l) e)) later

pub members_spread-put : (p : Plane) (part : Part) (k : List ℕ) (d : Data) (ms : Members)
    → members_spread p part (put k d ms) ≡ put k (spread p (below part k) d) (members_spread p part ms)
members_spread-put p part k d no_members = refl
members_spread-put p part k d (member l e ms) = spread_put_at (slice_cmp nat_cmp k l) p part k l d e ms refl (members_spread-put p part k d ms)

pub items_spread-items_of : (p : Plane) (part : Part) (ds : List Data) → items_of (map (spread p part) ds) ≡ items_spread p part (items_of ds)
items_spread-items_of p part [] = refl
items_spread-items_of p part (d ∷ ds) = ap (item (spread p part d)) (items_spread-items_of p part ds)

pub each_item-items_of : (f : Data → Data) (ds : List Data) → items_of (map f ds) ≡ each_item f (items_of ds)
each_item-items_of f [] = refl
each_item-items_of f (d ∷ ds) = ap (item (f d)) (each_item-items_of f ds)

-- a loop over all values
pub map_whole : {A : Type 0} (f : Data → A) (vs : List Value) (n : ℕ) → length vs ≤ n → map (λ v. f (view v)) (take n vs) ≡ map f (map view vs)
map_whole f [] n h = ap (map (λ v. f (view v))) (take-nil n)
map_whole f (v ∷ vs) zero h = absurd (omega arith)
map_whole f (v ∷ vs) (suc n) h = ap (λ xs. f (view v) ∷ xs) (map_whole f vs n (omega arith))
