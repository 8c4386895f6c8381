-- Trees set aside with notes of objects that are saved elsewhere; and those of objects that are saved where they stand.
use Rattle.std.proofs.Common.{◌≡◌, List, [], ◌∷◌, map, ℕ, nat_cmp, Ordering, Less, Equal, Greater, refl, sym, ap}
use Rattle.std.specs.Cmp.Lexicographic.{slice_cmp}
use Rattle.std.specs.Ordering.{match_ordering}
use Rattle.serde_json.specs.Data.{Data, null, boolean, number, string, array, object, Items, no_items, item, Members, no_members, member, put}
use Rattle.serde_json.specs.View.{items_of}
use Rattle.json_members.proofs.MembersLemmas.{same_name}
use Rattle.fractions.specs.declared.lines.Moved.{Moved}
use Rattle.fractions.specs.declared.place.Place.{Place}
use Rattle.fractions.specs.declared.place.Place.TheVariants.{Map, Layer, Object, Coordinate, Version, Elsewhere}
use Rattle.fractions.specs.Places.{below, inside}
use Rattle.fractions.specs.Aside.{aside, items_aside, members_aside, notes_of, with_notes}
use Rattle.fractions.specs.Lines.{items_moved, members_moved, moved_aside, moved_notes, unmoved}

-- ---- the walks
moved_put_at : (o : Ordering) (m : Moved) (p : Place) (k l : List ℕ) (d e : Data) (ms : Members) → slice_cmp nat_cmp k l ≡ o
    → members_moved m p (put k d ms) ≡ put k (moved_aside m (below p k) d) (members_moved m p ms)
    → members_moved m p (match_ordering o (member k d (member l e ms)) (member l d ms) (member l e (put k d ms)))
    ≡ match_ordering o (member k (moved_aside m (below p k) d) (member l (moved_aside m (below p l) e) (members_moved m p ms)))
    (member l (moved_aside m (below p k) d) (members_moved m p ms))
    (member l (moved_aside m (below p l) e) (put k (moved_aside m (below p k) d) (members_moved m p ms)))
moved_put_at Less m p k l d e ms is later = refl
moved_put_at Equal m p k l d e ms is later = ap (λ n. member l (moved_aside m (below p n) d) (members_moved m p ms)) (sym (same_name k l is))
moved_put_at Greater m p k l d e ms is later = ap (member l (moved_aside m (below p l) e)) later

pub members_moved-put : (m : Moved) (p : Place) (k : List ℕ) (d : Data) (ms : Members)
    → members_moved m p (put k d ms) ≡ put k (moved_aside m (below p k) d) (members_moved m p ms)
members_moved-put m p k d no_members = refl
members_moved-put m p k d (member l e ms) = moved_put_at (slice_cmp nat_cmp k l) m p k l d e ms refl (members_moved-put m p k d ms)

pub items_moved-items_of : (m : Moved) (p : Place) (ds : List Data) → items_of (map (moved_aside m p) ds) ≡ items_moved m p (items_of ds)
items_moved-items_of m p [] = refl
items_moved-items_of m p (d ∷ ds) = ap (item (moved_aside m p d)) (items_moved-items_of m p ds)

-- ---- objects that are saved where they stand
-- their notes are those of their own numbers
pub notes_unmoved : (p : Place) (ms : Members) → moved_notes unmoved p ms ≡ notes_of p ms
notes_unmoved Map ms = refl
notes_unmoved Layer ms = refl
notes_unmoved Object ms = refl
notes_unmoved Coordinate ms = refl
notes_unmoved Version ms = refl
notes_unmoved Elsewhere ms = refl

mutual
  pub aside_unmoved : (p : Place) (d : Data) → moved_aside unmoved p d ≡ aside p d
  aside_unmoved p null = refl
  aside_unmoved p (boolean b) = refl
  aside_unmoved p (number n) = refl
  aside_unmoved p (string s) = refl
  aside_unmoved p (array ds) = ap array (items_unmoved (inside p) ds)
  aside_unmoved p (object ms) = λ i. object (with_notes (notes_unmoved p ms i) (members_unmoved p ms i))

  items_unmoved : (p : Place) (ds : Items) → items_moved unmoved p ds ≡ items_aside p ds
  items_unmoved p no_items = refl
  items_unmoved p (item d ds) = λ i. item (aside_unmoved p d i) (items_unmoved p ds i)

  pub members_unmoved : (p : Place) (ms : Members) → members_moved unmoved p ms ≡ members_aside p ms
  members_unmoved p no_members = refl
  members_unmoved p (member k d ms) = λ i. member k (aside_unmoved (below p k) d i) (members_unmoved p ms i)
