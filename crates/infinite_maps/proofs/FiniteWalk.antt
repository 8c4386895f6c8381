-- The walk that makes a tree finite, member by member; and what a refusal says.
use Rattle.std.proofs.Common.{◌≡◌, ℕ, List, [], ◌∷◌, ◌++◌, map, Bool, true, false, true≢false, Less, Greater, nat_cmp, string_bytes, refl, sym, ap}
use Rattle.std.proofs.Common.{◌∙◌}
use Rattle.std.specs.Prelude.{◌&&◌, ◌||◌, codes, ℤ, pos, Option, Some, None, Result, Ok, Err, IfErr, option_and_then, if◌then◌else◌}
use Rattle.std.specs.List.Sorted.{IsStrictlySortedBy}
use Rattle.std.specs.List.{AllByRecursion}
use Rattle.std.specs.Map.{keys_of}
use Rattle.std.specs.String.{string_cmp}
use Rattle.std.specs.Str.{bytes_eq}
use Rattle.std.specs.Cmp.Lexicographic.{slice_cmp}
use Rattle.std.specs.Int.{w64, int_wrapping_sub}
use Rattle.std.specs.Ordering.{ordering_reverse}
use Rattle.std.proofs.lemmas.Cmp.{nat_list_cmp_total}
use Rattle.serde_json.specs.Data.{Data, null, boolean, number, string, array, object, Items, no_items, item, Members, no_members, member, put}
use Rattle.serde_json.specs.Find.{as_bool, as_object}
use Rattle.serde_json.specs.View.{view, items_of, members_view}
use Rattle.serde_json.proofs.Views.{Entry, get_member-put}
use Rattle.infinite_maps.specs.declared.plane.Plane.{Plane}
use Rattle.infinite_maps.specs.declared.part.Part.{Part}
use Rattle.infinite_maps.specs.declared.part.Part.TheVariants.{Layers}
use Rattle.infinite_maps.specs.declared.survey.Extent.{Extent}
use Rattle.infinite_maps.specs.declared.fault.Fault.{Fault}
use Rattle.infinite_maps.specs.declared.fault.Fault.TheVariants.{Memory, BadChunk, Overlap, TooLarge, Unlike}
use Rattle.infinite_maps.specs.Infinite.{is_true, is_infinite, infinite_of}
use Rattle.infinite_maps.specs.Sound.{some_layer, items_some_layer, members_some_layer}
use Rattle.infinite_maps.specs.Notes.{mark}
use Rattle.infinite_maps.specs.Survey.{survey_of, box_in, plane_of}
use Rattle.infinite_maps.specs.Finite.{finite, items_finite, members_finite, is_kept, with_member, is_layers, is_memory, is_at_fault, is_blamed}
use Rattle.infinite_maps.specs.Finite.{members_blamed, with_note, with_whole, map_note, corner_of, own_finite, map_on, finite_of, LeadsBack, IsUnlike}
use Rattle.infinite_maps.specs.Finite.{IsNotMade}

pub items_finite-items_of : (p : Plane) (part : Part) (ds : List Data) → items_of (map (finite p part) ds) ≡ items_finite p part (items_of ds)
items_finite-items_of p part [] = refl
items_finite-items_of p part (d ∷ ds) = ap (item (finite p part d)) (items_finite-items_of p part ds)

below_middle : (first : Entry) (es : List Entry) (e : Entry) (more : List Entry)
    → AllByRecursion (λ y. string_cmp first.0 y ≡ Less) (keys_of (es ++ e ∷ more)) → string_cmp first.0 e.0 ≡ Less
below_middle first [] e more h = h.0
below_middle first (x ∷ es) e more h = below_middle first es e more h.1

-- a member that may be left out, behind one that may be
behind : (b first : Bool) (k l : List ℕ) (d e : Data) (rest longer : Members) → slice_cmp nat_cmp k l ≡ Greater → (if b then put k d rest else rest) ≡ longer
    → (if b then put k d (if first then member l e rest else rest) else (if first then member l e rest else rest))
    ≡ (if first then member l e longer else longer)
behind true true k l d e rest longer above is = rw above (ap (member l e) is)
behind true false k l d e rest longer above is = is
behind false true k l d e rest longer above is = ap (member l e) is
behind false false k l d e rest longer above is = is

-- a member whose key is above those before it goes last
pub finite_last : (p : Plane) (part : Part) (done : List Entry) (e : Entry) (more : List Entry) → IsStrictlySortedBy string_cmp (keys_of (done ++ e ∷ more))
    → with_member p part (string_bytes e.0) (view e.1) (members_finite p part (members_view done)) ≡ members_finite p part (members_view (done ++ e ∷ []))
unfolding IsStrictlySortedBy
finite_last p part [] e more h = refl
finite_last p part (first ∷ done) e more h =
    let above : slice_cmp nat_cmp (string_bytes e.0) (string_bytes first.0) ≡ Greater =
    nat_list_cmp_total.antisymm (string_bytes e.0) (string_bytes first.0) ∙ ap ordering_reverse (below_middle first done e more h.0) in
    behind (is_kept part (string_bytes e.0)) (is_kept part (string_bytes first.0)) (string_bytes e.0) (string_bytes first.0) _ _ _ _
    above (finite_last p part done e more h.1)

more_blame : (m l g s : Bool) → (m || (l && s)) ≡ true → (m || (l && (g || s))) ≡ true
more_blame true l g s e = refl
more_blame false true true s e = refl
more_blame false true false s e = e
more_blame false false g s e = e

pub members_blamed_more : (f : Fault) (part : Part) (k : List ℕ) (d : Data) (ms : Members) → members_blamed f part ms ≡ true
    → members_blamed f part (member k d ms) ≡ true
members_blamed_more f part k d ms e =
    more_blame (is_memory f) (is_layers part) (bytes_eq k (codes "layers") && some_layer (is_at_fault f) d)
    (members_some_layer (is_at_fault f) ms) e

-- a test that holds of no layer
neither : (a b : Bool) → a ≡ false → b ≡ false → (a || b) ≡ false
neither true b x y = x
neither false b x y = y

not_also : (a b : Bool) → b ≡ false → (a && b) ≡ false
not_also true b y = y
not_also false b y = refl

mutual
  no_layer : (test : Members → Bool) → ((ms : Members) → test ms ≡ false) → (d : Data) → some_layer test d ≡ false
  no_layer test h null = refl
  no_layer test h (boolean b) = refl
  no_layer test h (number n) = refl
  no_layer test h (string s) = refl
  no_layer test h (array ds) = no_layer_in test h ds
  no_layer test h (object ms) = neither (test ms) _ (h ms) (no_layer_of test h ms)

  no_layer_in : (test : Members → Bool) → ((ms : Members) → test ms ≡ false) → (ds : Items) → items_some_layer test ds ≡ false
  no_layer_in test h no_items = refl
  no_layer_in test h (item d ds) = neither _ _ (no_layer test h d) (no_layer_in test h ds)

  no_layer_of : (test : Members → Bool) → ((ms : Members) → test ms ≡ false) → (ms : Members) → members_some_layer test ms ≡ false
  no_layer_of test h no_members = refl
  no_layer_of test h (member k d ms) = neither _ _ (not_also (bytes_eq k (codes "layers")) _ (no_layer test h d)) (no_layer_of test h ms)

blamed_map : (f : Fault) (d : Data) → is_blamed f Layers d ≡ true → IsNotMade f d
blamed_map Memory d e = tt
blamed_map BadChunk d e = e
blamed_map Overlap d e = e
blamed_map TooLarge d e = absurd (true≢false (sym e ∙ no_layer (is_at_fault TooLarge) (λ _. refl) d))
blamed_map Unlike d e = absurd (true≢false (sym e ∙ no_layer (is_at_fault Unlike) (λ _. refl) d))

pub blamed_object : (f : Fault) (d : Data) (ms : Members) → d ≡ object ms → is_blamed f Layers (object ms) ≡ true → IsNotMade f d
blamed_object f d ms is e = blamed_map f d (ap (is_blamed f Layers) is ∙ e)

pub on_fault : {A : Type 0} (r : Result A Fault) (P Q : Fault → Type 0) → ((f : Fault) → P f → Q f) → IfErr r P → IfErr r Q
on_fault (Ok x) P Q h e = tt
on_fault (Err f) P Q h e = h f e

with_note-finite : (d : Data) (p : Plane) (columns rows : ℤ) (ms : Members) → is_infinite (object (with_note d p columns rows ms)) ≡ false
with_note-finite d p columns rows ms = ap (λ (o : Option Data). is_true (option_and_then as_bool o)) (get_member-put (codes "infinite") (boolean false)
    (with_whole (codes "height") rows (with_whole (codes "width") columns (put mark (map_note d p) ms))))

map_on-finite : (d : Data) (ms : Members) (a : Extent) (o : Option Plane) → is_infinite (object (map_on d ms a o)) ≡ false
map_on-finite d ms a None = with_note-finite d (corner_of a) (int_wrapping_sub w64 a.right a.left) (int_wrapping_sub w64 a.bottom a.top) ms
map_on-finite d ms a (Some p) = with_note-finite d p (pos p.columns) (pos p.rows) (own_finite p Layers ms (members_finite p Layers ms))

pub finite_of-finite : (d : Data) → is_infinite (finite_of d) ≡ false
finite_of-finite null = refl
finite_of-finite (boolean b) = refl
finite_of-finite (number n) = refl
finite_of-finite (string s) = refl
finite_of-finite (array ds) = refl
finite_of-finite (object ms) = map_on-finite (object ms) ms (box_in ms) (plane_of (object ms) (box_in ms) (survey_of ms).layers)

pub unlike_by : (f d : Data) → f ≡ finite_of d → (LeadsBack f d → ⊥) → IsUnlike d
unlike_by f d is h back = h (ap is_infinite is ∙ finite_of-finite d, ap infinite_of is ∙ back)

pub infinite_object : (d : Data) → is_infinite d ≡ true → as_object d ≡ None → ⊥
infinite_object null e h = true≢false (sym e)
infinite_object (boolean b) e h = true≢false (sym e)
infinite_object (number n) e h = true≢false (sym e)
infinite_object (string s) e h = true≢false (sym e)
infinite_object (array ds) e h = true≢false (sym e)
infinite_object (object ms) e h = cc
