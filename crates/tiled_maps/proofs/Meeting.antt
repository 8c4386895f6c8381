-- Setting fractions aside and making a map finite do not meet: neither changes what the other looks for.
use Rattle.std.proofs.Common.{◌≡◌, ℕ, List, codes, false, Option, Some, None, option_map, Ordering, Less, Equal, Greater, nat_cmp, Float, refl, sym, ap, ◌∙◌}
use Rattle.std.specs.Prelude.{option_and_then, unwrap_or}
use Rattle.std.specs.Cmp.Lexicographic.{slice_cmp}
use Rattle.std.specs.Ordering.{match_ordering}
use Rattle.serde_json.specs.Data.{unsigned, negative, float, Data, null, boolean, number, string, array, object, Members, no_members, member}
use Rattle.serde_json.specs.Find.{get, get_member, as_bool}
use Rattle.infinite_maps.specs.Infinite.{is_true, is_infinite, infinite_of, map_by}
use Rattle.fractions.specs.declared.place.Place.{Place}
use Rattle.fractions.specs.declared.place.Place.TheVariants.{Map, Layer, Object, Coordinate, Version, Elsewhere}
use Rattle.json_trees.specs.Names.{has_name}
use Rattle.fractions.specs.Places.{below}
use Rattle.fractions.specs.Aside.{reserved_name, stand_in, aside, members_aside, set_aside_of}
use Rattle.fractions.specs.Back.{back}
use Rattle.tiled_maps.specs.Trees.{put_back_of}
use Rattle.json_members.proofs.MembersLemmas.{same_name}
use Rattle.fractions.proofs.ReadTrees.{IsReadTree}
use Rattle.fractions.proofs.Law.{absent, back-set_aside_of}

-- ---- a member by its name
get_aside_at : (o : Ordering) (p : Place) (k l : List ℕ) (x y : Option Data) (e : Data) → slice_cmp nat_cmp k l ≡ o
    → x ≡ option_map (aside (below p k)) y
    → match_ordering o x (Some (aside (below p l) e)) x ≡ option_map (aside (below p k)) (match_ordering o y (Some e) y)
get_aside_at Less p k l x y e is h = h
get_aside_at Equal p k l x y e is h = ap (λ n. Some (aside (below p n) e)) (sym (same_name k l is))
get_aside_at Greater p k l x y e is h = h

get_member-members_aside : (p : Place) (k : List ℕ) (ms : Members) → get_member k (members_aside p ms) ≡ option_map (aside (below p k)) (get_member k ms)
get_member-members_aside p k no_members = refl
get_member-members_aside p k (member l e ms) = get_aside_at (slice_cmp nat_cmp k l) p k l _ _ e refl (get_member-members_aside p k ms)

-- ---- whether a map is infinite
no_truth : (x : Float) → as_bool (stand_in x) ≡ None
unfolding stand_in
no_truth x = refl

float_no_truth : (p : Place) (x : Float) → as_bool (aside p (number (float x))) ≡ None
float_no_truth Map x = no_truth x
float_no_truth Layer x = no_truth x
float_no_truth Object x = no_truth x
float_no_truth Coordinate x = refl
float_no_truth Version x = refl
float_no_truth Elsewhere x = no_truth x

as_bool-aside : (p : Place) (d : Data) → as_bool (aside p d) ≡ as_bool d
as_bool-aside p null = refl
as_bool-aside p (boolean b) = refl
as_bool-aside p (number (unsigned n)) = refl
as_bool-aside p (number (negative z)) = refl
as_bool-aside p (number (float x)) = float_no_truth p x
as_bool-aside p (string s) = refl
as_bool-aside p (array ds) = refl
as_bool-aside p (object ms) = refl

truth_at : (p : Place) (o : Option Data) → option_and_then as_bool (option_map (aside p) o) ≡ option_and_then as_bool o
truth_at p None = refl
truth_at p (Some d) = as_bool-aside p d

pub is_infinite-set_aside_of : (d : Data) → is_infinite (set_aside_of d) ≡ is_infinite d
unfolding stand_in
is_infinite-set_aside_of null = refl
is_infinite-set_aside_of (boolean b) = refl
is_infinite-set_aside_of (number (unsigned n)) = refl
is_infinite-set_aside_of (number (negative z)) = refl
is_infinite-set_aside_of (number (float x)) = refl
is_infinite-set_aside_of (string s) = refl
is_infinite-set_aside_of (array ds) = refl
is_infinite-set_aside_of (object ms) =
    ap (λ o. is_true (option_and_then as_bool o)) (get_member-members_aside Map (codes "infinite") ms)
    ∙ ap is_true (truth_at (below Map (codes "infinite")) (get_member (codes "infinite") ms))

-- ---- a tree without the reserved name was not infinite
abbrev map_noted : Members → Option Data → Option Data
map_noted ms o = map_by ms (option_and_then (get (codes "infinite")) o)

pub infinite_of-free : (d : Data) → has_name reserved_name d ≡ false → infinite_of d ≡ None
infinite_of-free null e = refl
infinite_of-free (boolean b) e = refl
infinite_of-free (number n) e = refl
infinite_of-free (string s) e = refl
infinite_of-free (array ds) e = refl
infinite_of-free (object ms) e = ap (map_noted ms) (absent reserved_name ms e)

infinite_of-aside : (d : Data) → has_name reserved_name d ≡ false → infinite_of (set_aside_of d) ≡ None
unfolding stand_in
infinite_of-aside null e = refl
infinite_of-aside (boolean b) e = refl
infinite_of-aside (number (unsigned n)) e = refl
infinite_of-aside (number (negative z)) e = refl
infinite_of-aside (number (float x)) e = refl
infinite_of-aside (string s) e = refl
infinite_of-aside (array ds) e = refl
infinite_of-aside (object ms) e =
    ap (map_noted (members_aside Map ms))
    (get_member-members_aside Map reserved_name ms ∙ ap (option_map (aside (below Map reserved_name))) (absent reserved_name ms e))

-- ---- the law over both
pub put_back_of-plain : (d : Data) → IsReadTree d → has_name reserved_name d ≡ false → put_back_of (set_aside_of d) ≡ d
put_back_of-plain d h e = ap (λ o. back (unwrap_or o (set_aside_of d))) (infinite_of-aside d e) ∙ back-set_aside_of d h e

pub put_back_of-spread : (d t : Data) → IsReadTree d → has_name reserved_name d ≡ false → infinite_of t ≡ Some (set_aside_of d) → put_back_of t ≡ d
put_back_of-spread d t h e is = ap (λ o. back (unwrap_or o t)) is ∙ back-set_aside_of d h e

pub put_back_of-free : (d : Data) → has_name reserved_name d ≡ false → put_back_of d ≡ back d
put_back_of-free d e = ap (λ o. back (unwrap_or o d)) (infinite_of-free d e)
