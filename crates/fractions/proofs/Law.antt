-- What was set aside and put back is as it was.
use Rattle.std.proofs.Common.{◌≡◌, ℕ, ◌+◌, ◌*◌, ◌/◌, ◌%◌, ◌^◌, ◌<◌, List, codes, ℤ, pos, negsuc, Option, Some, None, option_map, option_and_then, Ordering}
use Rattle.std.proofs.Common.{Less, Equal, Greater, nat_cmp, cond, Bool, true, false, ◌||◌, bytes_eq, true≢false, Float, T, to_bits, from_bits, refl, sym, ap}
use Rattle.std.proofs.Common.{◌∙◌, subst, arith, lt-ltb}
use Rattle.std.specs.Prelude.{unwrap_or}
use Rattle.std.specs.Float.{binary64, float_is_finite}
use Rattle.std.specs.Cmp.Lexicographic.{slice_cmp}
use Rattle.std.specs.Ordering.{match_ordering, ordering_reverse}
use Rattle.std.proofs.lemmas.Cmp.{nat_list_cmp_total, tied_itself}
use Rattle.std.proofs.lemmas.Slice.Eq.{bytes_eq-Decides}
use Rattle.std.specs.Cmp.{signed_Decides}
use lib.Ieee as Ieee
use lib.Ieee.Bits.{of_bits-to_bits, to_bits-lt}
use Rattle.serde_json.specs.Data.{Num, unsigned, negative, float, Data, null, boolean, number, string, array, object, Items, no_items, item, Members}
use Rattle.serde_json.specs.Data.{no_members, member, put}
use Rattle.serde_json.specs.Find.{get_member, as_integer, as_object, of_integer, of_float, to_float}
use Rattle.serde_json.proofs.Views.{get_member-put, get_member-put_other}
use Rattle.fractions.specs.declared.place.Place.{Place}
use Rattle.fractions.specs.declared.place.Place.TheVariants.{Map, Layer, Object, Coordinate, Version, Elsewhere}
use Rattle.json_members.specs.Members.{without, put_some}
use Rattle.json_trees.specs.Names.{has_name, items_have_name, members_have_name}
use Rattle.fractions.specs.Places.{below, inside}
use Rattle.fractions.specs.Aside.{reserved_name, stand_in, whole_part, fraction_at, note_of, notes_of, with_notes, aside, items_aside, members_aside}
use Rattle.fractions.specs.Back.{number_of_halves, of_halves, is_alone, is_integer_at, restored, members_restored, joined, back, items_back, members_back}
use Rattle.json_members.proofs.MembersLemmas.{without-absent, skips, same_name}
use Rattle.fractions.proofs.ReadTrees.{IsReadNum, Above, IsReadTree, AreReadItems, AreReadMembers}

-- ---- a member that is put in, and the walks
back_put_at : (o : Ordering) (k l : List ℕ) (d e : Data) (ms : Members) → members_back (put k d ms) ≡ put k (back d) (members_back ms)
    → members_back (match_ordering o (member k d (member l e ms)) (member l d ms) (member l e (put k d ms)))
    ≡ match_ordering o (member k (back d) (member l (back e) (members_back ms))) (member l (back d) (members_back ms))
    (member l (back e) (put k (back d) (members_back ms)))
back_put_at Less k l d e ms later = refl
back_put_at Equal k l d e ms later = refl
back_put_at Greater k l d e ms later = ap (member l (back e)) later

pub members_back-put : (k : List ℕ) (d : Data) (ms : Members) → members_back (put k d ms) ≡ put k (back d) (members_back ms)
members_back-put k d no_members = refl
members_back-put k d (member l e ms) = back_put_at (slice_cmp nat_cmp k l) k l d e ms (members_back-put k d ms)

-- the value by its note
abbrev pub by_note : Members → List ℕ → Data → Data
by_note ns k d = restored (option_and_then fraction_at (get_member k ns)) d

restored_put_at : (o : Ordering) (ns : Members) (k l : List ℕ) (d e : Data) (ms : Members) → slice_cmp nat_cmp k l ≡ o
    → members_restored ns (put k d ms) ≡ put k (by_note ns k d) (members_restored ns ms)
    → members_restored ns (match_ordering o (member k d (member l e ms)) (member l d ms) (member l e (put k d ms)))
    ≡ match_ordering o (member k (by_note ns k d) (member l (by_note ns l e) (members_restored ns ms)))
    (member l (by_note ns k d) (members_restored ns ms)) (member l (by_note ns l e) (put k (by_note ns k d) (members_restored ns ms)))
restored_put_at Less ns k l d e ms is later = refl
restored_put_at Equal ns k l d e ms is later = ap (λ n. member l (by_note ns n d) (members_restored ns ms)) (sym (same_name k l is))
restored_put_at Greater ns k l d e ms is later = ap (member l (by_note ns l e)) later

pub members_restored-put : (ns : Members) (k : List ℕ) (d : Data) (ms : Members)
    → members_restored ns (put k d ms) ≡ put k (by_note ns k d) (members_restored ns ms)
members_restored-put ns k d no_members = refl
members_restored-put ns k d (member l e ms) = restored_put_at (slice_cmp nat_cmp k l) ns k l d e ms refl (members_restored-put ns k d ms)

restored-nothing : (ms : Members) → members_restored no_members ms ≡ ms
restored-nothing no_members = refl
restored-nothing (member k d ms) = ap (member k d) (restored-nothing ms)

same_text : (xs : List ℕ) → slice_cmp nat_cmp xs xs ≡ Equal
same_text xs = tied_itself nat_list_cmp_total xs

without_put_at : (o : Ordering) (k l : List ℕ) (d e : Data) (ms : Members) → slice_cmp nat_cmp k l ≡ o → get_member k (member l e ms) ≡ None
    → match_ordering o (get_member k ms) (Some e) (get_member k ms) ≡ None
    → (get_member k ms ≡ None → without k (put k d ms) ≡ ms)
    → without k (match_ordering o (member k d (member l e ms)) (member l d ms) (member l e (put k d ms))) ≡ member l e ms
without_put_at Less k l d e ms is absent none later = rw same_text (without-absent k (member l e ms) absent)
without_put_at Equal k l d e ms is absent none later = absurd cc
without_put_at Greater k l d e ms is absent none later = rw is (ap (member l e) (later none))

without-put : (k : List ℕ) (d : Data) (ms : Members) → get_member k ms ≡ None → without k (put k d ms) ≡ ms
without-put k d no_members absent = rw same_text refl
without-put k d (member l e ms) absent = without_put_at (slice_cmp nat_cmp k l) k l d e ms refl absent absent (without-put k d ms)

-- ---- members by name
get_back_at : (o : Ordering) (x y : Option Data) (e : Data) → x ≡ option_map back y
    → match_ordering o x (Some (back e)) x ≡ option_map back (match_ordering o y (Some e) y)
get_back_at Less x y e h = h
get_back_at Equal x y e h = refl
get_back_at Greater x y e h = h

get_member-members_back : (k : List ℕ) (ms : Members) → get_member k (members_back ms) ≡ option_map back (get_member k ms)
get_member-members_back k no_members = refl
get_member-members_back k (member l e ms) = get_back_at (slice_cmp nat_cmp k l) _ _ e (get_member-members_back k ms)

pub or_left : (a b : Bool) → (a || b) ≡ false → a ≡ false
or_left true b e = e
or_left false b e = refl

pub or_right : (a b : Bool) → (a || b) ≡ false → b ≡ false
or_right true b e = absurd (true≢false e)
or_right false b e = e

pub absent : (k : List ℕ) (ms : Members) → members_have_name k ms ≡ false → get_member k ms ≡ None
absent k no_members e = refl
absent k (member l d ms) e = skips k l d ms (or_left _ _ (or_left _ _ e)) ∙ absent k ms (or_right _ _ e)

-- what a note says of a value at this place
abbrev noted : Place → Option Data → Option Data
noted Map o = None
noted Layer o = None
noted Object o = None
noted Coordinate o = option_map (λ n. stand_in (to_float n)) (option_and_then fraction_at o)
noted Version o = None
noted Elsewhere o = None

differ : (q k : List ℕ) → bytes_eq q k ≡ false → q ≡ k → ⊥
differ q k e s = true≢false (sym ((bytes_eq-Decides q k).1 s) ∙ e)

get_same : (k : List ℕ) (o : Option Data) (ms : Members) → get_member k ms ≡ None → get_member k (put_some k o ms) ≡ o
get_same k None ms h = h
get_same k (Some d) ms h = get_member-put k d ms

get_other : (q k : List ℕ) (o : Option Data) (ms : Members) → bytes_eq q k ≡ false → get_member q (put_some k o ms) ≡ get_member q ms
get_other q k None ms h = refl
get_other q k (Some d) ms h = get_member-put_other q k d ms (differ q k h)

abbrev X : List ℕ
X = codes "x"

abbrev Y : List ℕ
Y = codes "y"

abbrev W : List ℕ
W = codes "width"

abbrev H : List ℕ
H = codes "height"

coordinate_note : (a b c d : Bool) (k : List ℕ) (ms : Members) → bytes_eq k X ≡ a → bytes_eq k Y ≡ b → bytes_eq k W ≡ c → bytes_eq k H ≡ d
    → get_member k (notes_of Object ms) ≡ noted (cond (a || b || c || d) Coordinate Elsewhere) (get_member k ms)
coordinate_note true b c d k ms ea eb ec ed =
    subst (λ q. get_member q (notes_of Object ms) ≡ noted Coordinate (get_member q ms)) (sym ((bytes_eq-Decides k X).0 ea))
    (get_same X (note_of X ms) _ (get_other X Y (note_of Y ms) _ refl ∙ get_other X W (note_of W ms) _ refl ∙ get_other X H (note_of H ms) no_members refl))
coordinate_note false true c d k ms ea eb ec ed =
    subst (λ q. get_member q (notes_of Object ms) ≡ noted Coordinate (get_member q ms)) (sym ((bytes_eq-Decides k Y).0 eb))
    (get_other Y X (note_of X ms) _ refl ∙ get_same Y (note_of Y ms) _ (get_other Y W (note_of W ms) _ refl ∙ get_other Y H (note_of H ms) no_members refl))
coordinate_note false false true d k ms ea eb ec ed =
    subst (λ q. get_member q (notes_of Object ms) ≡ noted Coordinate (get_member q ms)) (sym ((bytes_eq-Decides k W).0 ec))
    (get_other W X (note_of X ms) _ refl ∙ get_other W Y (note_of Y ms) _ refl ∙ get_same W (note_of W ms) _ (get_other W H (note_of H ms) no_members refl))
coordinate_note false false false true k ms ea eb ec ed =
    subst (λ q. get_member q (notes_of Object ms) ≡ noted Coordinate (get_member q ms)) (sym ((bytes_eq-Decides k H).0 ed))
    (get_other H X (note_of X ms) _ refl ∙ get_other H Y (note_of Y ms) _ refl ∙ get_other H W (note_of W ms) _ refl
    ∙ get_same H (note_of H ms) no_members refl)
coordinate_note false false false false k ms ea eb ec ed =
    get_other k X (note_of X ms) _ ea ∙ get_other k Y (note_of Y ms) _ eb ∙ get_other k W (note_of W ms) _ ec ∙ get_other k H (note_of H ms) no_members ed

layer_note : (b c : Bool) (o : Option Data) → None ≡ noted (cond b Layer (cond c Object Elsewhere)) o
layer_note true c o = refl
layer_note false true o = refl
layer_note false false o = refl

map_note : (a b c : Bool) (o : Option Data) → None ≡ noted (cond a Version (cond b Layer (cond c Object Elsewhere))) o
map_note true b c o = refl
map_note false b c o = layer_note b c o

get_member-notes_of : (p : Place) (k : List ℕ) (ms : Members) → get_member k (notes_of p ms) ≡ noted (below p k) (get_member k ms)
get_member-notes_of Map k ms = map_note (bytes_eq k (codes "version")) (bytes_eq k (codes "layers")) (bytes_eq k (codes "objects")) (get_member k ms)
get_member-notes_of Layer k ms = layer_note (bytes_eq k (codes "layers")) (bytes_eq k (codes "objects")) (get_member k ms)
get_member-notes_of Object k ms = coordinate_note (bytes_eq k X) (bytes_eq k Y) (bytes_eq k W) (bytes_eq k H) k ms refl refl refl refl
get_member-notes_of Coordinate k ms = refl
get_member-notes_of Version k ms = refl
get_member-notes_of Elsewhere k ms = refl

-- no note has the reserved name
unnoted : (p : Place) (o : Option Data) → noted (below p reserved_name) o ≡ None
unnoted Map o = refl
unnoted Layer o = refl
unnoted Object o = refl
unnoted Coordinate o = refl
unnoted Version o = refl
unnoted Elsewhere o = refl

-- ---- the bits of a number
halves : (b : ℕ) → b < 2 ^ 64 → of_halves (b / 2 ^ 32) (b % 2 ^ 32) ≡ of_float (from_bits binary64 b)
halves b h =
    let high : b / 2 ^ 32 < 2 ^ 32 = omega arith in
    let low : b % 2 ^ 32 < 2 ^ 32 = omega arith in
    let both : b / 2 ^ 32 * 2 ^ 32 + b % 2 ^ 32 ≡ b = omega arith in
    rw (lt-ltb _ _ high, lt-ltb _ _ low) (ap (λ n. of_float (from_bits binary64 n)) both)

of_halves-to_bits : (x : Float) → T (Ieee.fits binary64 x) → float_is_finite x ≡ true
    → of_halves (to_bits binary64 x / 2 ^ 32) (to_bits binary64 x % 2 ^ 32) ≡ Some (float x)
of_halves-to_bits x fits finite = halves (to_bits binary64 x) (to_bits-lt binary64 x fits) ∙ ap of_float (of_bits-to_bits binary64 x fits) ∙ rw finite refl

joined_number : (o : Option Num) (n : Num) (d : Data) → o ≡ Some n → unwrap_or (option_map number o) d ≡ number n
joined_number None n d is = absurd cc
joined_number (Some m) n d is = let s : m ≡ n = cc in ap number s

back-stand_in : (x : Float) → T (Ieee.fits binary64 x) → float_is_finite x ≡ true → back (stand_in x) ≡ number (float x)
unfolding stand_in number_of_halves
back-stand_in x fits finite = joined_number _ (float x) _ (of_halves-to_bits x fits finite)

-- ---- a value and its note
integer_back : (z : ℤ) → as_integer (of_integer z) ≡ Some z
integer_back (pos n) = refl
integer_back (negsuc n) = refl

still : (z : ℤ) → is_integer_at z (as_integer (of_integer z)) ≡ true
still z = rw (integer_back z) ((signed_Decides z z).1 refl)

-- what stands at a place once it was put back, but for a coordinate's note
abbrev lowered : Option Num → Data → Data
lowered None d = d
lowered (Some n) d = number (of_integer (whole_part (to_float n)))

abbrev seen : Place → Data → Data
seen Map d = d
seen Layer d = d
seen Object d = d
seen Coordinate d = lowered (fraction_at d) d
seen Version d = d
seen Elsewhere d = d

plain : (p : Place) (d : Data) → fraction_at d ≡ None → d ≡ seen p d
plain Map d e = refl
plain Layer d e = refl
plain Object d e = refl
plain Coordinate d e = rw e refl
plain Version d e = refl
plain Elsewhere d e = refl

seen_inside : (p : Place) (d : Data) → seen (inside p) d ≡ d
seen_inside Map d = refl
seen_inside Layer d = refl
seen_inside Object d = refl
seen_inside Coordinate d = refl
seen_inside Version d = refl
seen_inside Elsewhere d = refl

float_law : (p : Place) (x : Float) → IsReadNum (float x) → back (aside p (number (float x))) ≡ seen p (number (float x))
float_law Map x h = back-stand_in x h.0 h.1
float_law Layer x h = back-stand_in x h.0 h.1
float_law Object x h = back-stand_in x h.0 h.1
float_law Coordinate x h = refl
float_law Version x h = refl
float_law Elsewhere x h = back-stand_in x h.0 h.1

-- the value that its note restores
abbrev by_own : Place → Data → Data
by_own q d = restored (option_and_then fraction_at (option_map back (noted q (Some d)))) (back (aside q d))

coordinate_law : (d : Data) → IsReadTree d → back (aside Coordinate d) ≡ seen Coordinate d → by_own Coordinate d ≡ d
coordinate_law null h e = e
coordinate_law (boolean b) h e = e
coordinate_law (number (unsigned n)) h e = e
coordinate_law (number (negative z)) h e = e
coordinate_law (number (float x)) h e = rw (back-stand_in x h.0 h.1) (rw (still (whole_part x)) refl)
coordinate_law (string s) h e = e
coordinate_law (array ds) h e = e
coordinate_law (object ms) h e = e

one : (q : Place) (d : Data) → IsReadTree d → back (aside q d) ≡ seen q d → by_own q d ≡ d
one Map d h e = e
one Layer d h e = e
one Object d h e = e
one Coordinate d h e = coordinate_law d h e
one Version d h e = e
one Elsewhere d h e = e

-- ---- an object and its notes
abbrev Has : Members → Members → Type 0
Has base no_members = Unit {0}
Has base (member k d ms) = (get_member k base ≡ Some d) × Has base ms

greater : (k l : List ℕ) → slice_cmp nat_cmp l k ≡ Less → slice_cmp nat_cmp k l ≡ Greater
greater k l e = nat_list_cmp_total.antisymm k l ∙ ap ordering_reverse e

has_more : (l : List ℕ) (e : Data) (base ms : Members) → Above l ms → Has base ms → Has (member l e base) ms
has_more l e base no_members above h = tt
has_more l e base (member k d ms) above h = (rw (greater k l above.0) h.0, has_more l e base ms above.1 h.1)

has_itself : (ms : Members) → AreReadMembers ms → Has ms ms
has_itself no_members h = tt
has_itself (member k d ms) h = (rw same_text refl, has_more k d ms ms h.1 (has_itself ms h.2))

no_number : (b : Bool) (d : Data) → unwrap_or (option_map number (cond b None None)) d ≡ d
no_number true d = refl
no_number false d = refl

pub joined_absent : (ms : Members) → get_member reserved_name ms ≡ None → joined ms ≡ object ms
joined_absent ms e = rw e (no_number (is_alone ms) (object ms))

number_of_halves-object : (ns : Members) → number_of_halves (object ns) ≡ None
unfolding number_of_halves
number_of_halves-object ns = refl

-- what an object is that has this value under the reserved name
abbrev joined_by : Option Data → Members → Data
joined_by o ms =
    unwrap_or (option_map number (cond (is_alone ms) (option_and_then number_of_halves o) None))
    (unwrap_or (option_map (λ ns. object (without reserved_name (members_restored ns ms))) (option_and_then as_object o)) (object ms))

joined_noted : (ns ms bs : Members) → members_restored ns bs ≡ ms → get_member reserved_name ms ≡ None → joined (put reserved_name (object ns) bs) ≡ object ms
joined_noted ns ms bs e none =
    let all : Members = put reserved_name (object ns) bs in
    let restored_all : Data = object (without reserved_name (members_restored ns all)) in
    ap (λ o. joined_by o all) (get_member-put reserved_name (object ns) bs)
    ∙ ap (λ o. unwrap_or (option_map number (cond (is_alone all) o None)) restored_all) (number_of_halves-object ns)
    ∙ no_number (is_alone all) restored_all
    ∙ ap (λ m. object (without reserved_name m)) (members_restored-put ns reserved_name (object ns) bs)
    ∙ ap (λ m. object (without reserved_name (put reserved_name (by_note ns reserved_name (object ns)) m))) e
    ∙ ap object (without-put reserved_name (by_note ns reserved_name (object ns)) ms none)

object_law : (ns ms as_is : Members) → members_restored (members_back ns) (members_back as_is) ≡ ms → get_member reserved_name ms ≡ None
    → get_member reserved_name (members_back ns) ≡ None
    → joined (members_back (with_notes ns as_is)) ≡ object ms
object_law no_members ms as_is e none own = ap joined (sym (restored-nothing (members_back as_is)) ∙ e) ∙ joined_absent ms none
object_law (member k d ns) ms as_is e none own =
    ap joined (members_back-put reserved_name (object (member k d ns)) as_is)
    ∙ ap (λ v. joined (put reserved_name v (members_back as_is))) (joined_absent (members_back (member k d ns)) own)
    ∙ joined_noted (members_back (member k d ns)) ms (members_back as_is) e none

own_none : (p : Place) (ms : Members) → get_member reserved_name (members_back (notes_of p ms)) ≡ None
own_none p ms = get_member-members_back reserved_name (notes_of p ms)
    ∙ ap (option_map back) (get_member-notes_of p reserved_name ms ∙ unnoted p (get_member reserved_name ms))

mutual
  back-aside : (p : Place) (d : Data) → IsReadTree d → has_name reserved_name d ≡ false → back (aside p d) ≡ seen p d
  back-aside p null h e = plain p null refl
  back-aside p (boolean b) h e = plain p (boolean b) refl
  back-aside p (number (unsigned n)) h e = plain p (number (unsigned n)) refl
  back-aside p (number (negative z)) h e = plain p (number (negative z)) refl
  back-aside p (number (float x)) h e = float_law p x h
  back-aside p (string s) h e = plain p (string s) refl
  back-aside p (array ds) h e = ap array (items_back-items_aside p ds h e) ∙ plain p (array ds) refl
  back-aside p (object ms) h e =
      object_law (notes_of p ms) ms (members_aside p ms) (members_back-members_aside p ms ms (has_itself ms h) h e) (absent reserved_name ms e)
      (own_none p ms) ∙ plain p (object ms) refl

  items_back-items_aside : (p : Place) (ds : Items) → AreReadItems ds → items_have_name reserved_name ds ≡ false → items_back (items_aside (inside p) ds) ≡ ds
  items_back-items_aside p no_items h e = refl
  items_back-items_aside p (item d ds) h e =
      ap (λ x. item x (items_back (items_aside (inside p) ds))) (back-aside (inside p) d h.0 (or_left _ _ e) ∙ seen_inside p d)
      ∙ ap (item d) (items_back-items_aside p ds h.1 (or_right _ _ e))

  members_back-members_aside : (p : Place) (base ms : Members) → Has base ms → AreReadMembers ms → members_have_name reserved_name ms ≡ false
      → members_restored (members_back (notes_of p base)) (members_back (members_aside p ms)) ≡ ms
  members_back-members_aside p base no_members has h e = refl
  members_back-members_aside p base (member k d ms) has h e =
      let note : get_member k (members_back (notes_of p base)) ≡ option_map back (noted (below p k) (Some d))
      = get_member-members_back k (notes_of p base) ∙ ap (option_map back) (get_member-notes_of p k base ∙ ap (noted (below p k)) has.0) in
      let own : by_own (below p k) d ≡ d =
      one (below p k) d h.0
      (back-aside (below p k) d h.0
      (or_right (bytes_eq reserved_name k) (has_name reserved_name d)
      (or_left (bytes_eq reserved_name k || has_name reserved_name d) (members_have_name reserved_name ms) e))) in
      ap (λ o. member k (restored (option_and_then fraction_at o) (back (aside (below p k) d)))
      (members_restored (members_back (notes_of p base)) (members_back (members_aside p ms)))) note
      ∙ ap (λ x. member k x (members_restored (members_back (notes_of p base)) (members_back (members_aside p ms)))) own
      ∙ ap (member k d) (members_back-members_aside p base ms has.1 h.2
      (or_right (bytes_eq reserved_name k || has_name reserved_name d) (members_have_name reserved_name ms) e))

-- a map's tree that a text has
pub back-set_aside_of : (d : Data) → IsReadTree d → has_name reserved_name d ≡ false → back (aside Map d) ≡ d
back-set_aside_of d h e = back-aside Map d h e
