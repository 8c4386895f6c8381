-- What a line says with its fractions set aside: a file can say it, no number is a float, and its notes nest no deeper than stand-ins.
use Rattle.std.proofs.Common.{◌≡◌, IsUtf8, ℕ, suc, ◌/◌, ◌%◌, ◌^◌, ◌<◌, ◌≤◌, max, List, codes, ℤ, pos, negsuc, Option, Some, None, option_map, option_and_then}
use Rattle.std.proofs.Common.{Ordering, Less, Equal, Greater, nat_cmp, cond, Bool, true, false, ◌||◌, not, Float, T, to_bits, refl, sym, ap, ◌∙◌}
use Rattle.std.proofs.Common.{subst, arith}
use Rattle.std.specs.Prelude.{Ok, nat_le}
use Rattle.std.specs.Option.{ok_or}
use Rattle.std.specs.Float.{binary64, floor}
use Rattle.std.specs.Float.Ieee.{add, of_int}
use Rattle.std.specs.Ordering.{int_eq}
use Rattle.std.specs.Cmp.Lexicographic.{slice_cmp}
use Rattle.std.specs.Ordering.{match_ordering}
use Rattle.std.proofs.lemmas.Bool.{leb-true}
use Rattle.std.proofs.lemmas.Int.{ints}
use lib.Ieee as Ieee
use lib.Ieee.Bits.{to_bits-lt}
use lib.Ieee.Casts.{to_signed_in}
use lib.Ieee.Fits.{add-fits, cond-fits}
use lib.Signed.{mag}
use Rattle.json.proofs.Printed.Utf8.{IsUtf8-are_ascii}
use Rattle.serde_json.specs.Data.{Num, unsigned, negative, float, Data, null, boolean, number, string, array, object, Items, no_items, item, Members}
use Rattle.serde_json.specs.Data.{no_members, member, put, depth, members_depth}
use Rattle.serde_json.specs.Find.{as_object, get_member, is_float, of_integer, to_float}
use Rattle.serde_json.specs.Read.{read}
use Rattle.serde_json.specs.View.{view}
use Rattle.serde_json.specs.Written.{has_float, items_have_float, members_have_float}
use Rattle.serde_json.specs.declared.value.Value.{Value}
use Rattle.map_model.specs.Readable.{IsBefore, IsReadableNumber, IsReadable, AreReadableItems, AreReadableMembers}
use Rattle.json_members.specs.Members.{put_some}
use Rattle.json_trees.specs.declared.names.TheConstants.{RESERVED_NAME}
use Rattle.json_trees.specs.Names.{has_name}
use Rattle.refusals.specs.declared.map_refusal.MapRefusal.TheVariants.{NotJson, Fraction, MemberOfAnotherKind}
use Rattle.fractions.specs.declared.lines.Fractions.{Fractions}
use Rattle.fractions.specs.declared.lines.Fractions.TheVariants.{Refused, SetAside}
use Rattle.fractions.specs.declared.lines.Moved.{Moved}
use Rattle.fractions.specs.declared.place.Place.{Place}
use Rattle.fractions.specs.declared.place.Place.TheVariants.{Map, Layer, Object, Coordinate, Version, Elsewhere}
use Rattle.fractions.specs.Places.{below, inside, is_inner}
use Rattle.fractions.specs.Fractions.{is_fraction, has_fraction, items_have_fraction, members_have_fraction}
use Rattle.fractions.specs.Aside.{reserved_name, stand_in, whole_part, fraction_at, notes_of, with_notes, aside, items_aside, members_aside}
use Rattle.fractions.specs.Lines.{further, further_note, members_said, moved_notes, said, unmoved}
use Rattle.fractions.proofs.Law.{absent}
use Rattle.fractions.proofs.ReadTrees.{IsReadTree, AreReadItems, AreReadMembers, IsReadTree-read}
use Rattle.fractions.proofs.Unmoved.{notes_unmoved}
use Rattle.fractions.proofs.Whole.{has_fraction-aside, members_have_fraction-members_aside}
use Rattle.map_json.specs.Words.{AreWords, IsWord, are_set_aside, word_at}
use Rattle.map_json.specs.declared.word.TheConstants.{MAX_WORD_DEPTH}
use Rattle.map_json.proofs.HeadWords.{members_depth-put, word-AreWords, words-AreWords}
use Rattle.map_json.proofs.Orders.{AreReadableMembers-put}
use Rattle.map_json.proofs.FineLemmas.{members_depth-without}
use Rattle.map_json.proofs.Own.{put_whole, without-put}
use Rattle.map_json.proofs.ReadTrees.{IsReadable-read}
use Rattle.map_json.proofs.Sound.{by_bind, by_check, ok_is, ok_or_ok}

-- ---- no float is left, but as the version of the root
layer_inner : (b c : Bool) → is_inner (cond b Layer (cond c Object Elsewhere)) ≡ true
layer_inner true c = refl
layer_inner false true = refl
layer_inner false false = refl

object_inner : (b : Bool) → is_inner (cond b Coordinate Elsewhere) ≡ true
object_inner true = refl
object_inner false = refl

pub inner_below : (p : Place) (k : List ℕ) → is_inner p ≡ true → is_inner (below p k) ≡ true
inner_below Map k h = absurd cc
inner_below Layer k h = layer_inner _ _
inner_below Object k h = object_inner _
inner_below Coordinate k h = refl
inner_below Version k h = refl
inner_below Elsewhere k h = refl

pub inner_inside : (p : Place) → is_inner p ≡ true → is_inner (inside p) ≡ true
inner_inside Map h = refl
inner_inside Layer h = refl
inner_inside Object h = refl
inner_inside Coordinate h = refl
inner_inside Version h = refl
inner_inside Elsewhere h = refl

inner_number : (p : Place) (n : Num) → is_inner p ≡ true → is_fraction p n ≡ is_float n
inner_number Map n h = refl
inner_number Layer n h = refl
inner_number Object n h = refl
inner_number Coordinate n h = refl
inner_number Version n h = absurd cc
inner_number Elsewhere n h = refl

mutual
  inner_float : (p : Place) (d : Data) → is_inner p ≡ true → has_fraction p d ≡ has_float d
  inner_float p null h = refl
  inner_float p (boolean b) h = refl
  inner_float p (number n) h = inner_number p n h
  inner_float p (string s) h = refl
  inner_float p (array ds) h = inner_items (inside p) ds (inner_inside p h)
  inner_float p (object ms) h = inner_members p ms h

  inner_items : (p : Place) (ds : Items) → is_inner p ≡ true → items_have_fraction p ds ≡ items_have_float ds
  inner_items p no_items h = refl
  inner_items p (item d ds) h = rw (inner_float p d h, inner_items p ds h) refl

  inner_members : (p : Place) (ms : Members) → is_inner p ≡ true → members_have_fraction p ms ≡ members_have_float ms
  inner_members p no_members h = refl
  inner_members p (member k d ms) h = rw (inner_float (below p k) d (inner_below p k h), inner_members p ms h) refl

pub has_float-aside : (p : Place) (d : Data) → is_inner p ≡ true → has_float (aside p d) ≡ false
has_float-aside p d h = sym (inner_float p (aside p d) h) ∙ has_fraction-aside p d

-- ---- a file can say it
reserved_utf8 : IsUtf8 reserved_name
reserved_utf8 = IsUtf8-are_ascii reserved_name refl

stand_in_readable : (x : Float) → T (Ieee.fits binary64 x) → IsReadable (stand_in x)
unfolding stand_in
stand_in_readable x fits =
    let small : to_bits binary64 x < 2 ^ 64 = to_bits-lt binary64 x fits in
    let high : to_bits binary64 x / 2 ^ 32 < 2 ^ 64 = omega arith in
    let low : to_bits binary64 x % 2 ^ 32 < 2 ^ 64 = omega arith in
    (reserved_utf8, tt, (high, (low, tt)), tt)

integer_readable : (z : ℤ) → mag z < 2 ^ 63 → IsReadableNumber (of_integer z)
integer_readable (pos n) h = let small : n < 2 ^ 63 = h in omega (arith, small)
integer_readable (negsuc n) h = let small : n < 2 ^ 63 = h in (omega (arith, ints, small), omega (arith, ints))

whole_part_readable : (x : Float) → IsReadable (number (of_integer (whole_part x)))
unfolding whole_part
whole_part_readable x = integer_readable (whole_part x) (to_signed_in 63 (floor binary64 x))

pub float_readable : (p : Place) (x : Float) → T (Ieee.fits binary64 x) → IsReadable (aside p (number (float x)))
float_readable Map x h = stand_in_readable x h
float_readable Layer x h = stand_in_readable x h
float_readable Object x h = stand_in_readable x h
float_readable Coordinate x h = whole_part_readable x
float_readable Version x h = tt
float_readable Elsewhere x h = stand_in_readable x h

-- what was read has floats of the format, also as a member
found_at : (o : Ordering) (d e : Data) (rest : Option Data) → IsReadTree e → ((f : Data) → rest ≡ Some f → IsReadTree f)
    → match_ordering o rest (Some e) rest ≡ Some d → IsReadTree d
found_at Less d e rest he later is = later d is
found_at Equal d e rest he later is = let same : e ≡ d = cc in subst IsReadTree same he
found_at Greater d e rest he later is = later d is

found : (k : List ℕ) (ms : Members) (d : Data) → AreReadMembers ms → get_member k ms ≡ Some d → IsReadTree d
found k no_members d h is = absurd cc
found k (member l e ms) d h is = found_at (slice_cmp nat_cmp k l) d e (get_member k ms) h.0 (λ f g. found k ms f h.2 g) is

number_at : (d : Data) (n : Num) → IsReadTree d → fraction_at d ≡ Some n → T (Ieee.fits binary64 (to_float n))
number_at null n h e = absurd cc
number_at (boolean b) n h e = absurd cc
number_at (number (unsigned m)) n h e = absurd cc
number_at (number (negative z)) n h e = absurd cc
number_at (number (float x)) n h e = let same : float x ≡ n = cc in subst (λ m. T (Ieee.fits binary64 (to_float m))) same h.0
number_at (string s) n h e = absurd cc
number_at (array ds) n h e = absurd cc
number_at (object ms) n h e = absurd cc

note_fits : (k : List ℕ) (ms : Members) → AreReadMembers ms → (o : Option Data) → get_member k ms ≡ o → (n : Num) → option_and_then fraction_at o ≡ Some n
    → T (Ieee.fits binary64 (to_float n))
note_fits k ms h None is n e = absurd cc
note_fits k ms h (Some d) is n e = number_at d n (found k ms d h is) e

further_fits : (z : ℤ) (x : Float) → T (Ieee.fits binary64 x) → T (Ieee.fits binary64 (further z x))
further_fits z x fits = cond-fits binary64 (int_eq z (pos 0)) x (add binary64 x (of_int binary64 z)) fits (add-fits binary64 x (of_int binary64 z))

note_readable : (z : ℤ) (k : List ℕ) (o : Option Num) (ns : Members) → IsUtf8 k → ((n : Num) → o ≡ Some n → T (Ieee.fits binary64 (to_float n)))
    → AreReadableMembers ns → AreReadableMembers (put_some k (option_map (λ n. stand_in (further z (to_float n))) o) ns)
note_readable z k None ns utf8 fits h = h
note_readable z k (Some n) ns utf8 fits h =
    AreReadableMembers-put k (stand_in (further z (to_float n))) ns utf8
    (stand_in_readable (further z (to_float n)) (further_fits z (to_float n) (fits n refl))) h

noted : (z : ℤ) (k : List ℕ) (ms ns : Members) → IsUtf8 k → AreReadMembers ms → AreReadableMembers ns
    → AreReadableMembers (put_some k (further_note z k ms) ns)
noted z k ms ns utf8 h hn = note_readable z k (option_and_then fraction_at (get_member k ms)) ns utf8 (note_fits k ms h (get_member k ms) refl) hn

pub notes_readable : (m : Moved) (p : Place) (ms : Members) → AreReadMembers ms → AreReadableMembers (moved_notes m p ms)
notes_readable m Map ms h = tt
notes_readable m Layer ms h = tt
notes_readable m Object ms h =
    noted m.x (codes "x") ms _ (IsUtf8-are_ascii (codes "x") refl) h
    (noted m.y (codes "y") ms _ (IsUtf8-are_ascii (codes "y") refl) h
    (noted (pos 0) (codes "width") ms _ (IsUtf8-are_ascii (codes "width") refl) h
    (noted (pos 0) (codes "height") ms no_members (IsUtf8-are_ascii (codes "height") refl) h tt)))
notes_readable m Coordinate ms h = tt
notes_readable m Version ms h = tt
notes_readable m Elsewhere ms h = tt

own_notes_readable : (p : Place) (ms : Members) → AreReadMembers ms → AreReadableMembers (notes_of p ms)
own_notes_readable p ms h = subst AreReadableMembers (notes_unmoved p ms) (notes_readable unmoved p ms h)

pub with_notes_readable : (ns ms : Members) → AreReadableMembers ns → AreReadableMembers ms → AreReadableMembers (with_notes ns ms)
with_notes_readable no_members ms hn h = h
with_notes_readable (member k d ns) ms hn h = AreReadableMembers-put reserved_name (object (member k d ns)) ms reserved_utf8 hn h

-- the names stay
before_aside : (p : Place) (j : List ℕ) (ms : Members) → IsBefore j ms → IsBefore j (members_aside p ms)
before_aside p j no_members h = tt
before_aside p j (member k d ms) h = (h.0, before_aside p j ms h.1)

mutual
  aside_readable : (p : Place) (d : Data) → IsReadable d → IsReadTree d → IsReadable (aside p d)
  aside_readable p null h r = tt
  aside_readable p (boolean b) h r = tt
  aside_readable p (number (unsigned n)) h r = h
  aside_readable p (number (negative z)) h r = h
  aside_readable p (number (float x)) h r = float_readable p x r.0
  aside_readable p (string s) h r = h
  aside_readable p (array ds) h r = items_readable (inside p) ds h r
  aside_readable p (object ms) h r = with_notes_readable (notes_of p ms) (members_aside p ms) (own_notes_readable p ms r) (members_readable p ms h r)

  items_readable : (p : Place) (ds : Items) → AreReadableItems ds → AreReadItems ds → AreReadableItems (items_aside p ds)
  items_readable p no_items h r = tt
  items_readable p (item d ds) h r = (aside_readable p d h.0 r.0, items_readable p ds h.1 r.1)

  members_readable : (p : Place) (ms : Members) → AreReadableMembers ms → AreReadMembers ms → AreReadableMembers (members_aside p ms)
  members_readable p no_members h r = tt
  members_readable p (member k d ms) h r = (h.0, before_aside p k ms h.1, aside_readable (below p k) d h.2 r.0, members_readable p ms h.3 r.2)

-- ---- notes nest as deep as stand-ins
pub stand_in_depth : (x : Float) → depth (stand_in x) ≤ 2
unfolding stand_in
stand_in_depth x = omega arith

note_depth : (z : ℤ) (k : List ℕ) (o : Option Num) (ns : Members) → members_depth ns ≤ 2
    → members_depth (put_some k (option_map (λ n. stand_in (further z (to_float n))) o) ns) ≤ 2
note_depth z k None ns h = h
note_depth z k (Some n) ns h =
    omega (arith, members_depth-put k (stand_in (further z (to_float n))) ns, stand_in_depth (further z (to_float n)), h)

pub notes_depth : (m : Moved) (p : Place) (ms : Members) → members_depth (moved_notes m p ms) ≤ 2
notes_depth m Map ms = omega arith
notes_depth m Layer ms = omega arith
notes_depth m Object ms =
    note_depth m.x (codes "x") (option_and_then fraction_at (get_member (codes "x") ms)) _
    (note_depth m.y (codes "y") (option_and_then fraction_at (get_member (codes "y") ms)) _
    (note_depth (pos 0) (codes "width") (option_and_then fraction_at (get_member (codes "width") ms)) _
    (note_depth (pos 0) (codes "height") (option_and_then fraction_at (get_member (codes "height") ms)) no_members (omega arith))))
notes_depth m Coordinate ms = omega arith
notes_depth m Version ms = omega arith
notes_depth m Elsewhere ms = omega arith

pub with_notes_depth : (ns ms : Members) → members_depth (with_notes ns ms) ≤ max (suc (members_depth ns)) (members_depth ms)
with_notes_depth no_members ms = omega arith
with_notes_depth (member k d ns) ms = members_depth-put reserved_name (object (member k d ns)) ms

-- and have no float
stand_in_whole : (x : Float) → has_float (stand_in x) ≡ false
unfolding stand_in
stand_in_whole x = refl

note_whole : (z : ℤ) (k : List ℕ) (o : Option Num) (ns : Members) → members_have_float ns ≡ false
    → members_have_float (put_some k (option_map (λ n. stand_in (further z (to_float n))) o) ns) ≡ false
note_whole z k None ns h = h
note_whole z k (Some n) ns h = put_whole k (stand_in (further z (to_float n))) ns (stand_in_whole (further z (to_float n))) h

pub notes_whole : (m : Moved) (p : Place) (ms : Members) → members_have_float (moved_notes m p ms) ≡ false
notes_whole m Map ms = refl
notes_whole m Layer ms = refl
notes_whole m Object ms =
    note_whole m.x (codes "x") (option_and_then fraction_at (get_member (codes "x") ms)) _
    (note_whole m.y (codes "y") (option_and_then fraction_at (get_member (codes "y") ms)) _
    (note_whole (pos 0) (codes "width") (option_and_then fraction_at (get_member (codes "width") ms)) _
    (note_whole (pos 0) (codes "height") (option_and_then fraction_at (get_member (codes "height") ms)) no_members refl)))
notes_whole m Coordinate ms = refl
notes_whole m Version ms = refl
notes_whole m Elsewhere ms = refl

pub with_notes_whole : (ns ms : Members) → members_have_float ns ≡ false → members_have_float ms ≡ false → members_have_float (with_notes ns ms) ≡ false
with_notes_whole no_members ms hn h = h
with_notes_whole (member k d ns) ms hn h = put_whole reserved_name (object (member k d ns)) ms hn h

members_whole : (p : Place) (ms : Members) → is_inner p ≡ true → members_have_float (members_aside p ms) ≡ false
members_whole p ms h = sym (inner_members p (members_aside p ms) h) ∙ members_have_fraction-members_aside p ms

-- ---- values and members that a line says
-- a word is the tree of its text, and no member in it has the reserved name
pub word_at-parts : (f : Fractions) (p : Place) (text : List ℕ) (d : Data) → word_at f p text ≡ Ok d
    → (read text ≡ Some d) × (not (has_name RESERVED_NAME.now d) ≡ true)
unfolding word_at
word_at-parts f p text d e =
    by_bind (ok_or (read text) NotJson) _ d e (λ x is e1.
    by_check (are_set_aside f || not (has_float x)) Fraction _ d e1 (λ whole e2.
    by_check (nat_le (depth (said f p x)) MAX_WORD_DEPTH) NotJson _ d e2 (λ shallow e3.
    by_check (not (has_name RESERVED_NAME.now x)) MemberOfAnotherKind _ d e3 (λ free e4.
    let same = ok_is x d e4 in
    (ok_or_ok (read text) NotJson x is ∙ ap Some same, subst (λ y. not (has_name RESERVED_NAME.now y) ≡ true) same free)))))

pub unless : (b : Bool) → not b ≡ true → b ≡ false
unless true e = absurd cc
unless false e = refl

pub said-IsWord : (f : Fractions) (p : Place) (text : List ℕ) (v : Value) → is_inner p ≡ true → read text ≡ Some (view v)
    → (are_set_aside f || not (has_float (view v))) ≡ true → nat_le (depth (said f p (view v))) MAX_WORD_DEPTH ≡ true → IsWord (said f p (view v))
said-IsWord Refused p text v inner e whole shallow = record {
  readable = IsReadable-read text v e;
  whole = unless (has_float (view v)) whole;
  shallow = leb-true (depth (view v)) MAX_WORD_DEPTH shallow;
}
said-IsWord SetAside p text v inner e whole shallow = record {
  readable = aside_readable p (view v) (IsReadable-read text v e) (IsReadTree-read text (view v) e);
  whole = has_float-aside p (view v) inner;
  shallow = leb-true (depth (aside p (view v))) MAX_WORD_DEPTH shallow;
}

-- members that were read, as an object at a place has them
words_aside : (p : Place) (m : Moved) (ms : Members) → is_inner p ≡ true → AreReadableMembers ms → AreReadMembers ms
    → members_depth (members_aside p ms) ≤ MAX_WORD_DEPTH → AreWords (members_said SetAside p m ms)
words_aside p m ms inner readable was shallow =
    let deep = with_notes_depth (moved_notes m p ms) (members_aside p ms) in
    let low = notes_depth m p ms in
    record {
      readable = with_notes_readable (moved_notes m p ms) (members_aside p ms) (notes_readable m p ms was) (members_readable p ms readable was);
      whole = with_notes_whole (moved_notes m p ms) (members_aside p ms) (notes_whole m p ms) (members_whole p ms inner);
      shallow = omega (arith, deep, low, shallow);
    }

-- notes make no member of others less deep
pub under_notes : (ns ms : Members) → get_member reserved_name ms ≡ None → members_depth ms ≤ members_depth (with_notes ns ms)
under_notes no_members ms absent = omega arith
under_notes (member k d ns) ms absent =
    let note : Data = object (member k d ns) in
    subst (λ (x : Members). members_depth x ≤ members_depth (put reserved_name note ms)) (without-put reserved_name note ms absent)
    (members_depth-without reserved_name (put reserved_name note ms))

aside_lacks_at : (o : Ordering) (x y : Option Data) (d e : Data) → (y ≡ None → x ≡ None) → match_ordering o y (Some e) y ≡ None
    → match_ordering o x (Some d) x ≡ None
aside_lacks_at Less x y d e later h = later h
aside_lacks_at Equal x y d e later h = absurd cc
aside_lacks_at Greater x y d e later h = later h

pub aside_lacks : (p : Place) (k : List ℕ) (ms : Members) → get_member k ms ≡ None → get_member k (members_aside p ms) ≡ None
aside_lacks p k no_members h = refl
aside_lacks p k (member l d ms) h =
    aside_lacks_at (slice_cmp nat_cmp k l) (get_member k (members_aside p ms)) (get_member k ms) (aside (below p l) d) d (aside_lacks p k ms) h

pub as_object_is : (d : Data) (ms : Members) → as_object d ≡ Some ms → d ≡ object ms
as_object_is null ms e = absurd cc
as_object_is (boolean b) ms e = absurd cc
as_object_is (number n) ms e = absurd cc
as_object_is (string s) ms e = absurd cc
as_object_is (array ds) ms e = absurd cc
as_object_is (object ns) ms e = let same : ns ≡ ms = cc in ap object same

said-members : (f : Fractions) (p : Place) (m : Moved) (text : List ℕ) (v : Value) (ms : Members) → is_inner p ≡ true → word_at f p text ≡ Ok (view v)
    → view v ≡ object ms → IsWord (said f p (object ms)) → AreWords (members_said f p m ms)
said-members Refused p m text v ms inner e same is = words-AreWords ms is
said-members SetAside p m text v ms inner e same is =
    let word = word_at-parts SetAside p text (view v) e in
    let free = unless (has_name RESERVED_NAME.now (view v)) word.1 in
    let readable = subst IsReadable same (IsReadable-read text v word.0) in
    let was = subst IsReadTree same (IsReadTree-read text (view v) word.0) in
    let none = aside_lacks p reserved_name ms (absent reserved_name ms (subst (λ d. has_name reserved_name d ≡ false) same free)) in
    let under = under_notes (notes_of p ms) (members_aside p ms) none in
    let deep = is.shallow in
    words_aside p m ms inner readable was (omega (arith, under, deep))

pub said-AreWords : (f : Fractions) (p : Place) (m : Moved) (text : List ℕ) (v : Value) (ms : Members) → is_inner p ≡ true → word_at f p text ≡ Ok (view v)
    → as_object (view v) ≡ Some ms → IsWord (said f p (view v)) → AreWords (members_said f p m ms)
said-AreWords f p m text v ms inner e found is =
    let same = as_object_is (view v) ms found in
    said-members f p m text v ms inner e same (subst (λ d. IsWord (said f p d)) same is)

-- one member of an object at a place
pub member-AreWords : (f : Fractions) (p : Place) (m : Moved) (name text : List ℕ) (v : Value) → IsUtf8 name → is_inner p ≡ true
    → word_at f (below p name) text ≡ Ok (view v) → IsWord (said f (below p name) (view v)) → AreWords (members_said f p m (member name (view v) no_members))
member-AreWords Refused p m name text v utf8 inner e is = word-AreWords name (view v) utf8 is
member-AreWords SetAside p m name text v utf8 inner e is =
    let word = word_at-parts SetAside (below p name) text (view v) e in
    let deep = is.shallow in
    words_aside p m (member name (view v) no_members) inner (utf8, tt, IsReadable-read text v word.0, tt)
    (IsReadTree-read text (view v) word.0, tt, tt) (omega (arith, deep))
