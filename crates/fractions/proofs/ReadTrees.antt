-- A tree that was read: its floats are those of the format and finite, and the names of each object ascend.
use Rattle.std.proofs.Common.{◌≡◌, ℕ, ◌^◌, List, Option, Some, None, option_map, Ordering, Less, Equal, Greater, nat_cmp, cond, Bool, true, false, ◌&&◌, ltb}
use Rattle.std.proofs.Common.{leb, eqb, refl, ap, ◌∙◌, subst, drop, T}
use Rattle.std.specs.Prelude.{option_and_then, slice_index, Float}
use Rattle.std.specs.Float.{binary64, float_is_finite}
use Rattle.std.specs.Cmp.Lexicographic.{slice_cmp}
use Rattle.std.specs.Ordering.{match_ordering, ordering_reverse}
use Rattle.std.proofs.lemmas.Cmp.{nat_list_cmp_total}
use lib.Ieee as Ieee
use lib.Ieee.Fits.{round-fits}
use Rattle.fast_float.specs.Text.{minus, Parts, scan, digits_of, nearest, with_sign}
use Rattle.json.specs.Json as json
use Rattle.serde_json.specs.Data.{Num, unsigned, negative, float, Data, null, boolean, number, string, array, object, Items, no_items, item, Members}
use Rattle.serde_json.specs.Data.{no_members, member, put}
use Rattle.serde_json.specs.Read.{is_integer, float_of, number_from, number_of, of_json, of_items, of_members, read, max_depth}
use Rattle.json.specs.Lex.{tokens}

abbrev pub IsReadNum : Num → Type 0
IsReadNum (unsigned n) = Unit {0}
IsReadNum (negative z) = Unit {0}
IsReadNum (float x) = T (Ieee.fits binary64 x) × (float_is_finite x ≡ true)

-- each name comes after this one
abbrev pub Above : List ℕ → Members → Type 0
Above k no_members = Unit {0}
Above k (member l d ms) = (slice_cmp nat_cmp k l ≡ Less) × Above k ms

abbrev mutual
  pub IsReadTree : Data → Type 0
  IsReadTree null = Unit {0}
  IsReadTree (boolean b) = Unit {0}
  IsReadTree (number x) = IsReadNum x
  IsReadTree (string s) = Unit {0}
  IsReadTree (array ds) = AreReadItems ds
  IsReadTree (object ms) = AreReadMembers ms

  pub AreReadItems : Items → Type 0
  AreReadItems no_items = Unit {0}
  AreReadItems (item d ds) = IsReadTree d × AreReadItems ds

  pub AreReadMembers : Members → Type 0
  AreReadMembers no_members = Unit {0}
  AreReadMembers (member k d ms) = IsReadTree d × Above k ms × AreReadMembers ms

float_read : (b : Bool) (x : Float) (n : Num) → T (Ieee.fits binary64 x) → float_is_finite x ≡ b → cond b (Some (float x)) None ≡ Some n → IsReadNum n
float_read true x n fits finite e = let s : float x ≡ n = cc in subst IsReadNum s (fits, finite)
float_read false x n fits finite e = absurd cc

nearest_read : (sign : Bool) (p : Parts) (n : Num) → float_of sign p ≡ Some n → IsReadNum n
nearest_read sign p n e = float_read (float_is_finite (nearest binary64 sign p)) (nearest binary64 sign p) n (round-fits binary64 sign _ _) refl e

whole_or : (b : Bool) (w : Num) (rest : Option Num) (n : Num) → IsReadNum w → (rest ≡ Some n → IsReadNum n) → cond b (Some w) rest ≡ Some n → IsReadNum n
whole_or true w rest n h later e = let s : w ≡ n = cc in subst IsReadNum s h
whole_or false w rest n h later e = later e

number_from_read : (sign : Bool) (p : Parts) (n : Num) → number_from sign p ≡ Some n → IsReadNum n
number_from_read false p n e =
    whole_or (is_integer p && ltb (digits_of p) (2 ^ 64)) (unsigned (digits_of p)) (float_of false p) n tt (nearest_read false p n) e
number_from_read true p n e =
    whole_or (is_integer p && ltb 0 (digits_of p) && leb (digits_of p) (2 ^ 63)) (negative (with_sign true (digits_of p))) (float_of true p) n tt
    (nearest_read true p n) e

either_read : (b : Bool) (s t : Option Num) (n : Num) → (s ≡ Some n → IsReadNum n) → (t ≡ Some n → IsReadNum n) → cond b s t ≡ Some n → IsReadNum n
either_read true s t n f g e = f e
either_read false s t n f g e = g e

number_of_read : (s : List ℕ) (n : Num) → number_of s ≡ Some n → IsReadNum n
unfolding number_of
number_of_read s n e =
    either_read (eqb (slice_index s 0) minus) (number_from true (scan (drop 1 s))) (number_from false (scan s)) n
    (number_from_read true (scan (drop 1 s)) n) (number_from_read false (scan s) n) e

less_than : (k l : List ℕ) → slice_cmp nat_cmp k l ≡ Greater → slice_cmp nat_cmp l k ≡ Less
less_than k l e = nat_list_cmp_total.antisymm l k ∙ ap ordering_reverse e

above_later : (k l : List ℕ) (ms : Members) → slice_cmp nat_cmp k l ≡ Less → Above l ms → Above k ms
above_later k l no_members e h = tt
above_later k l (member m d ms) e h = (nat_list_cmp_total.trans k l m e h.0, above_later k l ms e h.1)

above_at : (o : Ordering) (j k l : List ℕ) (d e : Data) (ms : Members) → slice_cmp nat_cmp j k ≡ Less → slice_cmp nat_cmp j l ≡ Less → Above j ms
    → Above j (put k d ms)
    → Above j (match_ordering o (member k d (member l e ms)) (member l d ms) (member l e (put k d ms)))
above_at Less j k l d e ms a b h later = (a, (b, h))
above_at Equal j k l d e ms a b h later = (b, h)
above_at Greater j k l d e ms a b h later = (b, later)

above_put : (j k : List ℕ) (d : Data) (ms : Members) → slice_cmp nat_cmp j k ≡ Less → Above j ms → Above j (put k d ms)
above_put j k d no_members a h = (a, tt)
above_put j k d (member l e ms) a h = above_at (slice_cmp nat_cmp k l) j k l d e ms a h.0 h.1 (above_put j k d ms a h.1)

put_at : (o : Ordering) (k l : List ℕ) (d e : Data) (ms : Members) → slice_cmp nat_cmp k l ≡ o → IsReadTree d → IsReadTree e → Above l ms
    → AreReadMembers ms → AreReadMembers (put k d ms)
    → AreReadMembers (match_ordering o (member k d (member l e ms)) (member l d ms) (member l e (put k d ms)))
put_at Less k l d e ms is hd he above h later = (hd, (is, above_later k l ms is above), (he, above, h))
put_at Equal k l d e ms is hd he above h later = (hd, above, h)
put_at Greater k l d e ms is hd he above h later = (he, above_put l k d ms (less_than k l is) above, later)

AreReadMembers-put : (k : List ℕ) (d : Data) (ms : Members) → IsReadTree d → AreReadMembers ms → AreReadMembers (put k d ms)
AreReadMembers-put k d no_members hd h = (hd, tt, tt)
AreReadMembers-put k d (member l e ms) hd h = put_at (slice_cmp nat_cmp k l) k l d e ms refl hd h.0 h.1 h.2 (AreReadMembers-put k d ms hd h.2)

mapped : {A B : Type 0} (f : A → B) (o : Option A) (y : B) → option_map f o ≡ Some y → (x : A) × (o ≡ Some x) × (f x ≡ y)
mapped f None y e = absurd cc
mapped f (Some x) y e = (x, refl, cc)

bound : {A B : Type 0} (f : A → Option B) (o : Option A) (y : B) → option_and_then f o ≡ Some y → (x : A) × (o ≡ Some x) × (f x ≡ Some y)
bound f None y e = absurd cc
bound f (Some x) y e = (x, refl, e)

mutual
  of_json_read : (j : json.Json) (d : Data) → of_json j ≡ Some d → IsReadTree d
  of_json_read json.null d e = let s : null ≡ d = cc in subst IsReadTree s tt
  of_json_read (json.boolean b) d e = let s : boolean b ≡ d = cc in subst IsReadTree s tt
  of_json_read (json.number t) d e = let m = mapped number (number_of t) d e in subst IsReadTree m.2 (number_of_read t m.0 m.1)
  of_json_read (json.string t) d e = let s : string t ≡ d = cc in subst IsReadTree s tt
  of_json_read (json.array js) d e = let m = mapped array (of_items js) d e in subst IsReadTree m.2 (of_items_read js m.0 m.1)
  of_json_read (json.object js) d e = let m = mapped object (of_members js no_members) d e in subst IsReadTree m.2 (of_members_read js no_members m.0 tt m.1)

  of_items_read : (js : json.Items) (ds : Items) → of_items js ≡ Some ds → AreReadItems ds
  of_items_read json.no_items ds e = let s : no_items ≡ ds = cc in subst AreReadItems s tt
  of_items_read (json.item j js) ds e =
      let b = bound (λ d. option_map (item d) (of_items js)) (of_json j) ds e in
      let m = mapped (item b.0) (of_items js) ds b.2 in
      subst AreReadItems m.2 (of_json_read j b.0 b.1, of_items_read js m.0 m.1)

  of_members_read : (js : json.Members) (found ms : Members) → AreReadMembers found → of_members js found ≡ Some ms → AreReadMembers ms
  of_members_read json.no_members found ms h e = let s : found ≡ ms = cc in subst AreReadMembers s h
  of_members_read (json.member k j js) found ms h e =
      let b = bound (λ d. of_members js (put k d found)) (of_json j) ms e in
      of_members_read js (put k b.0 found) ms (AreReadMembers-put k b.0 found (of_json_read j b.0 b.1) h) b.2

-- the tree of a text
pub IsReadTree-read : (text : List ℕ) (d : Data) → read text ≡ Some d → IsReadTree d
IsReadTree-read text d e =
    let b = bound of_json (option_and_then (λ p. json.if_last p.0 p.1) (json.value max_depth (tokens text))) d e in
    of_json_read b.0 d b.2
