-- A tree that was read has numbers of 64 bits, and each object's names in order.
use Rattle.std.proofs.Common.{◌≡◌, ℕ, zero, suc, ◌^◌, ◌<◌, ◌≤◌, List, Option, Some, None, option_map, Ordering, Less, Equal, Greater, nat_cmp, cond, Bool, true}
use Rattle.std.proofs.Common.{false, ◌&&◌, ltb, leb, eqb, refl, subst, arith, drop}
use Rattle.std.specs.Prelude.{option_and_then, slice_index, Float}
use Rattle.std.specs.Float.{binary64, float_is_finite}
use Rattle.std.specs.Cmp.Lexicographic.{slice_cmp}
use Rattle.std.specs.Ordering.{match_ordering}
use Rattle.std.proofs.lemmas.Bool.{ltb-true, leb-true}
use Rattle.std.proofs.lemmas.Int.{ints}
use Rattle.fast_float.specs.Text.{minus, Parts, scan, digits_of, nearest, with_sign}
use Rattle.json.specs.Json as json
use Rattle.serde_json.specs.Data.{Num, unsigned, negative, float, Data, null, boolean, number, string, array, object, Items, no_items, item, Members}
use Rattle.serde_json.specs.Data.{no_members, member, put}
use Rattle.serde_json.specs.Read.{is_integer, float_of, number_from, number_of, of_json, of_items, of_members, read, max_depth}
use Rattle.json.specs.Lex.{tokens}
use Rattle.map_model.specs.Readable.{IsBefore, IsReadableNumber, IsReadable, AreReadableItems, AreReadableMembers}
use Rattle.serde_json.specs.View.{view}
use Rattle.serde_json.specs.declared.value.Value.{Value}
use Rattle.map_json.proofs.ValueTexts.{HasTexts, ItemsHaveTexts, MembersHaveTexts, HasTexts-view}
use Rattle.map_json.proofs.Orders.{IsBefore-trans, IsBefore-put, after_Greater}

-- what a tree has because it was read; and a file can say it, if its texts are UTF-8 too
abbrev mutual
  pub IsReadTree : Data → Type 0
  IsReadTree null = Unit {0}
  IsReadTree (boolean b) = Unit {0}
  IsReadTree (number x) = IsReadableNumber x
  IsReadTree (string s) = Unit {0}
  IsReadTree (array ds) = AreReadItems ds
  IsReadTree (object ms) = AreReadMembers ms

  pub AreReadItems : Items → Type 0
  AreReadItems no_items = Unit {0}
  AreReadItems (item d ds) = IsReadTree d × AreReadItems ds

  pub AreReadMembers : Members → Type 0
  AreReadMembers no_members = Unit {0}
  AreReadMembers (member k d ms) = IsBefore k ms × IsReadTree d × AreReadMembers ms

float_read : (b : Bool) (x : Float) (n : Num) → cond b (Some (float x)) None ≡ Some n → IsReadableNumber n
float_read true x n e = let s : float x ≡ n = cc in subst IsReadableNumber s tt
float_read false x n e = absurd cc

unsigned_read : (a b : Bool) (k : ℕ) (rest : Option Num) (n : Num) → (b ≡ true → k < 2 ^ 64) → (rest ≡ Some n → IsReadableNumber n)
    → cond (a && b) (Some (unsigned k)) rest ≡ Some n → IsReadableNumber n
unsigned_read true true k rest n small later e = let s : unsigned k ≡ n = cc in subst IsReadableNumber s (small refl)
unsigned_read true false k rest n small later e = later e
unsigned_read false b k rest n small later e = later e

negative_fits : (k : ℕ) → 0 < k → k ≤ 2 ^ 63 → IsReadableNumber (negative (with_sign true k))
negative_fits zero a b = absurd (omega arith)
negative_fits (suc j) a b = (omega (arith, ints), omega (arith, ints))

negative_read : (a b c : Bool) (k : ℕ) (rest : Option Num) (n : Num) → (b ≡ true → 0 < k) → (c ≡ true → k ≤ 2 ^ 63) → (rest ≡ Some n → IsReadableNumber n)
    → cond (a && b && c) (Some (negative (with_sign true k))) rest ≡ Some n → IsReadableNumber n
negative_read true true true k rest n some small later e = let s : negative (with_sign true k) ≡ n = cc in
    subst IsReadableNumber s (negative_fits k (some refl) (small refl))
negative_read true true false k rest n some small later e = later e
negative_read true false c k rest n some small later e = later e
negative_read false b c k rest n some small later e = later e

number_from_read : (sign : Bool) (p : Parts) (n : Num) → number_from sign p ≡ Some n → IsReadableNumber n
number_from_read false p n e =
    unsigned_read (is_integer p) (ltb (digits_of p) (2 ^ 64)) (digits_of p) (float_of false p) n (ltb-true (digits_of p) (2 ^ 64))
    (float_read (float_is_finite (nearest binary64 false p)) (nearest binary64 false p) n) e
number_from_read true p n e =
    negative_read (is_integer p) (ltb 0 (digits_of p)) (leb (digits_of p) (2 ^ 63)) (digits_of p) (float_of true p) n (ltb-true 0 (digits_of p))
    (leb-true (digits_of p) (2 ^ 63))
    (float_read (float_is_finite (nearest binary64 true p)) (nearest binary64 true p) n) e

either_read : (b : Bool) (s t : Option Num) (n : Num) → (s ≡ Some n → IsReadableNumber n) → (t ≡ Some n → IsReadableNumber n) → cond b s t ≡ Some n
    → IsReadableNumber n
either_read true s t n f g e = f e
either_read false s t n f g e = g e

number_of_read : (s : List ℕ) (n : Num) → number_of s ≡ Some n → IsReadableNumber n
unfolding number_of
number_of_read s n e =
    either_read (eqb (slice_index s 0) minus) (number_from true (scan (drop 1 s))) (number_from false (scan s)) n (number_from_read true (scan (drop 1 s)) n)
    (number_from_read false (scan s) n) e

AreReadMembers-put : (k : List ℕ) (d : Data) (ms : Members) → IsReadTree d → AreReadMembers ms → AreReadMembers (put k d ms)
AreReadMembers-put k d no_members new h = (tt, new, tt)
AreReadMembers-put k d (member l e ms) new h = by_order (slice_cmp nat_cmp k l) refl (AreReadMembers-put k d ms new h.2)
  where
    by_order : (o : Ordering) → slice_cmp nat_cmp k l ≡ o → AreReadMembers (put k d ms)
        → AreReadMembers (match_ordering o (member k d (member l e ms)) (member l d ms) (member l e (put k d ms)))
    by_order Less is more = ((is, IsBefore-trans k l ms is h.0), new, h)
    by_order Equal is more = (h.0, new, h.2)
    by_order Greater is more = (IsBefore-put l k d ms (after_Greater k l is) h.0, h.1, more)

mapped : {A B : Type 0} (f : A → B) (o : Option A) (y : B) → option_map f o ≡ Some y → (x : A) × (o ≡ Some x) × (f x ≡ y)
mapped f None y e = absurd cc
mapped f (Some x) y e = (x, refl, cc)

bound : {A B : Type 0} (f : A → Option B) (o : Option A) (y : B) → option_and_then f o ≡ Some y → (x : A) × (o ≡ Some x) × (f x ≡ Some y)
bound f None y e = absurd cc
bound f (Some x) y e = (x, refl, e)

mutual
  of_json_read : (j : json.Json) (d : Data) → of_json j ≡ Some d → IsReadTree d
  of_json_read json.null d e = let s : null ≡ d = cc in subst IsReadTree s tt
  of_json_read (json.boolean b) d e = let s : boolean b ≡ d = cc in subst IsReadTree s tt
  of_json_read (json.number t) d e = let m = mapped number (number_of t) d e in subst IsReadTree m.2 (number_of_read t m.0 m.1)
  of_json_read (json.string t) d e = let s : string t ≡ d = cc in subst IsReadTree s tt
  of_json_read (json.array js) d e = let m = mapped array (of_items js) d e in subst IsReadTree m.2 (of_items_read js m.0 m.1)
  of_json_read (json.object js) d e = let m = mapped object (of_members js no_members) d e in subst IsReadTree m.2 (of_members_read js no_members m.0 tt m.1)

  of_items_read : (js : json.Items) (ds : Items) → of_items js ≡ Some ds → AreReadItems ds
  of_items_read json.no_items ds e = let s : no_items ≡ ds = cc in subst AreReadItems s tt
  of_items_read (json.item j js) ds e =
      let b = bound (λ d. option_map (item d) (of_items js)) (of_json j) ds e in
      let m = mapped (item b.0) (of_items js) ds b.2 in
      subst AreReadItems m.2 (of_json_read j b.0 b.1, of_items_read js m.0 m.1)

  of_members_read : (js : json.Members) (found ms : Members) → AreReadMembers found → of_members js found ≡ Some ms → AreReadMembers ms
  of_members_read json.no_members found ms h e = let s : found ≡ ms = cc in subst AreReadMembers s h
  of_members_read (json.member k j js) found ms h e =
      let b = bound (λ d. of_members js (put k d found)) (of_json j) ms e in
      of_members_read js (put k b.0 found) ms (AreReadMembers-put k b.0 found (of_json_read j b.0 b.1) h) b.2

-- the tree of a text
IsReadTree-read : (text : List ℕ) (d : Data) → read text ≡ Some d → IsReadTree d
IsReadTree-read text d e =
    let b = bound of_json (option_and_then (λ p. json.if_last p.0 p.1) (json.value max_depth (tokens text))) d e in
    of_json_read b.0 d b.2

-- ---- with texts
mutual
  IsReadable-both : (d : Data) → HasTexts d → IsReadTree d → IsReadable d
  IsReadable-both null t h = tt
  IsReadable-both (boolean b) t h = tt
  IsReadable-both (number x) t h = h
  IsReadable-both (string s) t h = t
  IsReadable-both (array ds) t h = AreReadableItems-both ds t h
  IsReadable-both (object ms) t h = AreReadableMembers-both ms t h

  AreReadableItems-both : (ds : Items) → ItemsHaveTexts ds → AreReadItems ds → AreReadableItems ds
  AreReadableItems-both no_items t h = tt
  AreReadableItems-both (item d ds) t h = (IsReadable-both d t.0 h.0, AreReadableItems-both ds t.1 h.1)

  AreReadableMembers-both : (ms : Members) → MembersHaveTexts ms → AreReadMembers ms → AreReadableMembers ms
  AreReadableMembers-both no_members t h = tt
  AreReadableMembers-both (member k d ms) t h = (t.0, h.0, IsReadable-both d t.1 h.1, AreReadableMembers-both ms t.2 h.2)

-- a value's tree, which a text has
pub IsReadable-read : (text : List ℕ) (v : Value) → read text ≡ Some (view v) → IsReadable (view v)
IsReadable-read text v e = IsReadable-both (view v) (HasTexts-view v) (IsReadTree-read text (view v) e)
