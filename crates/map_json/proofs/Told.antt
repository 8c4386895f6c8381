-- A tree that a file can say is read from its own text.
use Rattle.std.proofs.Common.{◌≡◌, ℕ, suc, ◌^◌, ◌<◌, pos, negsuc, List, [], ◌∷◌, get_or, option_map, option_and_then, Less, nat_cmp, decimal, false}
use Rattle.std.proofs.Common.{true≢false, refl, sym, ap, ◌∙◌, subst, arith}
use Rattle.std.specs.Cmp.Lexicographic.{slice_cmp}
use Rattle.std.specs.Fmt.{signed_decimal}
use Rattle.std.proofs.lemmas.Bool.{ne_eqb, or_parts}
use Rattle.std.proofs.lemmas.Fmt.{IsAscii-decimal, first_decimal}
use Rattle.std.proofs.lemmas.Int.{ints}
use Rattle.std.proofs.lemmas.Str.{IsUtf8-append, IsUtf8-from_ascii}
use Rattle.json.specs.Print.{IsNumber}
use Rattle.json.specs.Word.{after_minus, after_whole, after_fraction, after_exponent, after_number}
use Rattle.json.proofs.Printed.Decimals.{IsNumber-decimal}
use Rattle.json.proofs.Printed.Utf8.{IsUtf8-are_ascii, IsUtf8-boolean, IsUtf8-quoted}
use Rattle.serde_json.proofs.Numbers.{number_of-negative}
use Rattle.serde_json.specs.Data.{Num, unsigned, negative, float, Data, null, boolean, number, string, array, object, Items, no_items, item, Members}
use Rattle.serde_json.specs.Data.{no_members, member, put}
use Rattle.serde_json.specs.Find.{is_float}
use Rattle.serde_json.specs.Written.{has_float, items_have_float, members_have_float}
use Rattle.map_model.specs.Readable.{IsBefore, IsReadableNumber, IsReadable, AreReadableItems, AreReadableMembers}
use Rattle.map_values.specs.Texts.{Returns}
use Rattle.map_values.proofs.NumberTexts.{whole_returns}
use Rattle.map_json.proofs.Orders.{after_Less}
use Rattle.map_values.proofs.Returning.{ItemsReturn, ItemsReturn-none, ItemsReturn-item, Returns-array}
use Rattle.map_json.proofs.Returning.{MembersReturn, MembersReturn-none, MembersReturn-member}
use Rattle.map_json.proofs.Returning.{Returns-object}

-- ---- numbers
-- no minus stands before the digits
no_minus : (ds : List ℕ) → 48 < get_or ds 0 0 → after_minus ds ≡ ds
no_minus [] h = absurd (omega (arith, h))
no_minus (d ∷ ds) h = rw (ne_eqb d 45 (λ e. omega (arith, h, e))) refl

negative_number : (n : ℕ) → n < 2 ^ 63 → IsNumber (signed_decimal (negsuc n))
unfolding after_number
negative_number n small =
    ap (λ t. option_and_then after_exponent (option_and_then after_fraction (after_whole t)))
    (sym (no_minus (decimal (suc n)) (first_decimal (suc n) (omega arith) (omega arith)))) ∙ IsNumber-decimal (suc n) (omega arith)

negative_told : (n : ℕ) → n < 2 ^ 63 → Returns (number (negative (negsuc n)))
negative_told n small = record {
  utf8 = IsUtf8-append (45 ∷ []) (decimal (suc n)) (IsUtf8-are_ascii (45 ∷ []) refl)
      (IsUtf8-from_ascii (decimal (suc n)) (IsAscii-decimal (suc n) (omega arith)));
  numbers = negative_number n small;
  reads = ap (λ o. option_map number o) (number_of-negative n small);
}

number_told : (x : Num) → IsReadableNumber x → is_float x ≡ false → Returns (number x)
number_told (unsigned n) h whole = whole_returns n h
number_told (negative (pos n)) h whole = let below = h.1 in absurd (omega (arith, ints))
number_told (negative (negsuc n)) h whole = let low = h.0 in negative_told n (omega (arith, ints))
number_told (float x) h whole = absurd (true≢false whole)

-- ---- members in the order of their names
-- each name stands before this one
abbrev AreBefore : Members → List ℕ → Type 0
AreBefore no_members k = Unit {0}
AreBefore (member l e ms) k = (slice_cmp nat_cmp l k ≡ Less) × AreBefore ms k

-- and before each name of the others
abbrev AllBefore : Members → Members → Type 0
AllBefore found no_members = Unit {0}
AllBefore found (member k d ms) = AreBefore found k × AllBefore found ms

abbrev behind : Members → List ℕ → Data → Members
behind no_members k d = member k d no_members
behind (member l e ms) k d = member l e (behind ms k d)

abbrev joined : Members → Members → Members
joined no_members ms = ms
joined (member l e found) ms = member l e (joined found ms)

put-behind : (k : List ℕ) (d : Data) (found : Members) → AreBefore found k → put k d found ≡ behind found k d
put-behind k d no_members h = refl
put-behind k d (member l e found) h = rw (after_Less l k h.0) (ap (member l e) (put-behind k d found h.1))

joined-behind : (found : Members) (k : List ℕ) (d : Data) (ms : Members) → joined (behind found k d) ms ≡ joined found (member k d ms)
joined-behind no_members k d ms = refl
joined-behind (member l e found) k d ms = ap (member l e) (joined-behind found k d ms)

AreBefore-behind : (found : Members) (k : List ℕ) (d : Data) (l : List ℕ) → AreBefore found l → slice_cmp nat_cmp k l ≡ Less → AreBefore (behind found k d) l
AreBefore-behind no_members k d l h less = (less, tt)
AreBefore-behind (member j e found) k d l h less = (h.0, AreBefore-behind found k d l h.1 less)

AllBefore-behind : (found : Members) (k : List ℕ) (d : Data) (ms : Members) → AllBefore found ms → IsBefore k ms → AllBefore (behind found k d) ms
AllBefore-behind found k d no_members h less = tt
AllBefore-behind found k d (member l e ms) h less = (AreBefore-behind found k d l h.0 less.0, AllBefore-behind found k d ms h.1 less.1)

AllBefore-none : (ms : Members) → AllBefore no_members ms
AllBefore-none no_members = tt
AllBefore-none (member k d ms) = (tt, AllBefore-none ms)

joined-none : (found : Members) → joined found no_members ≡ found
joined-none no_members = refl
joined-none (member l e found) = ap (member l e) (joined-none found)

mutual
  pub told : (d : Data) → IsReadable d → has_float d ≡ false → Returns d
  told null h whole = record { utf8 = IsUtf8-are_ascii _ refl; numbers = tt; reads = refl }
  told (boolean b) h whole = record { utf8 = IsUtf8-boolean b; numbers = tt; reads = refl }
  told (number x) h whole = number_told x h whole
  told (string s) h whole = record { utf8 = IsUtf8-quoted s h; numbers = tt; reads = refl }
  told (array ds) h whole = Returns-array ds (items_told ds h whole)
  told (object ms) h whole = Returns-object ms (members_told ms no_members (AllBefore-none ms) h whole)

  items_told : (ds : Items) → AreReadableItems ds → items_have_float ds ≡ false → ItemsReturn ds
  items_told no_items h whole = ItemsReturn-none
  items_told (item d ds) h whole =
      let w = or_parts (has_float d) (items_have_float ds) whole in
      ItemsReturn-item d ds (told d h.0 w.0) (items_told ds h.1 w.1)

  members_told : (ms found : Members) → AllBefore found ms → AreReadableMembers ms → members_have_float ms ≡ false → MembersReturn ms found (joined found ms)
  members_told no_members found before h whole = subst (MembersReturn no_members found) (sym (joined-none found)) (MembersReturn-none found)
  members_told (member k d ms) found before h whole =
      let w = or_parts (has_float d) (members_have_float ms) whole in
      let later = members_told ms (behind found k d) (AllBefore-behind found k d ms before.1 h.1) h.3 w.1 in
      MembersReturn-member k d ms found (joined found (member k d ms)) h.0 (told d h.2 w.0)
      (subst (λ (x : Members). MembersReturn ms x (joined found (member k d ms))) (sym (put-behind k d found before.0))
      (subst (λ (x : Members). MembersReturn ms (behind found k d) x) (joined-behind found k d ms) later))
