-- How long the tokens of a line are.
use Rattle.std.proofs.Common.{◌≡◌, ℕ, suc, ◌+◌, ◌^◌, ◌<◌, ◌≤◌, Bool, true, false, leb, eqb, List, [], ◌∷◌, ◌++◌, length, None, Some, ℤ, pos, negsuc, ap, arith}
use Rattle.std.proofs.Common.{inl, inr, IsTrue, ◌||◌, ◌&&◌, Option}
use Rattle.std.specs.List.{AllByRecursion, flat_map, list_all}
use Rattle.std.specs.Fmt.{decimal, signed_decimal}
use Rattle.std.proofs.lemmas.Int.{ints}
use Rattle.std.proofs.lemmas.Fmt.{length-decimal-le}
use Rattle.std.proofs.lemmas.List.{length-append}
use Rattle.std.proofs.lemmas.List.Splits.{length-slice_split, join_with_byte-slice_split}
use Rattle.std.proofs.lemmas.Bool.{leb-true, eqb-true, and_parts, or_cases}
use Rattle.map_model.specs.declared.parts.LayerKind.{LayerKind}
use Rattle.map_model.specs.declared.parts.LayerKind.TheVariants as kinds
use Rattle.map_model.specs.declared.owner.MemberOwner.{MemberOwner}
use Rattle.map_model.specs.declared.owner.MemberOwner.TheVariants as members
use Rattle.map_model.specs.declared.owner.Owner.{Owner}
use Rattle.map_model.specs.declared.owner.Owner.TheVariants as owners
use Rattle.session.specs.declared.limits.TheConstants.{MAX_LINE, MAX_DOCUMENT_NAME, MAX_FILE_NAME, MAX_TEXT, MAX_KEY}
use Rattle.session.specs.Words.{words, bars, is_color, is_color_digit}
use Rattle.session.specs.Grammar.{FieldKind, Number, Coordinate, Block, Name, File, Choice, LayerSort, YesNo, Truth, Key}
use Rattle.session.specs.Grammar.{Color, OwnerName, OwnerOfMembers, FieldValue}
use Rattle.session.specs.Spelling.{Token, Fixed, Given, Rest, RestTexts, RestJson, token_words, field_words, has_block, layer_kind_word, yes_no_word, truth_word}
use Rattle.session.specs.Spelling.{owner_word, spaced, joined_by_bars, AreTexts, IsMemberOwner, IsNumber, IsOwner}
use Rattle.session.specs.Spelling.{IsCoordinate, IsField, IsToken, member_owner_word}

-- no fewer than the bytes of a field's words
abbrev pub field_room : FieldKind → ℕ
field_room Number = 10
field_room Coordinate = 11
field_room Block = MAX_LINE + 1
field_room Name = MAX_DOCUMENT_NAME
field_room File = MAX_FILE_NAME
field_room Choice = MAX_DOCUMENT_NAME
field_room LayerSort = 6
field_room YesNo = 3
field_room Truth = 5
field_room Key = MAX_KEY
field_room Color = 9
field_room OwnerName = 17
field_room OwnerOfMembers = 18

-- no fewer than the bytes of tokens, each with a space behind it
abbrev pub room : List Token → ℕ
room [] = 0
room (Fixed word ∷ ts) = length word + 1 + room ts
room (Given kind value ∷ ts) = field_room kind + 1 + room ts
room (Rest text ∷ ts) = MAX_TEXT + 1 + room ts
room (RestTexts text action ∷ ts) = MAX_TEXT + length bars + MAX_TEXT + 1 + room ts
room (RestJson json ∷ ts) = MAX_LINE + 1 + room ts

-- the bytes of words, each with a space behind it
unfoldable pub total : List (List ℕ) → ℕ
total [] = 0
total (w ∷ ws) = length w + 1 + total ws

pub length-spaced : (w : List ℕ) (ws : List (List ℕ)) → length (spaced (w ∷ ws)) + 1 ≡ total (w ∷ ws)
unfolding total
length-spaced w [] = omega arith
length-spaced w (v ∷ ws) = omega (arith, length-append w (32 ∷ spaced (v ∷ ws)), length-spaced v ws)

spaced_within : (ws : List (List ℕ)) → length (spaced ws) ≤ total ws
unfolding total
spaced_within [] = omega arith
spaced_within (w ∷ ws) = omega (arith, length-spaced w ws)

pub total-append : (us ws : List (List ℕ)) → total (us ++ ws) ≡ total us + total ws
unfolding total
total-append [] ws = omega arith
total-append (u ∷ us) ws = omega (arith, total-append us ws)

total_some : (ws : List (List ℕ)) → 1 ≤ length ws → total ws ≡ length (spaced ws) + 1
total_some [] h = absurd (omega arith)
total_some (w ∷ ws) h = omega (arith, length-spaced w ws)

pub total-words : (text : List ℕ) → total (words text) ≡ length text + 1
total-words text = omega (
  arith,
  total_some (words text) (omega (arith, length-slice_split (λ b. eqb b 32) text)),
  ap length
      (join_with_byte-slice_split 32 text),
)

pub number_within : (n : ℕ) → IsNumber n → length (decimal n) ≤ 10
number_within n h = length-decimal-le 10 n (omega arith) (omega arith) (omega arith)

coordinate_within : (z : ℤ) → IsCoordinate z → length (signed_decimal z) ≤ 11
coordinate_within (pos n) h = let k : n < 2 ^ 32 = omega (arith, ints, h.high) in omega (arith, number_within n k)
coordinate_within (negsuc n) h = let k : suc n < 2 ^ 32 = omega (arith, ints, h.low) in omega (arith, number_within (suc n) k)

kind_within : (kind : LayerKind) → length (layer_kind_word kind) ≤ 6
kind_within kinds.Tile = omega arith
kind_within kinds.Object = omega arith

yes_no_within : (answer : Bool) → length (yes_no_word answer) ≤ 3
yes_no_within true = omega arith
yes_no_within false = omega arith

truth_within : (truth : Bool) → length (truth_word truth) ≤ 5
truth_within true = omega arith
truth_within false = omega arith

color_within : (color : List ℕ) → is_color color ≡ true → length color ≤ 9
color_within [] h = omega arith
color_within (b ∷ digits) h =
    let halves = and_parts (eqb b 35 && (eqb (length digits) 6 || eqb (length digits) 8)) (list_all is_color_digit digits) h in
    let prefix = and_parts (eqb b 35) (eqb (length digits) 6 || eqb (length digits) 8) halves.0 in
    elim (or_cases (eqb (length digits) 6) (eqb (length digits) 8) prefix.1) [
      | inl six ↦ omega (arith, eqb-true (length digits) 6 six)
      | inr eight ↦ omega (arith, eqb-true (length digits) 8 eight)
    ]

owner_within : (owner : Owner) → IsOwner owner → length (owner_word owner) ≤ 17
owner_within owners.Map h = omega arith
owner_within (owners.Layer id) h = omega (arith, number_within id h)
owner_within (owners.Object id) h = omega (arith, number_within id h)

member_owner_within : (owner : MemberOwner) → IsMemberOwner owner → length (member_owner_word owner) ≤ 18
member_owner_within members.Map h = omega arith
member_owner_within (members.Layer id) h = omega (arith, number_within id h)
member_owner_within (members.Object id) h = omega (arith, number_within id h)
member_owner_within (members.Tileset id) h = omega (arith, number_within id h)

pub field_within : (kind : FieldKind) (value : FieldValue kind) → IsField kind value → field_room kind ≤ MAX_LINE
    → total (field_words kind value) ≤ field_room kind + 1
unfolding total
field_within Number n h r = omega (arith, number_within n h)
field_within Coordinate z h r = omega (arith, coordinate_within z h)
field_within Block block h r = absurd (omega (arith, r))
field_within Name name h r = omega (arith, h.short)
field_within File name h r = omega (arith, h.short)
field_within Choice None h r = omega arith
field_within Choice (Some name) h r = omega (arith, h.short)
field_within LayerSort kind h r = omega (arith, kind_within kind)
field_within YesNo answer h r = omega (arith, yes_no_within answer)
field_within Truth truth h r = omega (arith, truth_within truth)
field_within Key name h r = omega (arith, h.short)
field_within Color color h r = omega (arith, color_within color h)
field_within OwnerName owner h r = omega (arith, owner_within owner h)
field_within OwnerOfMembers owner h r = omega (arith, member_owner_within owner h)

joined_within : (text : List ℕ) (action : Option (List ℕ)) → AreTexts text action → length (joined_by_bars text action) ≤ MAX_TEXT + length bars + MAX_TEXT
joined_within text None h = omega (arith, h.first.short)
joined_within text (Some action) h = omega (arith, h.first.short, h.second.short, length-append text (bars ++ action), length-append bars action)

tokens_within : (ts : List Token) → AllByRecursion IsToken ts → room ts ≤ MAX_LINE → total (flat_map token_words ts) ≤ room ts
unfolding total
tokens_within [] h r = omega arith
tokens_within (Fixed word ∷ ts) h r = omega (arith, tokens_within ts h.1 (omega (arith, r)))
tokens_within (Given kind value ∷ ts) h r = omega (
  arith,
  total-append (field_words kind value) (flat_map token_words ts),
  field_within kind value h.0
      (omega (arith, r)),
  tokens_within ts h.1 (omega (arith, r)),
)
tokens_within (Rest text ∷ ts) h r = omega (
  arith,
  total-append (words text) (flat_map token_words ts),
  total-words text,
  h.0.short,
  tokens_within ts h.1
      (omega (arith, r)),
)
tokens_within (RestTexts text action ∷ ts) h r = omega (
  arith,
  total-append (words (joined_by_bars text action)) (flat_map token_words ts),
  total-words
      (joined_by_bars text action),
  joined_within text action h.0,
  tokens_within ts h.1 (omega (arith, r)),
)
tokens_within (RestJson json ∷ ts) h r = absurd (omega (arith, r))

-- tokens without a block are short, and with one they have to be
pub is_short : (ts : List Token) → (has_block ts || leb (room ts) MAX_LINE) ≡ true → AllByRecursion IsToken ts
    → (IsTrue (has_block ts) → length (spaced (flat_map token_words ts)) ≤ MAX_LINE) → length (spaced (flat_map token_words ts)) ≤ MAX_LINE
is_short ts few h short = elim (or_cases _ _ few) [
  | inl block ↦ short block
  | inr small ↦ let r = leb-true _ _ small in omega (arith, r, spaced_within (flat_map token_words ts), tokens_within ts h r)
]
