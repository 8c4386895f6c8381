-- What each kind of field reads of its words.
use Rattle.std.proofs.Common.{◌≡◌, ℕ, Bool, eqb, true, false, not, List, [], ◌∷◌, ◌++◌, length, Ok, Option, None, Some, refl, ap, arith}
use Rattle.std.specs.Prelude.{codes}
use Rattle.std.specs.List.{AllByRecursion}
use Rattle.std.specs.Fmt.{decimal, signed_decimal}
use Rattle.std.specs.Str.{bytes_eq}
use Rattle.std.proofs.lemmas.List.Sums.{list_all-from_AllPass}
use Rattle.std.proofs.lemmas.Bool.{le-leb, ne_eqb, eq-eqb, eqb-true, and_from, and_parts}
use Rattle.std.proofs.lemmas.Bool.Decides.{nat_tests}
use Rattle.std.proofs.lemmas.List.Elements.{recursion_from_All}
use Rattle.std.specs.List.{list_all}
use Rattle.map_model.specs.declared.parts.LayerKind.{LayerKind}
use Rattle.map_model.specs.declared.parts.LayerKind.TheVariants as kinds
use Rattle.session.specs.declared.limits.TheConstants.{MAX_DOCUMENT_NAME, MAX_FILE_NAME, MAX_TEXT, MAX_KEY}
use Rattle.map_model.specs.declared.limits.TheConstants.{MAX_SIDE}
use Rattle.session.specs.Words.{words, number_of, coordinate_of, member_owner_of, owner_of, choice_of, is_name, is_name_byte}
use Rattle.session.specs.Words.{is_text, is_text_byte, are_texts, are_rows}
use Rattle.session.specs.Words.{layer_kind_of, yes_no_of, truth_of, is_key, is_key_byte, is_color, is_color_digit}
use Rattle.session.specs.Grammar.{word_at, passing, rows_at, block_at, last_json_at, last_text_at, last_texts_at, field_at, FieldKind}
use Rattle.session.specs.Grammar.{Number, Coordinate, Block, Name, File}
use Rattle.session.specs.Grammar.{Choice, LayerSort, YesNo, Truth, Key, Color, OwnerName, OwnerOfMembers, FieldValue}
use Rattle.session.specs.Spelling.{joined_by_bars, AreTexts, commas, choice_word, layer_kind_word, yes_no_word, truth_word, owner_word, field_words, IsField}
use Rattle.session.specs.Spelling.{IsName, IsChoice, IsJsonText, IsText, IsKey, AreRows, member_owner_word}
use Rattle.session.proofs.Decimals.{number_of-decimal}
use Rattle.session.proofs.Coordinates.{coordinate_of-signed}
use Rattle.session.proofs.Commas.{numbers_of-commas, plain_commas}
use Rattle.session.proofs.SpacedWords.{IsPlain, Plain, Clean, clean, plain_literal, plain_number, plain_coordinate, plain_name}
use Rattle.session.proofs.Cutting.{json_of_words, text_of_words, texts_of_words}
use Rattle.session.proofs.Bars.{cut_at_bars-joined}
use Rattle.session.proofs.Owners.{owner_of-word, plain_owner}
use Rattle.session.proofs.MoreOwners.{member_owner_of-word, plain_member_owner}

-- the word of a value is read as that value
pub word_at-word : {A : Type 0} (value_of : List ℕ → Option A) (w : List ℕ) (x : A) (ws : List (List ℕ)) → value_of w ≡ Some x
    → word_at value_of (w ∷ ws) ≡ Ok (x, ws)
unfolding word_at
word_at-word value_of w x ws e = rw e refl

-- a word that passes is itself
passing-itself : (test : List ℕ → Bool) (w : List ℕ) → test w ≡ true → passing test w ≡ Some w
passing-itself test w is = rw is refl

block : (width : ℕ) (values : List ℕ) → AreRows width values → are_rows width (length values) ≡ true
block width values h = and_from _ _ (and_from _ _ (le-leb 1 width h.some) (le-leb width MAX_SIDE h.narrow)) (eq-eqb _ 0 h.rows)

rows_at-commas : (width : ℕ) (values : List ℕ) (ws : List (List ℕ)) → AreRows width values → rows_at width (commas values ∷ ws) ≡ Ok ((width, values), ws)
unfolding rows_at
rows_at-commas width values ws h = rw (numbers_of-commas values h.filled h.numbers, block width values h) refl

pub block_at-words : (width : ℕ) (values : List ℕ) (ws : List (List ℕ)) → AreRows width values
    → block_at (decimal width ∷ commas values ∷ ws) ≡ Ok ((width, values), ws)
unfolding block_at
block_at-words width values ws h =
    rw (word_at-word number_of (decimal width) width (commas values ∷ ws) (number_of-decimal width (omega (arith, h.narrow))))
    (rows_at-commas width values ws h)

name : (limit : ℕ) (bytes : List ℕ) → IsName limit bytes → is_name limit bytes ≡ true
name limit bytes h =
    and_from _ _ (and_from _ _ (and_from _ _ (and_from _ _ (le-leb 1 (length bytes) h.some) (le-leb (length bytes) limit h.short))
    (ap not (ne_eqb _ 46 h.no_dot))) (ap not (ne_eqb _ 45 h.no_dash)))
    (list_all-from_AllPass is_name_byte bytes h.bytes)

-- a name does not begin with a dash
not_dash : (limit : ℕ) (bytes : List ℕ) → IsName limit bytes → bytes_eq bytes (codes "-") ≡ false
not_dash limit [] h = absurd (omega (arith, h.some))
not_dash limit (b ∷ bytes) h = rw (ne_eqb b 45 h.no_dash) refl

choice_of-word : (choice : Option (List ℕ)) → IsChoice choice → choice_of (choice_word choice) ≡ Some choice
choice_of-word None h = refl
choice_of-word (Some bytes) h = rw (not_dash MAX_DOCUMENT_NAME bytes h, name MAX_DOCUMENT_NAME bytes h) refl

text : (bytes : List ℕ) → IsText bytes → is_text bytes ≡ true
text bytes h =
    and_from _ _ (and_from _ _ (le-leb 1 (length bytes) h.some) (le-leb (length bytes) MAX_TEXT h.short))
    (list_all-from_AllPass is_text_byte bytes (λ k d l. let at = h.bytes k d l in and_from _ _ (le-leb 32 _ at.0) (ap not (ne_eqb _ 127 at.1))))

pub last_text_at-words : (bytes : List ℕ) → IsText bytes → last_text_at (words bytes) ≡ Ok bytes
last_text_at-words bytes h = rw (text_of_words bytes, text bytes h) refl

texts : (first : List ℕ) (action : Option (List ℕ)) → AreTexts first action → are_texts first action ≡ true
texts first None h = text first h.first
texts first (Some action) h = and_from _ _ (text first h.first) (text action h.second)

pub last_texts_at-words : (first : List ℕ) (action : Option (List ℕ)) → AreTexts first action
    → last_texts_at (words (joined_by_bars first action)) ≡ Ok (first, action)
last_texts_at-words first action h = rw (texts_of_words (joined_by_bars first action), cut_at_bars-joined first action h.no_bars, texts first action h) refl

no_size : (json : List ℕ) → IsJsonText json → eqb (length json) 0 ≡ false
no_size json h = ne_eqb (length json) 0 (λ e. omega (arith, h.some, e))

pub last_json_at-words : (json : List ℕ) → IsJsonText json → last_json_at (words json) ≡ Ok json
last_json_at-words json h = rw (json_of_words json, no_size json h) refl

layer_kind_of-word : (kind : LayerKind) → layer_kind_of (layer_kind_word kind) ≡ Some kind
layer_kind_of-word kinds.Tile = refl
layer_kind_of-word kinds.Object = refl

yes_no_of-word : (answer : Bool) → yes_no_of (yes_no_word answer) ≡ Some answer
yes_no_of-word true = refl
yes_no_of-word false = refl

truth_of-word : (truth : Bool) → truth_of (truth_word truth) ≡ Some truth
truth_of-word true = refl
truth_of-word false = refl

key : (bytes : List ℕ) → IsKey bytes → is_key bytes ≡ true
key bytes h =
    and_from _ _ (and_from _ _ (le-leb 1 (length bytes) h.some) (le-leb (length bytes) MAX_KEY h.short))
    (list_all-from_AllPass is_key_byte bytes (λ k d l. let at = h.bytes k d l in and_from _ _ (le-leb 33 _ at.0) (ap not (ne_eqb _ 127 at.1))))

plain_truth : (truth : Bool) → Plain (truth_word truth)
plain_truth true = plain_literal (codes "true") refl
plain_truth false = plain_literal (codes "false") refl

color_digit : (b : ℕ) → is_color_digit b ≡ true → IsPlain b
color_digit b h = (grind (arith, nat_tests), grind (arith, nat_tests))

color_digits : (digits : List ℕ) → list_all is_color_digit digits ≡ true → AllByRecursion IsPlain digits
color_digits [] h = tt
color_digits (b ∷ digits) h = let halves = and_parts _ _ h in (color_digit b halves.0, color_digits digits halves.1)

plain_color : (color : List ℕ) → is_color color ≡ true → Plain color
plain_color [] h = absurd cc
plain_color (b ∷ digits) h =
    let halves = and_parts _ _ h in
    let prefix = and_parts _ _ halves.0 in
    let hash : b ≡ 35 = eqb-true b 35 prefix.0 in
    record { bytes = ((omega (arith, hash), omega (arith, hash)), color_digits digits halves.1) }

clean_key : (name : List ℕ) → IsKey name → Clean name
clean_key name h = record { no_space = recursion_from_All _ name (λ k d l. ne_eqb _ 32 (λ e. omega (arith, (h.bytes k d l).0, e))); utf8 = h.utf8 }

pub plain_kind : (kind : LayerKind) → Plain (layer_kind_word kind)
plain_kind kinds.Tile = plain_literal (codes "tile") refl
plain_kind kinds.Object = plain_literal (codes "object") refl

pub plain_yes_no : (answer : Bool) → Plain (yes_no_word answer)
plain_yes_no true = plain_literal (codes "yes") refl
plain_yes_no false = plain_literal (codes "no") refl

pub plain_choice : (choice : Option (List ℕ)) → IsChoice choice → Plain (choice_word choice)
plain_choice None h = plain_literal (codes "-") refl
plain_choice (Some bytes) h = plain_name MAX_DOCUMENT_NAME bytes h

-- a field is read from its words
pub field_at-words : (kind : FieldKind) (value : FieldValue kind) (ws : List (List ℕ)) → IsField kind value
    → field_at kind (field_words kind value ++ ws) ≡ Ok (value, ws)
field_at-words Number n ws h = word_at-word number_of (decimal n) n ws (number_of-decimal n h)
field_at-words Coordinate z ws h = word_at-word coordinate_of (signed_decimal z) z ws (coordinate_of-signed z h)
field_at-words Block block ws h = block_at-words block.0 block.1 ws h
field_at-words Name bytes ws h =
    let test : List ℕ → Bool = is_name MAX_DOCUMENT_NAME in
    word_at-word (passing test) bytes bytes ws (passing-itself test bytes (name MAX_DOCUMENT_NAME bytes h))
field_at-words File bytes ws h =
    let test : List ℕ → Bool = is_name MAX_FILE_NAME in
    word_at-word (passing test) bytes bytes ws (passing-itself test bytes (name MAX_FILE_NAME bytes h))
field_at-words Choice choice ws h = word_at-word choice_of (choice_word choice) choice ws (choice_of-word choice h)
field_at-words LayerSort kind ws h = word_at-word layer_kind_of (layer_kind_word kind) kind ws (layer_kind_of-word kind)
field_at-words YesNo answer ws h = word_at-word yes_no_of (yes_no_word answer) answer ws (yes_no_of-word answer)
field_at-words Truth truth ws h = word_at-word truth_of (truth_word truth) truth ws (truth_of-word truth)
field_at-words Key bytes ws h = word_at-word (passing is_key) bytes bytes ws (passing-itself is_key bytes (key bytes h))
field_at-words Color bytes ws h = word_at-word (passing is_color) bytes bytes ws (passing-itself is_color bytes h)
field_at-words OwnerName owner ws h = word_at-word owner_of (owner_word owner) owner ws (owner_of-word owner h)
field_at-words OwnerOfMembers owner ws h = word_at-word member_owner_of (member_owner_word owner) owner ws (member_owner_of-word owner h)

pub clean_field : (kind : FieldKind) (value : FieldValue kind) → IsField kind value → AllByRecursion Clean (field_words kind value)
clean_field Number n h = (clean _ (plain_number n h), tt)
clean_field Coordinate z h = (clean _ (plain_coordinate z h), tt)
clean_field Block block h = (clean _ (plain_number block.0 (omega (arith, h.narrow))), (clean _ (plain_commas block.1 h.numbers), tt))
clean_field Name bytes h = (clean _ (plain_name MAX_DOCUMENT_NAME bytes h), tt)
clean_field File bytes h = (clean _ (plain_name MAX_FILE_NAME bytes h), tt)
clean_field Choice choice h = (clean _ (plain_choice choice h), tt)
clean_field LayerSort kind h = (clean _ (plain_kind kind), tt)
clean_field YesNo answer h = (clean _ (plain_yes_no answer), tt)
clean_field Truth truth h = (clean _ (plain_truth truth), tt)
clean_field Key bytes h = (clean_key bytes h, tt)
clean_field Color bytes h = (clean _ (plain_color bytes h), tt)
clean_field OwnerName owner h = (clean _ (plain_owner owner h), tt)
clean_field OwnerOfMembers owner h = (clean _ (plain_member_owner owner h), tt)
