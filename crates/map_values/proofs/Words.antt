-- Four bytes a number, as a loop reads them, and as one writes them.
use Rattle.std.proofs.Common.{eqb, eq-eqb, Some, Ok, true, zero, suc, ◌^◌, ◌≡◌, ℕ, ◌+◌, ◌*◌, ◌<◌, ◌≤◌, List, [], ◌∷◌, ◌++◌, length, get_or}
use Rattle.std.proofs.Common.{take, drop, refl, sym, ap, ◌∙◌, append_assoc, arith}
use Rattle.std.specs.List.{list_all}
use Rattle.map_model.specs.Lists.{Each}
use Rattle.std.proofs.lemmas.Bool.{lt-ltb, ltb-true, and_parts}
use Rattle.base64.specs.Engines.{standard}
use Rattle.base64.specs.GeneralPurpose.{IsBytes, decode_of}
use Rattle.serde_json.specs.Data.{Data}
use Rattle.serde_json.specs.Find.{as_str}
use Rattle.std.specs.Int.{w32, from_le_bytes, to_le_bytes}
use Rattle.std.proofs.lemmas.List.{append-nil, at_drop_more, drop_all, take_more}
use Rattle.map_values.specs.Cells.{bytes_of, words_of, is_byte, packed, base64_cells_at}

drop_one : (s : List ℕ) (i j : ℕ) → j ≡ i + 1 → i < length s → drop i s ≡ get_or s i 0 ∷ drop j s
drop_one s i j e h = at_drop_more (λ (xs : List ℕ). xs) s i 0 h ∙ ap (λ n. get_or s i 0 ∷ drop n s) (sym e)

pub words_of-drop : (s : List ℕ) (i : ℕ) → i + 4 ≤ length s
    → words_of (drop i s) ≡ from_le_bytes w32 (get_or s i 0 ∷ get_or s (i + 1) 0 ∷ get_or s (i + 2) 0 ∷ get_or s (i + 3) 0 ∷ []) ∷ words_of (drop (i + 4) s)
unfolding words_of
words_of-drop s i h =
    let a = drop_one s i (i + 1) refl (omega arith) in
    let b = drop_one s (i + 1) (i + 2) (omega arith) (omega arith) in
    let c = drop_one s (i + 2) (i + 3) (omega arith) (omega arith) in
    let d = drop_one s (i + 3) (i + 4) (omega arith) (omega arith) in
    rw (a, b, c, d) refl

pub one_more_word : (prefix s : List ℕ) (i : ℕ) (word : ℕ) → 4 * i + 4 ≤ length s
    → word ≡ from_le_bytes w32 (get_or s (4 * i) 0 ∷ get_or s (4 * i + 1) 0 ∷ get_or s (4 * i + 2) 0 ∷ get_or s (4 * i + 3) 0 ∷ [])
    → (prefix ++ word ∷ []) ++ words_of (drop (4 * (i + 1)) s) ≡ prefix ++ words_of (drop (4 * i) s)
one_more_word prefix s i word h is =
    let next : 4 * (i + 1) ≡ 4 * i + 4 = omega arith in
    append_assoc prefix (word ∷ []) (words_of (drop (4 * (i + 1)) s)) ∙ ap (λ (t : List ℕ). prefix ++ t) (rw (next, is) (sym (words_of-drop s (4 * i) h)))

pub all_words : (prefix s : List ℕ) (i : ℕ) → length s ≤ 4 * i → prefix ++ words_of (drop (4 * i) s) ≡ prefix
unfolding words_of
all_words prefix s i h = rw (drop_all (4 * i) s h) (append-nil prefix)

-- ---- bytes

pub is_byte-from_IsBytes : (bytes : List ℕ) → IsBytes bytes → list_all is_byte bytes ≡ true
is_byte-from_IsBytes [] h = refl
is_byte-from_IsBytes (b ∷ bs) h = rw (lt-ltb b 256 (h 0)) (is_byte-from_IsBytes bs (λ i. h (suc i)))

byte_lt : (b : ℕ) (bs : List ℕ) → list_all is_byte (b ∷ bs) ≡ true → (b < 256) × (list_all is_byte bs ≡ true)
byte_lt b bs e = let h = and_parts (is_byte b) (list_all is_byte bs) e in (ltb-true b 256 h.0, h.1)

word_lt : (a b c d : ℕ) → a < 256 → b < 256 → c < 256 → d < 256 → from_le_bytes w32 (a ∷ b ∷ c ∷ d ∷ []) < 2 ^ 32
word_lt a b c d ha hb hc hd = omega arith

pub words_sound : (bytes : List ℕ) (count : ℕ) → length bytes ≡ 4 * count → list_all is_byte bytes ≡ true
    → (length (words_of bytes) ≡ count) × Each (λ w. w < 2 ^ 32) (words_of bytes)
unfolding words_of
words_sound [] count e h = (omega arith, tt)
words_sound (a ∷ []) count e h = absurd (omega arith)
words_sound (a ∷ b ∷ []) count e h = absurd (omega arith)
words_sound (a ∷ b ∷ c ∷ []) count e h = absurd (omega arith)
words_sound (a ∷ b ∷ c ∷ d ∷ rest) zero e h = absurd (omega arith)
words_sound (a ∷ b ∷ c ∷ d ∷ rest) (suc count) e h =
    let ha = byte_lt a (b ∷ c ∷ d ∷ rest) h in
    let hb = byte_lt b (c ∷ d ∷ rest) ha.1 in
    let hc = byte_lt c (d ∷ rest) hb.1 in
    let hd = byte_lt d rest hc.1 in
    let more = words_sound rest count (omega arith) hd.1 in
    (ap suc more.0, (word_lt a b c d ha.0 hb.0 hc.0 hd.0, more.1))

-- what the reader of base64 does, at its end
pub base64_read : (count : ℕ) (d : Data) (text bytes : List ℕ) → as_str d ≡ Some text → decode_of standard (packed text) ≡ Ok bytes → length bytes ≡ 4 * count
    → IsBytes bytes
    → base64_cells_at count d ≡ Ok (words_of bytes)
unfolding base64_cells_at
base64_read count d text bytes is decoded len h =
    let counted : eqb (length bytes) (4 * count) ≡ true = eq-eqb (length bytes) (4 * count) len in
    rw (is, decoded, counted, is_byte-from_IsBytes bytes h) refl

-- ---- as a loop writes them
bytes_of-push : (ns : List ℕ) (n : ℕ) → bytes_of (ns ++ n ∷ []) ≡ bytes_of ns ++ to_le_bytes w32 n
bytes_of-push [] n = append-nil (to_le_bytes w32 n)
bytes_of-push (m ∷ ns) n = ap (λ (t : List ℕ). to_le_bytes w32 m ++ t) (bytes_of-push ns n)
    ∙ sym (append_assoc (to_le_bytes w32 m) (bytes_of ns) (to_le_bytes w32 n))

pub one_more_bytes : (ns : List ℕ) (i n d : ℕ) → i < length ns → n ≡ get_or ns i d → bytes_of (take (i + 1) ns) ≡ bytes_of (take i ns) ++ to_le_bytes w32 n
one_more_bytes ns i n d lt is = ap bytes_of (take_more ns i d lt ∙ ap (λ y. take i ns ++ y ∷ []) (sym is)) ∙ bytes_of-push (take i ns) n
