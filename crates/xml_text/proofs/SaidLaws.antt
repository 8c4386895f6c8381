-- Laws of what characters say.
use Rattle.std.proofs.Common.{◌≡◌, ℕ, suc, ◌+◌, ◌*◌, ◌<◌, ◌≤◌, min, Bool, true, false, cond, ◌||◌, ◌&&◌, eqb, leb, ltb, List, [], ◌∷◌, ◌++◌, length, take, drop}
use Rattle.std.proofs.Common.{get_or, Option, None, Some, unwrap_or, refl, sym, ap, ◌∙◌, arith, ltb-true, ltb-false, leb-true, leb-false, ne_eqb}
use Rattle.std.proofs.Common.{one-add, not, true≢false, le-mul_of_pos_right, add-one, IsCharBoundary, length-drop, get_or-drop, add-zero}
use Rattle.std.proofs.Common.{append_assoc, append-nil, drop-cons, lt-ltb, encode_utf8, ◌⊎◌, inl, inr}
use Rattle.std.specs.Char.{digit_value}
use Rattle.std.specs.List.{position_or_len, list_all}
use Rattle.std.proofs.lemmas.Bool.{cond-true, cond-false, false_from_ne_true}
use Rattle.std.proofs.lemmas.List.Sums.{position_or_len_is, prefix_len-le-length, prefix_len_stops}
use Rattle.std.proofs.lemmas.Str.{encode_ascii}
use Rattle.memchr.specs.Find.{IsFirstByte, is_byte, is_byte3}
use Rattle.xml_text.specs.Words.{first_is}
use Rattle.xml_text.specs.Said.{is_character, is_changed, plain, number_from}

-- the first byte that passes a test, or the end
pub first_place : (p test : ℕ → Bool) (bs : List ℕ) (r : Option ℕ) → ((b : ℕ) → p b ≡ test b) → IsFirstByte test bs r
    → unwrap_or r (length bs) ≡ position_or_len p bs
first_place p test bs None same h =
    sym (position_or_len_is p bs (length bs) 0 (omega arith)
    (λ k l. same (get_or bs k 0) ∙ false_from_ne_true _ (h k (omega arith) l)) (λ l. absurd (omega (arith, l))))
first_place p test bs (Some n) same h =
    let low = h.0.high in
    sym (position_or_len_is p bs n 0 (omega (arith, low))
    (λ k l. same (get_or bs k 0) ∙ false_from_ne_true _ (h.0.before k (omega arith) l)) (λ _. same (get_or bs n 0) ∙ h.1))

pub changed_text : (b : ℕ) → is_changed false b ≡ is_byte 13 b
changed_text b = elim (eqb b 13) as (λ v. (v || (false && (eqb b 9 || eqb b 10))) ≡ v) [ true ↦ refl | false ↦ refl ]

pub changed_value : (b : ℕ) → is_changed true b ≡ is_byte3 13 9 10 b
changed_value b = elim (eqb b 13) as (λ v. (v || (true && (eqb b 9 || eqb b 10))) ≡ ((v || eqb b 9) || eqb b 10)) [ true ↦ refl | false ↦ refl ]

-- ---- numbers

pub grows : (base x : ℕ) (digits : List ℕ) → 1 ≤ base → x ≤ number_from base x digits
grows base x [] l = omega arith
grows base x (d ∷ digits) l =
    let more : x ≤ x * base = le-mul_of_pos_right x l in
    let rest = grows base (x * base + digit_value d) digits l in
    omega (arith, more, rest)

-- a number past all characters stays there
pub capped : (base x : ℕ) (digits : List ℕ) → 1 ≤ base
    → min 0x110000 (number_from base (min 0x110000 x) digits) ≡ min 0x110000 (number_from base x digits)
capped base x digits l = by (ltb 0x110000 x) refl
  where
    by : (b : Bool) → ltb 0x110000 x ≡ b → min 0x110000 (number_from base (min 0x110000 x) digits) ≡ min 0x110000 (number_from base x digits)
    by true e =
        let m : min 0x110000 x ≡ 0x110000 = omega (arith, ltb-true 0x110000 x e) in
        ap (λ n. min 0x110000 (number_from base n digits)) m
        ∙ omega (arith, ltb-true 0x110000 x e, grows base 0x110000 digits l, grows base x digits l)
    by false e =
        let m : min 0x110000 x ≡ x = omega (arith, ltb-false 0x110000 x e) in ap (λ n. min 0x110000 (number_from base n digits)) m

-- no character is past all characters
no_eqb : (x k : ℕ) → k < x → eqb x k ≡ false
no_eqb x k l = ne_eqb x k (λ e. absurd (omega (arith, e, l)))

no_ltb : (x k : ℕ) → k ≤ x → ltb x k ≡ false
no_ltb x k l = false_from_ne_true _ (λ t. let h = ltb-true x k t in absurd (omega (arith, h, l)))

past : (x : ℕ) → 0x110000 ≤ x → is_character x ≡ false
past x l =
    let a = no_eqb x 9 (omega (arith, l)) in
    let b = no_eqb x 10 (omega (arith, l)) in
    let c = no_eqb x 13 (omega (arith, l)) in
    let d = no_ltb x 0xD800 (omega (arith, l)) in
    let e = no_ltb x 0xFFFE (omega (arith, l)) in
    let f = no_ltb x 0x110000 l in
    rw (a, b, c, d, e, f) (none (leb 32 x) (leb 0xE000 x) (leb 0x10000 x))
  where
    none : (p q r : Bool) → ((p && false) || (q && false) || (r && false)) ≡ false
    none true true true = refl
    none true true false = refl
    none true false true = refl
    none true false false = refl
    none false true true = refl
    none false true false = refl
    none false false true = refl
    none false false false = refl

pub same_character : (x : ℕ) → is_character (min 0x110000 x) ≡ is_character x
same_character x = by (leb 0x110000 x) refl
  where
    by : (b : Bool) → leb 0x110000 x ≡ b → is_character (min 0x110000 x) ≡ is_character x
    by true e =
        let m : min 0x110000 x ≡ 0x110000 = omega (arith, leb-true 0x110000 x e) in ap is_character m ∙ sym (past x (leb-true 0x110000 x e))
    by false e = let m : min 0x110000 x ≡ x = omega (arith, leb-false 0x110000 x e) in ap is_character m

-- ---- stretches

same_byte : (v : Bool) (b : ℕ) → is_changed v b ≡ false → eqb b 13 ≡ false
same_byte v b e = by (eqb b 13) refl
  where
    by : (t : Bool) → eqb b 13 ≡ t → t ≡ false
    by true h = absurd (true≢false (sym (ap (λ (t : Bool). t || (v && (eqb b 9 || eqb b 10))) h) ∙ e))
    by false h = refl

-- up to the first byte that says another, bytes say themselves
pub plain_front : (v : Bool) (bs : List ℕ) → plain v bs ≡ take (position_or_len (is_changed v) bs) bs ++ plain v (drop (position_or_len (is_changed v) bs) bs)
unfolding plain
plain_front v [] = refl
plain_front v (b ∷ bs) = by (is_changed v b) refl (plain_front v bs)
  where
    by : (t : Bool) → is_changed v b ≡ t
        → plain v bs ≡ take (position_or_len (is_changed v) bs) bs ++ plain v (drop (position_or_len (is_changed v) bs) bs)
        → plain v (b ∷ bs)
        ≡ take (position_or_len (is_changed v) (b ∷ bs)) (b ∷ bs) ++ plain v (drop (position_or_len (is_changed v) (b ∷ bs)) (b ∷ bs))
    by true e later =
        let n : position_or_len (is_changed v) (b ∷ bs) ≡ 0 = ap (λ t. cond (not t) (1 + position_or_len (is_changed v) bs) 0) e in
        sym (ap (λ n. take n (b ∷ bs) ++ plain v (drop n (b ∷ bs))) n)
    by false e later =
        let n : position_or_len (is_changed v) (b ∷ bs) ≡ suc (position_or_len (is_changed v) bs) =
        ap (λ t. cond (not t) (1 + position_or_len (is_changed v) bs) 0) e ∙ one-add (position_or_len (is_changed v) bs) in
        let stays : plain v (b ∷ bs) ≡ b ∷ plain v bs =
        cond-false _ _ _ (ap (λ t. t && first_is (λ c. eqb c 10) bs) (same_byte v b e)) ∙ ap (λ c. c ∷ plain v bs) (cond-false _ _ _ e) in
        stays ∙ ap (λ rest. b ∷ rest) later ∙ sym (ap (λ n. take n (b ∷ bs) ++ plain v (drop n (b ∷ bs))) n)

-- a byte that says another is ASCII
pub small_changed : (v : Bool) (b : ℕ) → is_changed v b ≡ true → b < 128
small_changed true b h = grind arith
small_changed false b h = grind arith

-- what a byte says that says another
pub plain_changed : (v : Bool) (bs : List ℕ) → 0 < length bs → is_changed v (get_or bs 0 0) ≡ true
    → plain v bs ≡ cond (eqb (get_or bs 0 0) 13 && first_is (λ c. eqb c 10) (drop 1 bs)) (plain v (drop 1 bs)) (cond v 32 10 ∷ plain v (drop 1 bs))
unfolding plain
plain_changed v [] l h = absurd (omega (arith, l))
plain_changed v (b ∷ bs) l h = ap (λ c. cond (eqb b 13 && first_is (λ c. eqb c 10) bs) (plain v bs) (c ∷ plain v bs)) (cond-true _ _ _ h)

-- the byte at that place
changed_at : (v : Bool) (bs : List ℕ) → position_or_len (is_changed v) bs < length bs
    → is_changed v (get_or bs (position_or_len (is_changed v) bs) 0) ≡ true
changed_at v bs l = not_false _ (prefix_len_stops (λ b. not (is_changed v b)) bs 0 l)
  where
    not_false : (t : Bool) → not t ≡ false → t ≡ true
    not_false true h = refl
    not_false false h = absurd (true≢false h)

pub changed_boundary : (v : Bool) (bs : List ℕ) → IsCharBoundary bs (position_or_len (is_changed v) bs)
changed_boundary v bs = (
  prefix_len-le-length _ bs,
  λ l high. absurd (let h = small_changed v _ (changed_at v bs l) in omega (arith, h, high)),
)

pub changed_there : (v : Bool) (bs : List ℕ) → 0 < length (drop (position_or_len (is_changed v) bs) bs)
    → is_changed v (get_or (drop (position_or_len (is_changed v) bs) bs) 0 0) ≡ true
changed_there v bs l =
    let n = position_or_len (is_changed v) bs in
    let inside : n < length bs = omega (arith, l, length-drop n bs) in
    ap (is_changed v) (get_or-drop n bs 0 0 ∙ ap (λ m. get_or bs m 0) (add-zero n)) ∙ changed_at v bs inside

-- a carriage return before a line feed
pub said_pair : (v : Bool) (out text rest : List ℕ) (b : Bool) → 0 < length text → is_changed v (get_or text 0 0) ≡ true → rest ≡ drop 1 text
    → b ≡ (eqb (get_or text 0 0) 13 && first_is (λ c. eqb c 10) rest) → b ≡ true → out ++ plain v rest ≡ out ++ plain v text
said_pair v out text rest b l h is test so =
    let same : plain v text ≡ plain v rest =
    plain_changed v text l h
    ∙ ap (λ r. cond (eqb (get_or text 0 0) 13 && first_is (λ c. eqb c 10) r) (plain v r) (cond v 32 10 ∷ plain v r)) (sym is)
    ∙ cond-true _ _ _ (sym test ∙ so) in
    ap (λ p. out ++ p) (sym same)

-- another byte that says another
pub said_blank : (v : Bool) (out new text rest : List ℕ) (b : Bool) → 0 < length text → is_changed v (get_or text 0 0) ≡ true → rest ≡ drop 1 text
    → b ≡ (eqb (get_or text 0 0) 13 && first_is (λ c. eqb c 10) rest) → b ≡ false → new ≡ out ++ encode_utf8 (cond v 32 10)
    → new ++ plain v rest ≡ out ++ plain v text
said_blank v out new text rest b l h is test so pushed =
    let same : plain v text ≡ cond v 32 10 ∷ plain v rest =
    plain_changed v text l h
    ∙ ap (λ r. cond (eqb (get_or text 0 0) 13 && first_is (λ c. eqb c 10) r) (plain v r) (cond v 32 10 ∷ plain v r)) (sym is)
    ∙ cond-false _ _ _ (sym test ∙ so) in
    ap (λ n. n ++ plain v rest) (pushed ∙ ap (λ c. out ++ c) (one v)) ∙ append_assoc out (cond v 32 10 ∷ []) (plain v rest)
    ∙ ap (λ p. out ++ p) (sym same)
  where
    one : (v : Bool) → encode_utf8 (cond v 32 10) ≡ cond v 32 10 ∷ []
    one true = encode_ascii 32 (omega arith)
    one false = encode_ascii 10 (omega arith)

-- a whole text without such a byte
pub said_all : (v : Bool) (out new front behind text : List ℕ) → plain v text ≡ front ++ plain v behind → length behind ≡ 0 → new ≡ out ++ front
    → new ++ [] ≡ out ++ plain v text
unfolding plain
said_all v out new front [] text e none pushed = append-nil new ∙ pushed ∙ ap (λ p. out ++ p) (sym (append-nil front) ∙ sym e)
said_all v out new front (b ∷ behind) text e none pushed = absurd (omega (arith, none))

pub said_more : (v : Bool) (out new last front behind rest text : List ℕ) → plain v text ≡ front ++ plain v behind → new ≡ out ++ front
    → last ++ plain v rest ≡ new ++ plain v behind → last ++ plain v rest ≡ out ++ plain v text
said_more v out new last front behind rest text e pushed h =
    h ∙ ap (λ n. n ++ plain v behind) pushed ∙ append_assoc out front (plain v behind) ∙ ap (λ p. out ++ p) (sym e)

-- ---- digits

behind_one : (digits : List ℕ) (i : ℕ) → i < length digits → drop i digits ≡ get_or digits i 0 ∷ drop (i + 1) digits
behind_one digits i l = drop-cons digits i 0 l ∙ ap (λ m. get_or digits i 0 ∷ drop m digits) (sym (add-one i))

pub step : (base n value i : ℕ) (digits : List ℕ) → 1 ≤ base → i < length digits → value ≡ digit_value (get_or digits i 0)
    → min 0x110000 (number_from base (min 0x110000 (n * base + value)) (drop (i + 1) digits)) ≡ min 0x110000 (number_from base n (drop i digits))
step base n value i digits some l is =
    capped base (n * base + value) (drop (i + 1) digits) some
    ∙ ap (λ v. min 0x110000 (number_from base (n * base + v) (drop (i + 1) digits))) is
    ∙ sym (ap (λ ds. min 0x110000 (number_from base n ds)) (behind_one digits i l))

pub digits_step : (base value i : ℕ) (digits : List ℕ) → i < length digits → value ≡ digit_value (get_or digits i 0) → value < base
    → list_all (λ b. ltb (digit_value b) base) (drop (i + 1) digits) ≡ list_all (λ b. ltb (digit_value b) base) (drop i digits)
digits_step base value i digits l is small =
    sym (ap (list_all (λ b. ltb (digit_value b) base)) (behind_one digits i l)
    ∙ ap (λ t. t && list_all (λ b. ltb (digit_value b) base) (drop (i + 1) digits)) (lt-ltb (digit_value (get_or digits i 0)) base (omega (arith, is, small))))

pub some_base : (base : ℕ) → (base ≡ 10) ⊎ (base ≡ 16) → 1 ≤ base
some_base base (inl h) = omega (arith, h)
some_base base (inr h) = omega (arith, h)

pub other_way : (x y z : ℕ) → x ≡ min y z → x ≡ min z y
other_way x y z h = omega (arith, h)
