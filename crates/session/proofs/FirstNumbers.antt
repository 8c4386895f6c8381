-- The number at the front of a text is that of its first piece.
use Rattle.std.proofs.Common.{◌≡◌, ◌≢◌, ℕ, zero, suc, ◌+◌, ◌^◌, ◌<◌, ◌≤◌, true, false, cond, eqb, ltb, not, ◌&&◌, ◌||◌, List, [], ◌∷◌, ◌++◌, length, get_or}
use Rattle.std.proofs.Common.{take, drop, Option, Some, None, Bor, refl, sym, ap, ◌∙◌, subst, arith, inl, inr}
use Rattle.std.specs.List.{AllByRecursion, list_all, slice_split, onto_first}
use Rattle.std.specs.Char.{is_ascii_digit}
use Rattle.std.specs.Str.Parse.{digits_value}
use Rattle.std.proofs.lemmas.Bool.{lt-ltb, ne_eqb, eq-eqb, eqb-false, and_cases, and_from, and_parts, and_right, or_parts, cond_both, true≢false}
use Rattle.std.proofs.lemmas.List.{take-append-drop, length-append, length-take, get_or_append_left, drop_more, take_all}
use Rattle.std.proofs.lemmas.List.Elements.{All-from_recursion}
use Rattle.std.proofs.lemmas.List.Folds.{list_all_at, list_all_more}
use Rattle.std.proofs.lemmas.List.Splits.{slice_split_at, slice_split_none}
use Rattle.std.proofs.Math.Seq.{take-append_seam, get_or-append_seam}
use Rattle.session.specs.Words.{digits_of, number_of, is_numeral_prefix, AreLeadingDigits, HasLargePrefix, IsFirst, pieces_left}
use Rattle.session.proofs.Digits.{digits_large}

pub step_digits : (bs : List ℕ) (i : ℕ) → i < length bs → is_ascii_digit (get_or bs i 0) ≡ true → list_all is_ascii_digit (take i bs) ≡ true
    → list_all is_ascii_digit (take (i + 1) bs) ≡ true
step_digits bs i l h k = list_all_more is_ascii_digit bs i 0 l ∙ and_from _ _ k h

-- ---- the number of one word
number_none : (w : List ℕ) → digits_of w ≡ None → number_of w ≡ None
unfolding number_of
number_none w h =
    let none : Option ℕ = None in
    ap (λ o. cond (is_numeral_prefix w) o none) h ∙ elim (is_numeral_prefix w) as (λ t. cond t none none ≡ none) [ true ↦ refl | false ↦ refl ]

number_no_prefix : (w : List ℕ) → is_numeral_prefix w ≡ false → number_of w ≡ None
unfolding number_of
number_no_prefix w h = ap (λ t. cond t (digits_of w) None) h

number_is : (p : List ℕ) (n : ℕ) → is_numeral_prefix p ≡ true → list_all is_ascii_digit p ≡ true → digits_value 10 p ≡ n → n < 2 ^ 32 → number_of p ≡ Some n
unfolding number_of
number_is p n prefix all value small = rw (prefix, all, lt-ltb (digits_value 10 p) (2 ^ 32) (omega (arith, value, small))) (ap Some value)

digits_none_at : (p : List ℕ) (b : ℕ) (more : List ℕ) → is_ascii_digit b ≡ false → digits_of (p ++ b ∷ more) ≡ None
digits_none_at p b more h =
    let inside : length p < length (p ++ b ∷ more) = omega (arith, length-append p (b ∷ more)) in
    let none = list_all_at is_ascii_digit (p ++ b ∷ more) (length p) 0 inside (ap is_ascii_digit (get_or-append_seam p b more 0) ∙ h) in
    ap (λ t. cond (t && ltb (digits_value 10 (p ++ b ∷ more)) (2 ^ 32)) (Some (digits_value 10 (p ++ b ∷ more))) None) none

-- a prefix with a leading zero stays one with more behind it
prefix_behind : (p w : List ℕ) → 0 < length p → is_numeral_prefix p ≡ false → is_numeral_prefix (p ++ w) ≡ false
prefix_behind p w l h =
    let some = lt-ltb 0 (length p) l in
    let rest : (eqb (length p) 1 || not (eqb (get_or p 0 0) 48)) ≡ false = elim (and_cases _ _ h) [ inl e ↦ absurd (true≢false (sym some ∙ e)) | inr e ↦ e ] in
    let halves = or_parts _ _ rest in
    let more : length p ≢ 1 = eqb-false _ _ halves.0 in
    let long : eqb (length (p ++ w)) 1 ≡ false = ne_eqb (length (p ++ w)) 1 (λ e. more (omega (arith, e, l, length-append p w))) in
    let zeros : not (eqb (get_or (p ++ w) 0 0) 48) ≡ false = ap (λ b. not (eqb b 48)) (get_or_append_left p w 0 0 l) ∙ halves.1 in
    and_right _ _ (ap (λ t. t || not (eqb (get_or (p ++ w) 0 0) 48)) long ∙ zeros)

-- ---- the first piece
pub no_separator : (c : ℕ) (p : List ℕ) → is_ascii_digit c ≡ false → list_all is_ascii_digit p ≡ true → AllByRecursion (λ b. eqb b c ≡ false) p
no_separator c [] l h = tt
no_separator c (b ∷ p) l h = let halves = and_parts _ _ h in
    (ne_eqb b c (λ e. true≢false (sym halves.0 ∙ ap is_ascii_digit e ∙ l)), no_separator c p l halves.1)

pieces_behind : (c : ℕ) (p rest w : List ℕ) (ws : List (List ℕ)) → AllByRecursion (λ b. eqb b c ≡ false) p → slice_split (λ b. eqb b c) rest ≡ w ∷ ws
    → slice_split (λ b. eqb b c) (p ++ rest) ≡ (p ++ w) ∷ ws
pieces_behind c [] rest w ws h e = e
pieces_behind c (b ∷ p) rest w ws h e = rw h.0 (ap (onto_first b) (pieces_behind c p rest w ws h.1 e))

-- the first piece and the others
pub record Pieces (ps : List (List ℕ)) : Type 0 where
  pub first : List ℕ
  pub others : List (List ℕ)
  pub are : ps ≡ first ∷ others

pub any_pieces : (c : ℕ) (bs : List ℕ) → Pieces (slice_split (λ b. eqb b c) bs)
any_pieces c [] = record { first = []; others = []; are = refl }
any_pieces c (b ∷ bs) = cond_both (eqb b c) ([] ∷ slice_split (λ b. eqb b c) bs) (onto_first b (slice_split (λ b. eqb b c) bs)) Pieces
    (λ _. record { first = []; others = slice_split (λ b. eqb b c) bs; are = refl })
    (λ _. let more = any_pieces c bs in record { first = b ∷ more.first; others = more.others; are = ap (onto_first b) more.are })

none_by : (c : ℕ) (ps : List (List ℕ)) (w : List ℕ) (ws : List (List ℕ)) → ps ≡ w ∷ ws → number_of w ≡ None → IsFirst number_of ps c None
none_by c ps w ws e h = let P : List (List ℕ) → Type 0 = λ qs. IsFirst number_of qs c None in subst P (sym e) h

some_by : (c n : ℕ) (rest : Option (Bor (List ℕ))) (ps : List (List ℕ)) (w : List ℕ) (ws : List (List ℕ)) → ps ≡ w ∷ ws → number_of w ≡ Some n
    → ws ≡ pieces_left c rest → IsFirst number_of ps c (Some (n, rest))
some_by c n rest ps w ws e h k = let P : List (List ℕ) → Type 0 = λ qs. IsFirst number_of qs c (Some (n, rest)) in subst P (sym e) (h, k)

-- the digits in front, and what follows them
in_two : (c len : ℕ) (bs w : List ℕ) (ws : List (List ℕ)) → is_ascii_digit c ≡ false → list_all is_ascii_digit (take len bs) ≡ true
    → slice_split (λ b. eqb b c) (drop len bs) ≡ w ∷ ws → slice_split (λ b. eqb b c) bs ≡ (take len bs ++ w) ∷ ws
in_two c len bs w ws l h e = ap (slice_split (λ b. eqb b c)) (sym (take-append-drop len bs))
    ∙ pieces_behind c (take len bs) (drop len bs) w ws (no_separator c (take len bs) l h) e

pub first_large : (c : ℕ) (bs : List ℕ) → is_ascii_digit c ≡ false → HasLargePrefix bs → IsFirst number_of (slice_split (λ b. eqb b c) bs) c None
first_large c bs l h =
    let p = take h.len bs in
    let piece = any_pieces c (drop h.len bs) in
    let large : 2 ^ 32 ≤ digits_value 10 (take (length p) (p ++ piece.first)) = omega (arith, h.large, ap (digits_value 10) (take-append_seam p piece.first)) in
    none_by c _ _ _ (in_two c h.len bs piece.first piece.others l h.digits piece.are)
    (number_none (p ++ piece.first) (sym (digits_large (p ++ piece.first) (length p) large)))

no_digits : (c : ℕ) (bs : List ℕ) → (0 < length bs → is_ascii_digit (get_or bs 0 0) ≡ false) → IsFirst number_of (slice_split (λ b. eqb b c) bs) c None
no_digits c [] h = number_no_prefix [] refl
no_digits c (b ∷ bs) h = cond_both (eqb b c) ([] ∷ slice_split (λ b. eqb b c) bs) (onto_first b (slice_split (λ b. eqb b c) bs))
    (λ ps. IsFirst number_of ps c None)
    (λ _. number_no_prefix [] refl)
    (λ _. let more = any_pieces c bs in none_by c _ _ _ (ap (onto_first b) more.are)
    (number_none (b ∷ more.first) (digits_none_at [] b more.first (h (omega arith)))))

pub first_no_prefix : (c : ℕ) (bs : List ℕ) (len n : ℕ) → is_ascii_digit c ≡ false → AreLeadingDigits bs len n → is_numeral_prefix (take len bs) ≡ false
    → IsFirst number_of (slice_split (λ b. eqb b c) bs) c None
first_no_prefix c bs zero n l a h = no_digits c bs a.end
first_no_prefix c bs (suc m) n l a h =
    let piece = any_pieces c (drop (suc m) bs) in
    let some : 0 < length (take (suc m) bs) = omega (arith, length-take (suc m) bs, a.within) in
    none_by c _ _ _ (in_two c (suc m) bs piece.first piece.others l a.digits piece.are)
    (number_no_prefix _ (prefix_behind (take (suc m) bs) piece.first some h))

pub first_stops : (c : ℕ) (bs : List ℕ) (len n : ℕ) → is_ascii_digit c ≡ false → AreLeadingDigits bs len n → len < length bs → get_or bs len 0 ≢ c
    → IsFirst number_of (slice_split (λ b. eqb b c) bs) c None
first_stops c bs len n l a inside other =
    let b = get_or bs len 0 in
    let rest = slice_split (λ b. eqb b c) (drop (len + 1) bs) in
    let more = any_pieces c (drop (len + 1) bs) in
    let e : slice_split (λ b. eqb b c) (drop len bs) ≡ (b ∷ more.first) ∷ more.others = ap (slice_split (λ b. eqb b c)) (drop_more bs len 0 inside)
    ∙ ap (λ t. cond t ([] ∷ rest) (onto_first b rest)) (ne_eqb b c other) ∙ ap (onto_first b) more.are in
    none_by c _ _ _ (in_two c len bs (b ∷ more.first) more.others l a.digits e) (number_none _ (digits_none_at (take len bs) b more.first (a.end inside)))

pub first_all : (c : ℕ) (bs : List ℕ) (len n : ℕ) → is_ascii_digit c ≡ false → AreLeadingDigits bs len n → is_numeral_prefix (take len bs) ≡ true
    → length bs ≤ len → IsFirst number_of (slice_split (λ b. eqb b c) bs) c (Some (n, None))
first_all c bs len n l a h whole =
    let all : take len bs ≡ bs = take_all len bs whole in
    let e = ap (slice_split (λ b. eqb b c)) (sym all) ∙ slice_split_none (λ b. eqb b c) (take len bs)
    (All-from_recursion _ (take len bs) (no_separator c (take len bs) l a.digits)) in
    some_by c n None _ (take len bs) [] e (number_is (take len bs) n h a.digits a.value_is a.small) refl

pub first_cut : (c : ℕ) (bs : List ℕ) (len n : ℕ) (rest : Bor (List ℕ)) → is_ascii_digit c ≡ false → AreLeadingDigits bs len n
    → is_numeral_prefix (take len bs) ≡ true → len < length bs → get_or bs len 0 ≡ c → rest.now ≡ drop (len + 1) bs
    → IsFirst number_of (slice_split (λ b. eqb b c) bs) c (Some (n, Some rest))
first_cut c bs len n rest l a h inside at behind =
    let p = take len bs in
    let halves : bs ≡ p ++ c ∷ drop (len + 1) bs = sym (take-append-drop len bs) ∙ ap (λ ys. p ++ ys) (drop_more bs len 0 inside)
    ∙ ap (λ b. p ++ b ∷ drop (len + 1) bs) at in
    let e = ap (slice_split (λ b. eqb b c)) halves ∙ slice_split_at (λ b. eqb b c) p c (drop (len + 1) bs)
    (All-from_recursion _ p (no_separator c p l a.digits)) (eq-eqb c c (λ i. c)) in
    some_by c n (Some rest) _ p (slice_split (λ b. eqb b c) (drop (len + 1) bs)) e (number_is p n h a.digits a.value_is a.small)
    (ap (slice_split (λ b. eqb b c)) (sym behind))
