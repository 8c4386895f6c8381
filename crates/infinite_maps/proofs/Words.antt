-- Four bytes a cell, as loops read and write them.
use Rattle.std.proofs.Common.{◌≡◌, ℕ, ◌+◌, ◌*◌, ◌<◌, List, [], ◌∷◌, ◌++◌, length, get_or, drop, refl, sym, ap, ◌∙◌, append_assoc, arith}
use Rattle.std.proofs.lemmas.List.{append-nil, at_drop_more}
use Rattle.infinite_maps.specs.Cells.{words_of}

drop_one : (s : List ℕ) (i j : ℕ) → j ≡ i + 1 → i < length s → drop i s ≡ get_or s i 0 ∷ drop j s
drop_one s i j e h = at_drop_more (λ (xs : List ℕ). xs) s i 0 h ∙ ap (λ n. get_or s i 0 ∷ drop n s) (sym e)

words_of-drop : (s : List ℕ) (i : ℕ) → i + 3 < length s
    → words_of (drop i s) ≡ (get_or s i 0 + 256 * get_or s (i + 1) 0 + 65536 * get_or s (i + 2) 0 + 16777216 * get_or s (i + 3) 0) ∷ words_of (drop (i + 4) s)
words_of-drop s i h =
    let a = drop_one s i (i + 1) refl (omega arith) in
    let b = drop_one s (i + 1) (i + 2) (omega arith) (omega arith) in
    let c = drop_one s (i + 2) (i + 3) (omega arith) (omega arith) in
    let d = drop_one s (i + 3) (i + 4) (omega arith) (omega arith) in
    rw (a, b, c, d) refl

pub one_more_word : (prefix s : List ℕ) (i word : ℕ) → 4 * i + 3 < length s
    → word ≡ get_or s (4 * i) 0 + 256 * get_or s (4 * i + 1) 0 + 65536 * get_or s (4 * i + 2) 0 + 16777216 * get_or s (4 * i + 3) 0
    → (prefix ++ word ∷ []) ++ words_of (drop (4 * (i + 1)) s) ≡ prefix ++ words_of (drop (4 * i) s)
one_more_word prefix s i word h is =
    let next : 4 * (i + 1) ≡ 4 * i + 4 = omega arith in
    append_assoc prefix (word ∷ []) (words_of (drop (4 * (i + 1)) s)) ∙ ap (λ (t : List ℕ). prefix ++ t) (rw (next, is) (sym (words_of-drop s (4 * i) h)))

-- fewer than four bytes are no word
few_words : (s : List ℕ) → length s < 4 → words_of s ≡ []
few_words [] h = refl
few_words (a ∷ []) h = refl
few_words (a ∷ b ∷ []) h = refl
few_words (a ∷ b ∷ c ∷ []) h = refl
few_words (a ∷ b ∷ c ∷ d ∷ s) h = absurd (omega arith)

pub all_words : (prefix s : List ℕ) (i : ℕ) → length (drop (4 * i) s) < 4 → prefix ++ words_of (drop (4 * i) s) ≡ prefix
all_words prefix s i h = rw (few_words (drop (4 * i) s) h) (append-nil prefix)
