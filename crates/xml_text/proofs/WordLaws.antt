-- Laws of words at the front of a text, and of where it may be cut.
use Rattle.std.proofs.Common.{◌≡◌, ℕ, zero, suc, ◌+◌, ◌<◌, ◌≤◌, Bool, true, false, eqb, List, [], ◌∷◌, ◌++◌, length, take, drop}
use Rattle.std.proofs.Common.{get_or, Option, None, Some, option_map, Bor, MatchOption, IsUtf8, IsCharBoundary, refl, sym, ap, ◌∙◌, arith, take_at}
use Rattle.std.proofs.Common.{drop_at, subst, take-append-drop, length-append, length-drop}
use Rattle.std.proofs.Common.{cond, eqb-true, not}
use Rattle.std.specs.List.{prefix_len, position_or_len}
use Rattle.std.specs.Str.{bytes_eq}
use Rattle.std.specs.Str.Pattern.{FindsText, FindsTextPrefix, LacksTextAt, SplitsAroundMatch, StripsPrefix}
use Rattle.std.proofs.lemmas.Bool.{cond-true, cond-false, false_from_ne_true}
use Rattle.std.proofs.lemmas.List.Sums.{position_or_len_is, prefix_len-le-length, prefix_len_passes}
use Rattle.std.proofs.lemmas.Slice.Eq.{bytes_eq-Decides}
use Rattle.std.proofs.lemmas.Str.{IsCharBoundary-after_ascii, IsCharBoundary-start}
use Rattle.memchr.specs.Find.{IsFirstByte, is_byte}
use Rattle.xml_text.specs.Words.{after, cut, onto, up_to, is_blank, is_of_name}

-- a word at the front
here : (word bytes rest : List ℕ) → bytes ≡ word ++ rest → bytes_eq (take (length word) bytes) word ≡ true
here word bytes rest e = (bytes_eq-Decides (take (length word) bytes) word).1 (ap (take (length word)) e ∙ take_at word rest (length word) refl)

not_here : (word bytes : List ℕ) → LacksTextAt word bytes 0 → bytes_eq (take (length word) bytes) word ≡ false
not_here word bytes h = false_from_ne_true _ (λ t.
    let is : take (length word) bytes ≡ word = (bytes_eq-Decides (take (length word) bytes) word).0 t in
    h (drop (length word) bytes) (sym (take-append-drop (length word) bytes) ∙ ap (λ front. front ++ drop (length word) bytes) is))

pub after_found : (word bytes rest : List ℕ) → bytes ≡ word ++ rest → after word bytes ≡ Some rest
unfolding after
after_found word bytes rest e = cond-true _ _ _ (here word bytes rest e) ∙ ap Some (ap (drop (length word)) e ∙ drop_at word rest (length word) refl)

pub after_lacks : (word bytes : List ℕ) → LacksTextAt word bytes 0 → after word bytes ≡ None
unfolding after
after_lacks word bytes h = cond-false _ _ _ (not_here word bytes h)

-- what std strips
pub stripped : (word bytes : List ℕ) (r : Option (Bor (List ℕ)))
    → MatchOption r (FindsTextPrefix word bytes None) (λ x. StripsPrefix (FindsTextPrefix word) bytes x.now)
    → option_map (λ (x : Bor (List ℕ)). x.now) r ≡ after word bytes
stripped word bytes None h = sym (after_lacks word bytes h)
stripped word bytes (Some x) h = sym (after_found word bytes x.now (h.1.1 ∙ ap (λ rest. word ++ rest) (sym h.2)))

-- the first place of a word
pub cut_found : (word bytes back : List ℕ) (n : ℕ) → 0 < length word → n ≤ length bytes → ((i : ℕ) → i < n → LacksTextAt word bytes i)
    → drop n bytes ≡ word ++ back → cut word bytes ≡ Some (take n bytes, back)
unfolding cut
cut_found word [] back n some le lacks e = absurd (omega (arith, ap length e, length-append word back, length-drop {A = ℕ} n []))
cut_found word (b ∷ bytes) back zero some le lacks e =
    cond-true _ _ _ (here word (b ∷ bytes) back e) ∙ ap (λ rest. Some ([], rest)) (ap (drop (length word)) e ∙ drop_at word back (length word) refl)
cut_found word (b ∷ bytes) back (suc n) some le lacks e =
    cond-false _ _ _ (not_here word (b ∷ bytes) (lacks 0 (omega arith)))
    ∙ ap (option_map (onto b)) (cut_found word bytes back n some (omega (arith, le)) (λ i l. lacks (suc i) (omega (arith, l))) e)

pub cut_lacks : (word bytes : List ℕ) → ((i : ℕ) → i ≤ length bytes → LacksTextAt word bytes i) → cut word bytes ≡ None
unfolding cut
cut_lacks word [] lacks = refl
cut_lacks word (b ∷ bytes) lacks =
    cond-false _ _ _ (not_here word (b ∷ bytes) (lacks 0 (omega arith)))
    ∙ ap (option_map (onto b)) (cut_lacks word bytes (λ i l. lacks (suc i) (omega (arith, l))))

-- where std cuts
pub split : (word bytes : List ℕ) (r : Option (Bor (List ℕ) × Bor (List ℕ))) → 0 < length word
    → MatchOption r (FindsText word bytes None) (λ x. SplitsAroundMatch (FindsText word) bytes x.0.now x.1.now)
    → option_map (λ (x : Bor (List ℕ) × Bor (List ℕ)). (x.0.now, x.1.now)) r ≡ cut word bytes
split word bytes None some h = sym (cut_lacks word bytes h)
split word bytes (Some x) some h =
    sym (cut_found word bytes x.1.now h.0 some (omega (arith, h.5, h.7)) h.2.0 (h.2.1.split ∙ ap (λ rest. word ++ rest) (sym h.4))
    ∙ ap (λ front. Some (front, x.1.now)) (sym h.3))

-- bytes that pass are ASCII
pub front_boundary : (p : ℕ → Bool) (bs : List ℕ) → ((b : ℕ) → p b ≡ true → b < 128) → IsUtf8 bs → IsCharBoundary bs (prefix_len p bs)
front_boundary p bs small u = by (prefix_len p bs) refl
  where
    by : (n : ℕ) → n ≡ prefix_len p bs → IsCharBoundary bs n
    by zero e = IsCharBoundary-start bs u
    by (suc n) e =
        let within = prefix_len-le-length p bs in
        let last = small (get_or bs n 0) (prefix_len_passes p bs n 0 (omega (arith, e))) in
        let at : IsCharBoundary bs (n + 1) = IsCharBoundary-after_ascii bs n u (omega (arith, e, within)) last in
        let same : n + 1 ≡ suc n = omega arith in
        subst (IsCharBoundary bs) same at

pub small_blank : (b : ℕ) → is_blank b ≡ true → b < 128
small_blank b h = grind arith

pub small_of_name : (b : ℕ) → is_of_name b ≡ true → b < 128
small_of_name b h = grind arith

-- the first byte of a kind
pub first_byte : (byte n : ℕ) (bs : List ℕ) → IsFirstByte (is_byte byte) bs (Some n) → position_or_len (λ b. eqb b byte) bs ≡ n
first_byte byte n bs h =
    let low = h.0.high in
    position_or_len_is (λ b. eqb b byte) bs n 0 (omega (arith, low)) (λ k l. false_from_ne_true _ (h.0.before k (omega arith) l)) (λ _. h.1)

pub no_first_byte : (byte : ℕ) (bs : List ℕ) → IsFirstByte (is_byte byte) bs None → position_or_len (λ b. eqb b byte) bs ≡ length bs
no_first_byte byte bs h =
    position_or_len_is (λ b. eqb b byte) bs (length bs) 0 (omega arith) (λ k l. false_from_ne_true _ (h k (omega arith) l)) (λ l. absurd (omega (arith, l)))

-- characters before a tag, where none begins at once
pub some_before : (bytes : List ℕ) → 0 < length bytes → after (60 ∷ []) bytes ≡ None → length (up_to 60 bytes).1 < length bytes
unfolding after up_to
some_before [] l h = absurd (omega (arith, l))
some_before (b ∷ bytes) l h = by (eqb b 60) refl
  where
    by : (t : Bool) → eqb b 60 ≡ t → length (drop (position_or_len (λ b. eqb b 60) (b ∷ bytes)) (b ∷ bytes)) < length (b ∷ bytes)
    by true e =
        let is : b ≡ 60 = eqb-true b 60 e in
        let found : after (60 ∷ []) (b ∷ bytes) ≡ Some bytes = after_found (60 ∷ []) (b ∷ bytes) bytes (ap (λ c. c ∷ bytes) is) in
        absurd (let no = sym h ∙ found in cc)
    by false e =
        let n : position_or_len (λ b. eqb b 60) (b ∷ bytes) ≡ 1 + position_or_len (λ b. eqb b 60) bytes =
        ap (λ t. cond (not t) (1 + position_or_len (λ b. eqb b 60) bytes) 0) e in
        let size = length-drop (position_or_len (λ b. eqb b 60) (b ∷ bytes)) (b ∷ bytes) in
        omega (arith, n, size)
