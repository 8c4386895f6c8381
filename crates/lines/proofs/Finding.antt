-- How a reader of lines finds the lines of its input.
use Rattle.std.proofs.Common.{◌≡◌, ◌≢◌, ℕ, ◌+◌, ◌^◌, ◌<◌, ◌≤◌, true, false, eqb, List, [], ◌∷◌, ◌++◌, length, take, drop, Option, Some, None, refl, sym, ap}
use Rattle.std.proofs.Common.{subst, ◌∙◌, inl, inr, append_assoc, arith, Result, Ok, Err, OnErr}
use Rattle.std.specs.Prelude.{is_some, IfSome, IfNone, ◌↔◌, Contains}
use Rattle.std.specs.List.{AllByRecursion}
use Rattle.std.specs.Io.KnownBytes.{IsAtEnd, prepend_known}
use Rattle.std.proofs.lemmas.List.{append-nil, length-append, take_all, drop_all}
use Rattle.std.proofs.lemmas.Bool.{ne_eqb}
use Rattle.std.proofs.lemmas.List.Elements.{recursion_from_All, All-append, All-contains, Contains-append_right}
use Rattle.lines.specs.declared.reader.Found.TheVariants.{Line, TooLong}
use Rattle.lines.specs.Lines.{joined, last_line, LinesAreCut, lines_of, HasNoNewline}
use Rattle.lines.specs.Reading.{SameInput, FindsLine, SkipsLine, StopsInLine}

abbrev IsOther : ℕ → Type 0
IsOther b = b ≢ 10

other : (b : ℕ) → b ≢ 10 → eqb b 10 ≡ false
other b h = ne_eqb b 10 h

starts : (first rest : List ℕ) → AllByRecursion IsOther first → lines_of (first ++ 10 ∷ rest) ≡ first ∷ lines_of rest
starts [] rest h = refl
starts (b ∷ first) rest h = rw (other b h.0, starts first rest h.1) refl

ends : (first : List ℕ) → AllByRecursion IsOther first → 0 < length first → lines_of first ≡ first ∷ []
ends [] h k = absurd (omega arith)
ends (b ∷ []) h k = rw (other b h.0) refl
ends (b ∷ c ∷ first) h k = rw (other b h.0, ends (c ∷ first) h.1 (omega arith)) refl

cut_last : (last : List ℕ) → AllByRecursion IsOther last → lines_of last ≡ last_line last
cut_last [] h = refl
cut_last (b ∷ last) h = ends (b ∷ last) h (omega arith)

cut_all : (lines : List (List ℕ)) (last : List ℕ) → AllByRecursion HasNoNewline lines → HasNoNewline last
    → lines_of (joined lines ++ last) ≡ lines ++ last_line last
cut_all [] last h k = cut_last last (recursion_from_All IsOther last k)
cut_all (line ∷ lines) last h k =
    ap lines_of (append_assoc line (10 ∷ joined lines) last) ∙ starts line (joined lines ++ last) (recursion_from_All IsOther line h.0)
    ∙ ap (λ (ls : List (List ℕ)). line ∷ ls) (cut_all lines last h.1 k)

pub lines_are_cut : LinesAreCut
lines_are_cut lines last h k = cut_all lines last (recursion_from_All HasNoNewline lines h) k

ends_within : (p first ys zs : List ℕ) → AllByRecursion IsOther p → p ++ ys ≡ first ++ 10 ∷ zs → length p ≤ length first
ends_within [] first ys zs h e = omega arith
ends_within (b ∷ p) [] ys zs h e = absurd (h.0 cc)
ends_within (b ∷ p) (c ∷ first) ys zs h e = let tail : p ++ ys ≡ first ++ 10 ∷ zs = cc in let r = ends_within p first ys zs h.1 tail in omega arith

-- a fact that holds anyway holds at an error
pub on_err : {T E P : Type 0} (r : Result T E) → P → OnErr r P
on_err (Ok x) p = tt
on_err (Err e) p = p

pub same_refl : (before : Option (List ℕ)) → SameInput before before
same_refl None = tt
same_refl (Some xs) = refl

pub same_trans : (a b c : Option (List ℕ)) → SameInput a b → SameInput b c → SameInput a c
same_trans None b c h k = tt
same_trans (Some xs) None c h k = absurd h
same_trans (Some xs) (Some ys) None h k = k
same_trans (Some xs) (Some ys) (Some zs) h k = h ∙ k

-- a newline was found exactly where there is one
pub newline_found : (bytes : List ℕ) (found : Option ℕ) → IfSome found (λ n. HasNoNewline (take n bytes) × (bytes ≡ take n bytes ++ 10 ∷ drop (n + 1) bytes))
    → IfNone found (HasNoNewline bytes) → (is_some found ≡ true) ↔ Contains bytes 10
newline_found bytes None h k = (λ e. absurd cc, λ c. absurd (All-contains IsOther bytes 10 k c refl))
newline_found bytes (Some n) h k = (
  λ e. let P : List ℕ → Type 0 = λ ys. Contains ys 10 in subst P (sym h.1)
      (Contains-append_right (take n bytes) (10 ∷ drop (n + 1) bytes) 10 (0, omega arith, refl)),
  λ c. refl,
)

pub finds_short : (before k : Option (List ℕ)) (p line q : List ℕ) → SameInput before (prepend_known p k) → p ≡ line ++ 10 ∷ q → HasNoNewline line
    → length line < 2 ^ 16 → FindsLine before (prepend_known q k) (Some Line) line
finds_short None k p line q h e n l = tt
finds_short (Some xs) None p line q h e n l = h
finds_short (Some xs) (Some ys) p line q h e n l =
    let split_is : xs ≡ line ++ 10 ∷ (q ++ ys) = h ∙ ap (λ (zs : List ℕ). zs ++ ys) e ∙ append_assoc line (10 ∷ q) ys in
    (ap lines_of split_is ∙ starts line (q ++ ys) (recursion_from_All IsOther line n), l)

pub finds_long : (before k after : Option (List ℕ)) (p line : List ℕ) → SameInput before (prepend_known p k) → HasNoNewline p → length p ≡ 2 ^ 16
    → SkipsLine (prepend_known p k) after → FindsLine before after (Some TooLong) line
finds_long None k after p line h n l s = tt
finds_long (Some xs) None after p line h n l s = absurd h
finds_long (Some xs) (Some ys) None p line h n l s = s
finds_long (Some xs) (Some ys) (Some zs) p line h n l s =
    let none = recursion_from_All IsOther s.0 s.1 in
    let found : (lines_of xs ≡ s.0 ∷ lines_of zs) × (2 ^ 16 ≤ length s.0) = elim s.2 [
      | inl w ↦
          let size : 2 ^ 16 ≤ length s.0 = omega (arith, l, length-append p ys, ap length w.0) in
          (ap lines_of (h ∙ w.0) ∙ ends s.0 none (omega arith) ∙ ap (λ (ws : List ℕ). s.0 ∷ lines_of ws) (sym w.1), size)
      | inr e ↦ (ap lines_of (h ∙ e) ∙ starts s.0 zs none, omega (arith, l, ends_within p s.0 ys zs (recursion_from_All IsOther p n) e))
    ] in
    (s.0, found.0, found.1)

pub finds_last : (before k : Option (List ℕ)) (p : List ℕ) (n : ℕ) → SameInput before (prepend_known p k) → IsAtEnd k → HasNoNewline p → n ≡ length p → n ≢ 0
    → n < 2 ^ 16 → FindsLine before (prepend_known (drop (n + 0) p) k) (Some Line) (take n p)
finds_last None k p n h e none l z s = tt
finds_last (Some xs) None p n h e none l z s = h
finds_last (Some xs) (Some ys) p n h e none l z s =
    let all : take n p ≡ p = take_all n p (omega arith) in
    let rest : drop (n + 0) p ++ ys ≡ [] = ap (λ (zs : List ℕ). zs ++ ys) (drop_all (n + 0) p (omega arith)) ∙ e in
    let whole : xs ≡ p = h ∙ ap (λ (zs : List ℕ). p ++ zs) e ∙ append-nil p in (
      ap lines_of whole ∙ ends p (recursion_from_All IsOther p none) (omega arith) ∙ ap (λ (zs : List ℕ). zs ∷ []) (sym all)
          ∙ ap (λ (zs : List ℕ). take n p ∷ lines_of zs) (sym rest),
      omega (arith, ap length all),
    )

pub skips_past : (before k : Option (List ℕ)) (p q : List ℕ) → StopsInLine before (prepend_known p k) → HasNoNewline p → q ≡ []
    → StopsInLine before (prepend_known q k)
skips_past None k p q s n z = tt
skips_past (Some xs) None p q s n z = s
skips_past (Some xs) (Some ys) p q s n z =
    (s.0 ++ p, All-append IsOther s.0 p s.1 n, s.2 ∙ sym (append_assoc s.0 p ys) ∙ ap (λ (ws : List ℕ). (s.0 ++ p) ++ (ws ++ ys)) (sym z))

pub skips_same : (before mid after : Option (List ℕ)) → StopsInLine before mid → SameInput mid after → StopsInLine before after
skips_same None mid after s h = tt
skips_same (Some xs) None after s h = absurd s
skips_same (Some xs) (Some ys) None s h = h
skips_same (Some xs) (Some ys) (Some zs) s h = (s.0, s.1, s.2 ∙ ap (λ (ws : List ℕ). s.0 ++ ws) h)

-- nothing is skipped where the input is the same
pub skips_none : (before after : Option (List ℕ)) → SameInput before after → StopsInLine before after
skips_none None after h = tt
skips_none (Some xs) None h = h
skips_none (Some xs) (Some ys) h = ([], λ k d l. absurd (omega (arith, l)), h)

pub same_skips : (before mid after : Option (List ℕ)) → SameInput before mid → StopsInLine mid after → StopsInLine before after
same_skips None mid after h s = tt
same_skips (Some xs) None after h s = absurd h
same_skips (Some xs) (Some ys) None h s = s
same_skips (Some xs) (Some ys) (Some zs) h s = (s.0, s.1, h ∙ s.2)

pub skips_all : (before k : Option (List ℕ)) (p q : List ℕ) → StopsInLine before (prepend_known p k) → HasNoNewline p → q ≡ [] → IsAtEnd k
    → SkipsLine before (prepend_known q k)
skips_all None k p q s n z e = tt
skips_all (Some xs) None p q s n z e = s
skips_all (Some xs) (Some ys) p q s n z e = (
  s.0 ++ p,
  All-append IsOther s.0 p s.1 n,
  inl (
    s.2 ∙ ap (λ (ws : List ℕ). s.0 ++ (p ++ ws)) e ∙ ap (λ (ws : List ℕ). s.0 ++ ws) (append-nil p),
    ap
        (λ (ws : List ℕ). ws ++ ys) z ∙ e,
  ),
)

pub skips_line : (before k : Option (List ℕ)) (p line q : List ℕ) → StopsInLine before (prepend_known p k) → p ≡ line ++ 10 ∷ q → HasNoNewline line
    → SkipsLine before (prepend_known q k)
skips_line None k p line q s e n = tt
skips_line (Some xs) None p line q s e n = s
skips_line (Some xs) (Some ys) p line q s e n = (
  s.0 ++ line,
  All-append IsOther s.0 line s.1 n,
  inr (s.2 ∙ ap (λ (ws : List ℕ). s.0 ++ (ws ++ ys)) e ∙ ap (λ (ws : List ℕ). s.0 ++ ws)
      (append_assoc line (10 ∷ q) ys) ∙ sym (append_assoc s.0 line (10 ∷ (q ++ ys)))),
)
