-- The first line of some bytes.
use Rattle.std.proofs.Common.{◌≡◌, ◌≢◌, ℕ, ◌+◌, ◌<◌, List, [], ◌∷◌, ◌++◌, length, take, drop, refl, sym, ap, ◌∙◌, arith}
use Rattle.std.specs.List.{AllByRecursion}
use Rattle.std.proofs.lemmas.Bool.{ne_eqb}
use Rattle.std.proofs.lemmas.List.{drop_all}
use Rattle.std.proofs.lemmas.List.Elements.{recursion_from_All}
use Rattle.lines.specs.Lines.{lines_of, HasNoNewline}
use Rattle.lines.specs.Reading.{first_newline}
use Rattle.lines.proofs.Newlines.{cut_at_first}

abbrev IsOther : ℕ → Type 0
IsOther b = b ≢ 10

lines_of-newline : (first rest : List ℕ) → AllByRecursion IsOther first → lines_of (first ++ 10 ∷ rest) ≡ first ∷ lines_of rest
lines_of-newline [] rest h = refl
lines_of-newline (b ∷ first) rest h = rw (ne_eqb b 10 h.0, lines_of-newline first rest h.1) refl

lines_of-end : (first : List ℕ) → AllByRecursion IsOther first → 0 < length first → lines_of first ≡ first ∷ []
lines_of-end [] h k = absurd (omega arith)
lines_of-end (b ∷ []) h k = rw (ne_eqb b 10 h.0) refl
lines_of-end (b ∷ c ∷ first) h k = rw (ne_eqb b 10 h.0, lines_of-end (c ∷ first) h.1 (omega arith)) refl

-- up to the first newline
pub first_cut : (bytes : List ℕ) (n : ℕ) → n ≡ first_newline bytes → n < length bytes → lines_of bytes ≡ take n bytes ∷ lines_of (drop (n + 1) bytes)
first_cut bytes n e h =
    let cut = cut_at_first bytes n e h in
    ap lines_of cut.1 ∙ lines_of-newline (take n bytes) (drop (n + 1) bytes) (recursion_from_All IsOther (take n bytes) cut.0)

-- up to the end, where there is none
pub last_cut : (bytes : List ℕ) → 0 < length bytes → HasNoNewline bytes → lines_of bytes ≡ bytes ∷ lines_of (drop (length bytes) bytes)
last_cut bytes h none =
    lines_of-end bytes (recursion_from_All IsOther bytes none) h
    ∙ ap (λ (rest : List ℕ). bytes ∷ lines_of rest) (sym (drop_all (length bytes) bytes (omega arith)))
