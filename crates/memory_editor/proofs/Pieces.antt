-- Pieces that are put one behind another at the front of a buffer.
use Rattle.std.proofs.Common.{◌≡◌, ℕ, ◌+◌, ◌<◌, ◌≤◌, List, ◌++◌, length, drop, refl, sym, ap, ◌∙◌, append_assoc, arith}
use Rattle.std.proofs.lemmas.Bool.{le-leb, lt-leb}
use Rattle.std.proofs.lemmas.List.{drop-drop, length-append}
use Rattle.memory_editor.specs.Buffers.{written}

pub written-fits : (values buffer : List ℕ) → length values ≤ length buffer → written values buffer ≡ values ++ drop (length values) buffer
written-fits values buffer h = rw (le-leb (length values) (length buffer) h) refl

pub written-larger : (values buffer : List ℕ) → length buffer < length values → written values buffer ≡ buffer
written-larger values buffer h = rw (lt-leb (length values) (length buffer) h) refl

-- three pieces, and what is left of the buffer behind them
pub three_pieces : (a b c rest buffer : List ℕ) → length (a ++ b ++ c) ≤ length buffer → rest ≡ drop (length c) (drop (length b) (drop (length a) buffer))
    → a ++ (b ++ (c ++ rest)) ≡ written (a ++ b ++ c) buffer
three_pieces a b c rest buffer fits is =
    let size : length a + length b + length c ≡ length (a ++ b ++ c) = omega (arith, length-append (a ++ b) c, length-append a b) in
    let left : rest ≡ drop (length (a ++ b ++ c)) buffer =
    is ∙ ap (λ (t : List ℕ). drop (length c) t) (drop-drop (length b) (length a) buffer) ∙ drop-drop (length c) (length a + length b) buffer
    ∙ ap (λ n. drop n buffer) size in
    ap (λ (t : List ℕ). a ++ (b ++ (c ++ t))) left ∙ sym (append_assoc a b (c ++ drop (length (a ++ b ++ c)) buffer))
    ∙ sym (append_assoc (a ++ b) c (drop (length (a ++ b ++ c)) buffer)) ∙ sym (written-fits (a ++ b ++ c) buffer fits)
