-- A line that passes the first checks.
use Rattle.std.proofs.Common.{◌≡◌, ℕ, ◌≤◌, Bool, true, false, ltb, cond, List, length, Ok, Err, refl}
use Rattle.std.specs.Str.{IsUtf8, is_utf8}
use Rattle.std.proofs.lemmas.Str.{is_utf8-from_IsUtf8, IsUtf8-from_is_utf8}
use Rattle.std.proofs.lemmas.Bool.{le-ltb, false_from_ne_true}
use Rattle.session.specs.declared.limits.TheConstants.{MAX_LINE}
use Rattle.refusals.specs.declared.line_fault.LineFault.TheVariants.{NotUtf8, TooLong}
use Rattle.session.specs.declared.line.Line.TheVariants.{Quiet}
use Rattle.session.specs.Words.{words}
use Rattle.session.specs.Grammar.{read, line_form, is_quiet, line_of}
use Rattle.session.specs.MoreGrammar.{more_form, more_line_of}
use Rattle.session.specs.WordFaults.{is_at_word}

pub checked : (bytes : List ℕ) → length bytes ≤ MAX_LINE → IsUtf8 bytes → line_of bytes ≡ cond (is_quiet bytes) (Ok Quiet) (read line_form (words bytes))
unfolding line_of
checked bytes l u = rw (is_utf8-from_IsUtf8 bytes u, le-ltb MAX_LINE (length bytes) l) refl

pub refused : (bytes : List ℕ) → length bytes ≤ MAX_LINE → ¬ (IsUtf8 bytes) → line_of bytes ≡ Err NotUtf8
unfolding line_of
refused bytes l u = rw (false_from_ne_true (is_utf8 bytes) (λ t. u (IsUtf8-from_is_utf8 bytes t)), le-ltb MAX_LINE (length bytes) l) refl

-- ---- a line for all edits
pub more_checked : (bytes : List ℕ) → length bytes ≤ MAX_LINE → IsUtf8 bytes → more_line_of bytes ≡ read more_form (words bytes)
unfolding more_line_of
more_checked bytes l u = rw (is_utf8-from_IsUtf8 bytes u, le-ltb MAX_LINE (length bytes) l) refl

pub more_refused : (bytes : List ℕ) → length bytes ≤ MAX_LINE → ¬ (IsUtf8 bytes) → more_line_of bytes ≡ Err NotUtf8
unfolding more_line_of
more_refused bytes l u = rw (false_from_ne_true (is_utf8 bytes) (λ t. u (IsUtf8-from_is_utf8 bytes t)), le-ltb MAX_LINE (length bytes) l) refl

-- ---- what is no text
as_a_whole : (b : Bool) → is_at_word (cond b (Err TooLong) (Err NotUtf8)) ≡ false
as_a_whole true = refl
as_a_whole false = refl

-- what is no text is refused as a whole
pub unread : (bytes : List ℕ) → ¬ (IsUtf8 bytes) → is_at_word (line_of bytes) ≡ false
unfolding line_of
unread bytes u = rw (false_from_ne_true (is_utf8 bytes) (λ t. u (IsUtf8-from_is_utf8 bytes t))) (as_a_whole (ltb MAX_LINE (length bytes)))
