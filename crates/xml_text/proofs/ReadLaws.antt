-- Laws of what a whole text says.
use Rattle.std.proofs.Common.{◌≡◌, ℕ, true, false, not, List, Err, None, IsUtf8, chars, refl, ap, ◌∙◌}
use Rattle.std.specs.List.{list_all}
use Rattle.std.specs.Str.{is_utf8}
use Rattle.std.specs.Result.{result_ok}
use Rattle.std.proofs.lemmas.Bool.{cond-true, cond-false, false_from_ne_true}
use Rattle.std.proofs.lemmas.Str.{IsUtf8-from_is_utf8, is_utf8-from_IsUtf8}
use Rattle.xml_text.specs.declared.fault.Flaw.TheVariants.{NotUtf8, ControlCharacter}
use Rattle.xml_text.specs.declared.fault.Fault.{Fault}
use Rattle.xml_text.specs.declared.fault.Fault.TheVariants.{Memory, Flawed}
use Rattle.xml_text.specs.Answers.{Fails}
use Rattle.xml_text.specs.Said.{is_character}
use Rattle.xml_text.specs.Reading.{document, reading, xml_of}

pub no_text : (bytes : List ℕ) → ¬ (IsUtf8 bytes) → reading bytes ≡ Err NotUtf8
unfolding reading
no_text bytes h = cond-true _ _ _ (ap not (false_from_ne_true (is_utf8 bytes) (λ t. h (IsUtf8-from_is_utf8 bytes t))))

pub controls : (bytes : List ℕ) → IsUtf8 bytes → list_all is_character (chars bytes) ≡ false → reading bytes ≡ Err ControlCharacter
unfolding reading
controls bytes u h = cond-false _ _ _ (ap not (is_utf8-from_IsUtf8 bytes u)) ∙ cond-true _ _ _ (ap not h)

pub reads : (bytes : List ℕ) → IsUtf8 bytes → list_all is_character (chars bytes) ≡ true → reading bytes ≡ document bytes
unfolding reading
reads bytes u h = cond-false _ _ _ (ap not (is_utf8-from_IsUtf8 bytes u)) ∙ cond-false _ _ _ (ap not h)

-- what fails says nothing
pub refused : (bytes : List ℕ) (fault : Fault) → Fails fault (reading bytes) → (fault ≡ Memory → ⊥) → xml_of bytes ≡ None
refused bytes Memory h other = absurd (other refl)
refused bytes (Flawed flaw place) h other = ap result_ok h
