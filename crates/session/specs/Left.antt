-- What is left of a line while it is read, and the place of the word at which it leaves a form.
use Rattle.std.specs.Prelude.{ℕ, Bool, List, [], ◌∷◌, ◌+◌, nat_lt, nat_le, ◌&&◌, Result, Ok, Err, refl}
use Rattle.std.specs.Prelude.{if◌then◌else◌}
use Rattle.std.specs.Coded.{Coded, code_by, coded×, coded_list, coded_ℕ}
use Rattle.std.specs.List.{join_with_byte}
use Rattle.std.specs.Str.{bytes_eq}
use Rattle.map_model.specs.declared.limits.TheConstants.{MAX_SIDE}
use Rattle.refusals.specs.declared.line_fault.LineFault.{LineFault}
use Rattle.session.specs.Words.{number_of, is_text, cut_at_bars}
use Rattle.session.specs.Grammar.{FieldKind, Block}
use Rattle.session.specs.Grammar.{LineForm, Ends, Text, Texts, Json, Field, Word, Fails, word_at, field_at}

-- the words that are left, and the place of the word that was wanted last
pub record Left : Type 0 where
  pub words : List (List ℕ)
  pub place : ℕ

-- it is stored as the pair of its fields
abbrev pub left_code : Coded Left
left_code =
    code_by (List (List ℕ) × ℕ) (coded× (coded_list (coded_list coded_ℕ)) coded_ℕ) (λ l. (l.words, l.place))
    (λ p. record { words = p.0; place = p.1 }) (λ _. refl)

-- the place behind that one; behind 4,294,967,295 there is none
unfoldable pub next : ℕ → ℕ
next place = if nat_lt place 4294967295 then place + 1 else 4294967295

-- what a result leads to
abbrev pub either : {A B : Type 0} → (A → B) → B → Result A LineFault → B
either found lost (Ok x) = found x
either found lost (Err e) = lost

-- the width of a block
abbrev pub is_side : ℕ → Bool
is_side width = nat_le 1 width && nat_le width MAX_SIDE

-- the place of the fault in a field, whose first word is to stand at a place
abbrev pub field_fault : FieldKind → ℕ → List (List ℕ) → ℕ
field_fault Block place ws = either (λ (width : ℕ × List (List ℕ)). if is_side width.0 then next place else place) place (word_at number_of ws)
field_fault kind place ws = place

-- the place behind a field
abbrev pub behind_field : FieldKind → ℕ → ℕ
behind_field Block place = next (next place)
behind_field kind place = next place

-- the place of the fault in a macro's texts, the first of which is to stand at a place
abbrev pub texts_fault : ℕ → List (List ℕ) → ℕ
texts_fault place ws = if is_text (cut_at_bars (join_with_byte 32 ws)).0 then next (next place) else place

-- the place of the word at which words leave a form, where the first of them is to stand at a place
abbrev pub fault_at : {A : Type 0} → LineForm A → ℕ → List (List ℕ) → ℕ
fault_at (Ends line) place ws = place
fault_at (Text line) place ws = place
fault_at (Texts line) place ws = texts_fault place ws
fault_at (Json line) place ws = place
fault_at (Field kind form) place ws =
    either (λ value. fault_at (form value.0) (behind_field kind place) value.1) (field_fault kind place ws) (field_at kind ws)
fault_at (Word word form other) place [] = place
fault_at (Word word form other) place (w ∷ ws) = if bytes_eq w word then fault_at form (next place) ws else fault_at other place (w ∷ ws)
fault_at (Fails fault) place ws = place
