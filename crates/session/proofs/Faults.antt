-- The word that a reader wanted last of a refused line is the one at fault.
use Rattle.std.proofs.Common.{rules, ◌≡◌, ℕ, suc, ◌+◌, ◌-◌, ◌<◌, ◌≤◌, is_err, is_ok, ltb, not, cond, ◌⊎◌, inl, inr, true, false, List, [], ◌∷◌}
use Rattle.std.proofs.Common.{length, take, Ok, Err, Result, IfErr, refl, sym, ap, ◌∙◌, ap₂, subst, arith, eqb, IsErr, IsOk}
use Rattle.std.specs.Str.{IsUtf8, is_utf8}
use Rattle.std.proofs.lemmas.Bool.{cond_both}
use Rattle.std.specs.List.{AllByRecursion}
use Rattle.std.proofs.lemmas.List.Sums.{count_by-le-length}
use Rattle.std.proofs.lemmas.List.Splits.{join_with_byte-slice_split, length-slice_split}
use Rattle.refusals.specs.declared.line_fault.LineFault.{LineFault}
use Rattle.session.specs.declared.limits.TheConstants.{MAX_LINE}
use Rattle.session.specs.Words.{words}
use Rattle.session.specs.declared.line.Line.{Line}
use Rattle.session.specs.declared.line.Line.TheVariants.{Quiet}
use Rattle.session.specs.Grammar.{Gives, LineForm, is_quiet, read, line_form, line_of}
use Rattle.session.specs.WordFaults.{is_at_word}
use Rattle.session.specs.Spelling.{spaced}
use Rattle.session.specs.Left.{fault_at, next}
use Rattle.session.specs.Faults.{cut_by, IsLine, IsFaultAt}
use Rattle.session.proofs.SpacedWords.{Clean, clean_words, words-spaced, utf8-spaced}
use Rattle.session.proofs.Places.{passed, fault_passed, nexts_small, not_both, passed_within, HasBranches, none_further}
use Rattle.session.proofs.Others.{GoesOn, HasRoom, IsOpen, settled, found}
use Rattle.session.proofs.FirstChecks.{checked}
use Rattle.session.proofs.Laws.{read_is_loud}
use Rattle.session.proofs.Lengths.{total, total-words, length-spaced}

-- ---- a table of lines
-- a form whose lines have a word or more, and are told apart by their words
pub record IsTable {A : Type 0} (form : LineForm A) : Type 0 where
  pub some : IsErr (read form [])
  pub is_open : IsOpen form
  pub branches : HasBranches form
  pub goes_on : GoesOn form
  pub room : HasRoom (MAX_LINE + 1) form

-- the bytes leave a form at that place: other bytes that are read by it are the same in front of the place, and none up to it
pub record LeavesAt {A : Type 0} (form : LineForm A) (place : ℕ) (bytes : List ℕ) : Type 0 where
  pub other : List ℕ
  pub utf8 : IsUtf8 other
  pub short : length other ≤ MAX_LINE
  pub is_read : IsOk (read form (words other))
  pub same : take (place - 1) (cut_by form (words other)) ≡ take (place - 1) (cut_by form (words bytes))
  pub none_further : (others : List ℕ) → IsOk (read form (words others))
      → take place (cut_by form (words others)) ≡ take place (cut_by form (words bytes)) → ⊥

-- a line has not many words
few_words : {A : Type 0} (form : LineForm A) (bytes : List ℕ) → length bytes ≤ MAX_LINE → passed form (words bytes) + 1 < 4294967295
few_words form bytes short = omega (
  arith,
  passed_within form (words bytes),
  length-slice_split (λ b. eqb b 32) bytes,
  count_by-le-length (λ b. eqb b 32) bytes,
)

-- the place told is one behind the words that are what they are to be
told_place : {A : Type 0} (form : LineForm A) (bytes : List ℕ) → length bytes ≤ MAX_LINE
    → fault_at form 1 (words bytes) ≡ suc (passed form (words bytes))
told_place form bytes short =
    let n = passed form (words bytes) in
    let moved : n + 1 ≡ suc n = omega arith in
    fault_passed form 1 (words bytes) ∙ nexts_small n 1 (few_words form bytes short) ∙ moved

-- words that are read are the words of a line
line_back : {A : Type 0} (form : LineForm A) → IsErr (read form []) → (ws : List (List ℕ)) → IsOk (read form ws) → AllByRecursion Clean ws
    → (words (spaced ws) ≡ ws) × (length (spaced ws) + 1 ≡ total ws)
line_back form none [] o c = absurd (not_both (read form []) none o)
line_back form none (w ∷ ws) o c = (words-spaced w ws c, length-spaced w ws)

within : (n m : ℕ) → m ≤ MAX_LINE + 1 → (n ≤ m) ⊎ (n ≤ MAX_LINE + 1) → n ≤ MAX_LINE + 1
within n m h (inl less) = omega (arith, h, less)
within n m h (inr less) = less

-- the word that was wanted last is the one at which the bytes leave the form
pub leaves : {A : Type 0} (form : LineForm A) → IsTable form → (bytes : List ℕ) (place : ℕ) → IsUtf8 bytes → length bytes ≤ MAX_LINE
    → IsErr (read form (words bytes)) → place ≡ fault_at form 1 (words bytes) → LeavesAt form place bytes
leaves form t bytes place utf8 short refused told =
    let ws = words bytes in
    let n = passed form ws in
    let is : place ≡ suc n = told ∙ told_place form bytes short in
    let before : place - 1 ≡ n = omega (arith, is) in
    let k = MAX_LINE + 1 in
    let o = settled form k t.room t.is_open t.goes_on ws n (found form k t.room t.branches t.goes_on ws (clean_words bytes utf8)) in
    let back = line_back form t.some o.other o.is_read o.clean in
    let most : total o.other ≤ MAX_LINE + 1 = within (total o.other) (total ws) (omega (arith, total-words bytes, short)) o.short in
    record {
      other = spaced o.other;
      utf8 = utf8-spaced o.other o.clean;
      short = omega (arith, most, back.1);
      is_read = subst (λ us. IsOk (read form us)) (sym back.0) o.is_read;
      same = ap (take (place - 1)) (ap (cut_by form) back.0)
          ∙ subst (λ m. take m (cut_by form o.other) ≡ take m (cut_by form ws)) (sym before) o.same;
      none_further = λ others ok same. none_further form t.branches ws (words others) refused ok
          (subst (λ m. take m (cut_by form (words others)) ≡ take m (cut_by form ws)) is same);
    }

-- ---- the lines of the first table
branches : HasBranches line_form
branches = search rules depth 12

goes_on : GoesOn line_form
goes_on = search rules depth 12

room : HasRoom (MAX_LINE + 1) line_form
room = search rules depth 12

table : IsTable line_form
table = record { some = refl; is_open = tt; branches = branches; goes_on = goes_on; room = room }

-- bytes that are read by the form are a line, and not quiet
read_is_line : (bytes : List ℕ) → length bytes ≤ MAX_LINE → IsUtf8 bytes → IsOk (read line_form (words bytes)) → IsLine bytes
read_is_line bytes short utf8 o =
    let loud : is_quiet bytes ≡ false = ap is_quiet (sym (join_with_byte-slice_split 32 bytes)) ∙ read_is_loud (words bytes) (clean_words bytes utf8) o in
    let read_is : line_of bytes ≡ read line_form (words bytes) = checked bytes short utf8
    ∙ ap (λ b. cond b (Ok Quiet) (read line_form (words bytes))) loud in
    (ap is_ok read_is ∙ o, loud)

-- a line that is read and not quiet is read by its words
line_read : (bytes : List ℕ) → IsLine bytes → IsOk (read line_form (words bytes))
unfolding line_of
line_read bytes h = by_checks h.0
  where
    by_checks : IsOk (line_of bytes) → IsOk (read line_form (words bytes))
    by_checks = cond_both (ltb MAX_LINE (length bytes)) _ _ (λ (r : Result Line LineFault). IsOk r → IsOk (read line_form (words bytes))) (λ _ o. absurd cc)
        (λ _. cond_both (not (is_utf8 bytes)) _ _ (λ (r : Result Line LineFault). IsOk r → IsOk (read line_form (words bytes))) (λ _ o. absurd cc)
        (λ _ o. subst (λ b. IsOk (cond b (Ok Quiet) (read line_form (words bytes)))) h.1 o))

fault_told : (bytes : List ℕ) (place : ℕ) (e : LineFault) → IsUtf8 bytes → length bytes ≤ MAX_LINE → read line_form (words bytes) ≡ Err e
    → place ≡ fault_at line_form 1 (words bytes) → IsFaultAt place bytes
fault_told bytes place e utf8 short read_is told =
    let at = leaves line_form table bytes place utf8 short (ap is_err read_is) told in
    record {
      other = at.other;
      is_line = read_is_line at.other at.short at.utf8 at.is_read;
      same = at.same;
      none_further = λ others ok same. at.none_further others (line_read others ok) same;
    }

-- what was told while the words of a line were read
pub told : (bytes : List ℕ) (place new start : ℕ) (ws : List (List ℕ)) (result : Result Line LineFault) → IsUtf8 bytes → length bytes ≤ MAX_LINE
    → Gives (λ x. x) result (read line_form ws) → IfErr result (λ _. new ≡ fault_at line_form start ws) → words bytes ≡ ws → start ≡ 1 → place ≡ new
    → is_at_word (read line_form (words bytes)) ≡ true → IsFaultAt place bytes
told bytes place new start ws (Ok line) utf8 short e is same one last at =
    let none : false ≡ true = sym (ap is_at_word (ap (read line_form) same ∙ e)) ∙ at in absurd cc
told bytes place new start ws (Err f) utf8 short e is same one last at =
    fault_told bytes place f utf8 short (ap (read line_form) same ∙ e) (last ∙ is ∙ ap₂ (fault_at line_form) one (sym same))

-- the first word is the first that is wanted
pub next_first : next 0 ≡ 1
unfolding next
next_first = refl
