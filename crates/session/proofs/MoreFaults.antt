-- The word that a reader of lines for all edits wanted last of a refused line is the one at fault.
use Rattle.std.proofs.Common.{rules, ◌≡◌, ℕ, ◌+◌, ◌≤◌, is_err, is_ok, ltb, not, true, false, List}
use Rattle.std.proofs.Common.{length, Ok, Err, Result, IfErr, refl, sym, ap, ◌∙◌, ap₂, IsOk}
use Rattle.std.specs.Str.{IsUtf8, is_utf8}
use Rattle.std.proofs.lemmas.Bool.{cond_both}
use Rattle.refusals.specs.declared.line_fault.LineFault.{LineFault}
use Rattle.session.specs.declared.limits.TheConstants.{MAX_LINE}
use Rattle.session.specs.declared.more_line.MoreLine.{MoreLine}
use Rattle.session.specs.Words.{words}
use Rattle.session.specs.Grammar.{Gives, read}
use Rattle.session.specs.MoreGrammar.{more_form, more_line_of}
use Rattle.session.specs.WordFaults.{is_at_more_word}
use Rattle.session.specs.Left.{fault_at}
use Rattle.session.specs.MoreFaults.{IsMoreFaultAt}
use Rattle.session.proofs.Faults.{IsTable, leaves}
use Rattle.session.proofs.FirstChecks.{more_checked}
use Rattle.session.proofs.Others.{GoesOn, HasRoom}
use Rattle.session.proofs.Places.{HasBranches}

branches : HasBranches more_form
branches = search rules depth 12

goes_on : GoesOn more_form
goes_on = search rules depth 12

room : HasRoom (MAX_LINE + 1) more_form
room = search rules depth 12

table : IsTable more_form
table = record { some = refl; is_open = tt; branches = branches; goes_on = goes_on; room = room }

-- a line that is read is read by its words
line_read : (bytes : List ℕ) → IsOk (more_line_of bytes) → IsOk (read more_form (words bytes))
unfolding more_line_of
line_read bytes =
    cond_both (ltb MAX_LINE (length bytes)) _ _ (λ (r : Result MoreLine LineFault). IsOk r → IsOk (read more_form (words bytes))) (λ _ o. absurd cc)
    (λ _. cond_both (not (is_utf8 bytes)) _ _ (λ (r : Result MoreLine LineFault). IsOk r → IsOk (read more_form (words bytes))) (λ _ o. absurd cc)
    (λ _ o. o))

more_fault_told : (bytes : List ℕ) (place : ℕ) (e : LineFault) → IsUtf8 bytes → length bytes ≤ MAX_LINE → read more_form (words bytes) ≡ Err e
    → place ≡ fault_at more_form 1 (words bytes) → IsMoreFaultAt place bytes
more_fault_told bytes place e utf8 short read_is told =
    let at = leaves more_form table bytes place utf8 short (ap is_err read_is) told in
    record {
      other = at.other;
      is_line = ap is_ok (more_checked at.other at.short at.utf8) ∙ at.is_read;
      same = at.same;
      none_further = λ others ok same. at.none_further others (line_read others ok) same;
    }

-- what was told while the words of a line were read
pub more_told : (bytes : List ℕ) (place start : ℕ) (ws : List (List ℕ)) (result : Result MoreLine LineFault) → IsUtf8 bytes → length bytes ≤ MAX_LINE
    → Gives (λ x. x) result (read more_form ws) → IfErr result (λ _. place ≡ fault_at more_form start ws) → words bytes ≡ ws → start ≡ 1
    → is_at_more_word (read more_form (words bytes)) ≡ true → IsMoreFaultAt place bytes
more_told bytes place start ws (Ok line) utf8 short e is same one at =
    let none : false ≡ true = sym (ap is_at_more_word (ap (read more_form) same ∙ e)) ∙ at in absurd cc
more_told bytes place start ws (Err f) utf8 short e is same one at =
    more_fault_told bytes place f utf8 short (ap (read more_form) same ∙ e) (is ∙ ap₂ (fault_at more_form) one (sym same))
