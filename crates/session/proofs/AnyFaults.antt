-- Of the words at which a line leaves two tables, the later one is that at which it leaves both.
use Rattle.std.proofs.Common.{◌≡◌, ℕ, ◌-◌, ◌<◌, ◌≤◌, ◌⊎◌, ◌&&◌, false, List, sym, ap, ◌∙◌, subst, arith, inl, inr}
use Rattle.std.specs.Prelude.{max}
use Rattle.std.specs.Str.{IsUtf8}
use Rattle.std.proofs.lemmas.Bool.{cases_order}
use Rattle.std.proofs.lemmas.List.Splits.{join_with_byte-slice_split}
use Rattle.session.specs.Faults.{IsFaultAt, line_words}
use Rattle.session.specs.Grammar.{line_of}
use Rattle.session.specs.MoreFaults.{HasLineBefore, HasMoreLineBefore, IsAnyFaultAt, IsMoreFaultAt, MoreWordsAreTheLine, OneIsAtAnyFault}
use Rattle.session.specs.MoreFaults.{more_line_words}
use Rattle.session.specs.MoreGrammar.{more_form, more_line_of}
use Rattle.session.specs.WordFaults.{is_at_more_word, is_at_word_of_any}
use Rattle.session.specs.Words.{words}
use Rattle.session.proofs.FirstChecks.{unread}
use Rattle.session.proofs.Joined.{joined, shortened}

-- what is no text is refused as a whole
pub unread_by_any : (bytes : List ℕ) → ¬ (IsUtf8 bytes) → is_at_word_of_any (line_of bytes) (more_line_of bytes) ≡ false
unread_by_any bytes u = ap (λ b. b && is_at_more_word (more_line_of bytes)) (unread bytes u)

-- ---- the later one
first_later : (bytes : List ℕ) (place other : ℕ) → other ≤ place → IsFaultAt place bytes → IsMoreFaultAt other bytes → IsAnyFaultAt place bytes
first_later bytes place other h f g = record {
  before = inl (record { other = f.other; is_line = f.is_line; same = f.same });
  no_line_further = f.none_further;
  no_more_further = λ others ok same. g.none_further others ok (shortened other place (more_line_words others) (more_line_words bytes) h same);
}

second_later : (bytes : List ℕ) (place other : ℕ) → place ≤ other → IsFaultAt place bytes → IsMoreFaultAt other bytes → IsAnyFaultAt other bytes
second_later bytes place other h f g = record {
  before = inr (record { other = g.other; is_line = g.is_line; same = g.same });
  no_line_further = λ others ok same. f.none_further others ok (shortened place other (line_words others) (line_words bytes) h same);
  no_more_further = g.none_further;
}

pub later_is_of_any : (bytes : List ℕ) (place other : ℕ) → IsFaultAt place bytes → IsMoreFaultAt other bytes → IsAnyFaultAt (max place other) bytes
later_is_of_any bytes place other f g = elim (cases_order place other) [
  | inl same ↦ by_second (omega (arith, same))
  | inr apart ↦ elim apart [ inl below ↦ by_second (omega (arith, below)) | inr above ↦ by_first (omega (arith, above)) ]
]
  where
    by_first : other ≤ place → IsAnyFaultAt (max place other) bytes
    by_first h = let is : max place other ≡ place = omega (arith, h) in subst (λ p. IsAnyFaultAt p bytes) (sym is) (first_later bytes place other h f g)

    by_second : place ≤ other → IsAnyFaultAt (max place other) bytes
    by_second h = let is : max place other ≡ other = omega (arith, h) in subst (λ p. IsAnyFaultAt p bytes) (sym is) (second_later bytes place other h f g)

-- ---- one word
-- the words up to the first place would be those of a line
not_before : (bytes : List ℕ) (place other : ℕ) → place < other → IsAnyFaultAt place bytes → HasLineBefore other bytes ⊎ HasMoreLineBefore other bytes → ⊥
not_before bytes place other h f (inl b) =
    f.no_line_further b.other b.is_line (shortened place (other - 1) (line_words b.other) (line_words bytes) (omega (arith, h)) b.same)
not_before bytes place other h f (inr b) =
    f.no_more_further b.other b.is_line (shortened place (other - 1) (more_line_words b.other) (more_line_words bytes) (omega (arith, h)) b.same)

pub one_is_at_any_fault : OneIsAtAnyFault
one_is_at_any_fault bytes place other f g = elim (cases_order place other) [
  | inl same ↦ same
  | inr apart ↦ elim apart [
    | inl below ↦ absurd (not_before bytes place other below f g.before)
    | inr above ↦ absurd (not_before bytes other place above g f.before)
  ]
]

-- ---- the words of a line for all edits
-- with a space between each two, the words of a line for all edits are that line
pub more_words_are_the_line : MoreWordsAreTheLine
more_words_are_the_line bytes = (joined more_form (words bytes)).text ∙ join_with_byte-slice_split 32 bytes
