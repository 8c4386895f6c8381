-- A spelled line for all edits is read as that line, and what is read is its spelling.
use Rattle.std.proofs.Common.{◌≡◌, ℕ, ◌≤◌, true, false, ltb, not, List, ◌∷◌, length, Ok, Err, Result, Some, refl, sym, ap, ◌∙◌, subst, rules}
use Rattle.std.specs.Prelude.{IfOk}
use Rattle.std.specs.List.{AllByRecursion, flat_map}
use Rattle.std.specs.Str.{IsUtf8, is_utf8}
use Rattle.std.proofs.lemmas.List.Splits.{join_with_byte-slice_split}
use Rattle.std.proofs.lemmas.Bool.{cond_both, lt-ltb, ltb-false, not-false}
use Rattle.std.proofs.lemmas.Str.{IsUtf8-from_is_utf8}
use Rattle.map_model.specs.declared.parts.MoreLayerKind.TheVariants.{Group, Image}
use Rattle.session.specs.declared.limits.TheConstants.{MAX_LINE}
use Rattle.session.specs.declared.more_line.MoreLine.{MoreLine}
use Rattle.session.specs.declared.more_line.MoreLine.TheVariants.{SetMember, PutMembers, RemoveMember, AddLayer, PutObject, PutLayer}
use Rattle.session.specs.declared.more_line.MoreLine.TheVariants.{ReparentObject, ReparentLayer, PutProperty, TakeProperty, PutTileset, NumberTileset, Extend}
use Rattle.refusals.specs.declared.line_fault.LineFault.{LineFault}
use Rattle.session.specs.Grammar.{Gives, read}
use Rattle.session.specs.MoreGrammar.{more_form, more_line_of}
use Rattle.session.specs.MoreSpelling.{CanBeSpelledMore, MoreLongIsNotRead, MoreReadIsSpelled, MoreSpelledIsRead, more_spelling, more_tokens}
use Rattle.session.specs.Spelling.{IsToken, spaced, token_words}
use Rattle.session.specs.Words.{words}
use Rattle.session.proofs.FirstChecks.{more_checked}
use Rattle.session.proofs.Forms.{Agrees, Spells, follow, followed_is_read, read_is_spelled}
use Rattle.session.proofs.Laws.{are_plain, clean_tokens}
use Rattle.session.proofs.SpacedWords.{Clean, clean_words, utf8-spaced, words-spaced}

-- what is found of each line by computing
record LineFacts (line : MoreLine) : Type 0 where
  follows : follow more_form (more_tokens line) ≡ Some line
  plain : are_plain (more_tokens line) ≡ true
  first : List ℕ
  more : List (List ℕ)
  words : flat_map token_words (more_tokens line) ≡ first ∷ more

facts : (line : MoreLine) → LineFacts line
facts (SetMember owner name json true) = record { follows = refl; plain = refl; first = _; more = _; words = refl }
facts (SetMember owner name json false) = record { follows = refl; plain = refl; first = _; more = _; words = refl }
facts (PutMembers owner json true) = record { follows = refl; plain = refl; first = _; more = _; words = refl }
facts (PutMembers owner json false) = record { follows = refl; plain = refl; first = _; more = _; words = refl }
facts (RemoveMember owner name) = record { follows = refl; plain = refl; first = _; more = _; words = refl }
facts (AddLayer Group name) = record { follows = refl; plain = refl; first = _; more = _; words = refl }
facts (AddLayer Image name) = record { follows = refl; plain = refl; first = _; more = _; words = refl }
facts (PutObject layer json) = record { follows = refl; plain = refl; first = _; more = _; words = refl }
facts (ReparentObject object layer place) = record { follows = refl; plain = refl; first = _; more = _; words = refl }
facts (ReparentLayer layer group place) = record { follows = refl; plain = refl; first = _; more = _; words = refl }
facts (PutLayer group place json) = record { follows = refl; plain = refl; first = _; more = _; words = refl }
facts (PutProperty owner json) = record { follows = refl; plain = refl; first = _; more = _; words = refl }
facts (TakeProperty owner json) = record { follows = refl; plain = refl; first = _; more = _; words = refl }
facts (PutTileset json) = record { follows = refl; plain = refl; first = _; more = _; words = refl }
facts (NumberTileset first_id number) = record { follows = refl; plain = refl; first = _; more = _; words = refl }
facts (Extend left top right bottom) = record { follows = refl; plain = refl; first = _; more = _; words = refl }

-- a spelling is UTF-8, and its words are those of the tokens
pub more_words : (line : MoreLine) → CanBeSpelledMore line
    → IsUtf8 (more_spelling line) × (words (more_spelling line) ≡ flat_map token_words (more_tokens line))
more_words line h =
    let r = facts line in
    let ws = flat_map token_words (more_tokens line) in
    let all = clean_tokens (more_tokens line) r.plain h.tokens in (
      utf8-spaced ws all,
      ap (λ vs. words (spaced vs)) r.words ∙ words-spaced r.first r.more (subst (AllByRecursion Clean) r.words all) ∙ sym r.words,
    )

pub more_spelled_is_read : MoreSpelledIsRead
more_spelled_is_read line h =
    let back = more_words line h in
    more_checked (more_spelling line) h.short back.0
    ∙ ap (read more_form) back.1
    ∙ followed_is_read more_form (more_tokens line) line (facts line).follows h.tokens

agrees : Agrees more_tokens more_form (λ ts. ts)
agrees = search rules

settled : (bytes : List ℕ) (r : Result MoreLine LineFault) → length bytes ≤ MAX_LINE → IfOk r (Spells more_tokens (λ ts. ts) (words bytes))
    → IfOk r (λ line. (bytes ≡ more_spelling line) × CanBeSpelledMore line)
settled bytes (Ok line) l h =
    let same : bytes ≡ more_spelling line = sym (join_with_byte-slice_split 32 bytes) ∙ ap spaced (h.words ∙ ap (flat_map token_words) (sym h.are)) in
    (same, record { tokens = subst (AllByRecursion IsToken) (sym h.are) h.fit; short = subst (λ bs. length bs ≤ MAX_LINE) same l })
settled bytes (Err e) l h = tt

line_says : (bytes : List ℕ) → IfOk (more_line_of bytes) (λ line. (bytes ≡ more_spelling line) × CanBeSpelledMore line)
unfolding more_line_of
line_says bytes =
    let Q : Result MoreLine LineFault → Type 0 = λ r. IfOk r (λ line. (bytes ≡ more_spelling line) × CanBeSpelledMore line) in
    cond_both (ltb MAX_LINE (length bytes)) _ _ Q (λ _. tt) (λ small.
    cond_both (not (is_utf8 bytes)) _ _ Q (λ _. tt) (λ utf8.
    settled bytes (read more_form (words bytes)) (ltb-false _ _ small)
    (read_is_spelled more_tokens more_form (λ ts. ts) (words bytes) agrees (clean_words bytes (IsUtf8-from_is_utf8 bytes (not-false _ utf8))))))

pub more_read_is_spelled : MoreReadIsSpelled
more_read_is_spelled bytes line e = subst (λ r. IfOk r (λ l. (bytes ≡ more_spelling l) × CanBeSpelledMore l)) e (line_says bytes)

pub given_more_spelled : (bytes : List ℕ) (result : Result MoreLine LineFault) → Gives (λ x. x) result (more_line_of bytes)
    → IfOk result (λ line. (bytes ≡ more_spelling line) × CanBeSpelledMore line)
given_more_spelled bytes (Ok line) e = more_read_is_spelled bytes line e
given_more_spelled bytes (Err f) e = tt

pub more_long_is_not_read : MoreLongIsNotRead
unfolding more_line_of
more_long_is_not_read bytes h = rw (lt-ltb MAX_LINE (length bytes) h) refl
