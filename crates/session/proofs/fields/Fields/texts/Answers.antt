use Rattle.std.proofs.Common.{◌≡◌, ◌∙◌, Bool, true, false, cond, List, ℕ, Option, Some, Bor, Ok, Err, sym, ap, ap₂}
use Rattle.std.specs.Prelude.{option_map}
use Rattle.refusals.specs.declared.line_fault.LineFault.TheVariants.{BadWord}
use Rattle.std.specs.List.{join_with_byte}
use Rattle.std.proofs.lemmas.List.Splits.{join_with_byte-slice_split}
use Rattle.session.specs.Left.{Left, next}
use Rattle.session.specs.Grammar.{last_texts_at}
use Rattle.session.specs.Words.{are_texts, cut_at_bars, is_text, words, words_left}
use Rattle.session.proofs.Cutting.{texts_of_words}
use Rattle.session.proofs.fields.Fields.texts.Goals as goal

tested : (bytes prefix : List ℕ) (behind : Option (List ℕ)) (b : Bool) → prefix ≡ (cut_at_bars bytes).0 → behind ≡ (cut_at_bars bytes).1
    → are_texts prefix behind ≡ b
    → last_texts_at (words bytes) ≡ cond b (Ok (prefix, behind)) (Err BadWord)
tested bytes prefix behind b f g is =
    let pair : cut_at_bars bytes ≡ (prefix, behind) = ap₂ (λ (x : List ℕ) (y : Option (List ℕ)). (x, y)) (sym f) (sym g) in
    texts_of_words bytes ∙ ap (λ (x : List ℕ × Option (List ℕ)). cond (are_texts x.0 x.1) (Ok x) (Err BadWord)) pair
    ∙ ap (λ t. cond t (Ok (prefix, behind)) (Err BadWord)) is

pub returns-then-not-are_texts_here-clause-value : goal.returns-then-not-are_texts_here-clause-value
returns-then-not-are_texts_here-clause-value g c =
    ap last_texts_at (ap (λ (l : Left). l.words) (sym c.self.view_is) ∙ ap words_left c.in-Some.is)
    ∙ tested c.in-Some.rest.now _ _ false c.cut_at_bars.ensures.prefix c.cut_at_bars.ensures.behind
    (sym c.are_texts_here.ensures ∙ c.if-not-are_texts_here.true)

pub returns-then-not-are_texts_here-clause-place : goal.returns-then-not-are_texts_here-clause-place
returns-then-not-are_texts_here-clause-place g c =
    let start = c.wants.ensures ∙ ap next (ap (λ (l : Left). l.place) c.self.view_is) in
    let left = ap (λ (l : Left). l.words) (sym c.self.view_is) ∙ ap words_left c.in-Some.is in
    let whole = ap (join_with_byte 32) left ∙ join_with_byte-slice_split 32 c.in-Some.rest.now in
    let text = c.cut_at_bars.ensures.prefix ∙ ap (λ (bs : List ℕ). (cut_at_bars bs).0) (sym whole) in
    c.wants_action.ensures ∙ ap₂ (λ (t : List ℕ) (p : ℕ). cond (is_text t) (next (next p)) p) text start

pub returns-in-Some-action-clause-value : goal.returns-in-Some-action-clause-value
returns-in-Some-action-clause-value g c =
    let seen : Option (Bor (List ℕ)) → Option (List ℕ) = option_map (λ (s : Bor (List ℕ)). s.now) in
    ap last_texts_at (ap (λ (l : Left). l.words) (sym c.self.view_is) ∙ ap words_left c.in-Some.is)
    ∙ tested c.in-Some.rest.now _ _ true c.cut_at_bars.ensures.prefix c.cut_at_bars.ensures.behind
    (sym c.are_texts_here.ensures ∙ c.if-not-are_texts_here.false)
    ∙ ap₂ (λ (x : List ℕ) (y : Option (List ℕ)). Ok (x, y)) (sym c.new.ensures)
    (ap seen c.in-Some-action.is ∙ ap Some (sym c.new-in-Some-action.ensures))

pub returns-in-None-clause-value : goal.returns-in-None-clause-value
returns-in-None-clause-value g c =
    let seen : Option (Bor (List ℕ)) → Option (List ℕ) = option_map (λ (s : Bor (List ℕ)). s.now) in
    ap last_texts_at (ap (λ (l : Left). l.words) (sym c.self.view_is) ∙ ap words_left c.in-Some.is)
    ∙ tested c.in-Some.rest.now _ _ true c.cut_at_bars.ensures.prefix c.cut_at_bars.ensures.behind
    (sym c.are_texts_here.ensures ∙ c.if-not-are_texts_here.false)
    ∙ ap₂ (λ (x : List ℕ) (y : Option (List ℕ)). Ok (x, y)) (sym c.new-in-None.ensures) (ap seen c.in-None.is)
