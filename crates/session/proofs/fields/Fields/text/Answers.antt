use Rattle.std.proofs.Common.{Ok, Err, cond, sym, ap, ◌∙◌}
use Rattle.refusals.specs.declared.line_fault.LineFault.TheVariants.{BadWord}
use Rattle.session.specs.Left.{Left}
use Rattle.session.specs.Grammar.{last_text_at}
use Rattle.session.specs.Words.{is_text, words_left}
use Rattle.session.proofs.Cutting.{text_of_words}
use Rattle.session.proofs.fields.Fields.text.Goals as goal

pub returns-in_default-clause-value : goal.returns-in_default-clause-value
unfolding last_text_at
returns-in_default-clause-value g c = ap last_text_at (ap (λ (l : Left). l.words) (sym c.self.view_is) ∙ ap words_left c.in_default.is)

pub returns-then-not-is_text_here-clause-value : goal.returns-then-not-is_text_here-clause-value
returns-then-not-is_text_here-clause-value g c =
    let text = c.in-Some.text.now in
    let left = ap (λ (l : Left). l.words) (sym c.self.view_is) ∙ ap words_left c.in-Some.is in
    let is = ap is_text (sym c.as_bytes.ensures.value) ∙ sym c.is_text_here.ensures ∙ c.if-not-is_text_here.true in
    ap last_text_at left ∙ text_of_words text ∙ ap (λ b. cond b (Ok text) (Err BadWord)) is

pub returns-clause-value : goal.returns-clause-value
returns-clause-value g c =
    let text = c.in-Some.text.now in
    let left = ap (λ (l : Left). l.words) (sym c.self.view_is) ∙ ap words_left c.in-Some.is in
    let is = ap is_text (sym c.as_bytes.ensures.value) ∙ sym c.is_text_here.ensures ∙ c.if-not-is_text_here.false in
    ap last_text_at left ∙ text_of_words text ∙ ap (λ b. cond b (Ok text) (Err BadWord)) is
    ∙ ap Ok (sym c.new.ensures)
