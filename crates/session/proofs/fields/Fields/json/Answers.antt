use Rattle.std.proofs.Common.{Ok, Err, cond, length, sym, ap, ◌∙◌}
use Rattle.std.proofs.lemmas.Bool.{eq-eqb, ne_eqb}
use Rattle.refusals.specs.declared.line_fault.LineFault.TheVariants.{BadWord}
use Rattle.session.specs.Left.{Left}
use Rattle.session.specs.Grammar.{last_json_at}
use Rattle.session.specs.Words.{words_left}
use Rattle.session.proofs.Cutting.{json_of_words}
use Rattle.session.proofs.fields.Fields.json.Goals as goal

pub returns-in_default-clause-value : goal.returns-in_default-clause-value
unfolding last_json_at
returns-in_default-clause-value g c = ap last_json_at (ap (λ (l : Left). l.words) (sym c.self.view_is) ∙ ap words_left c.in_default.is)

pub returns-then-text-eq0-clause-value : goal.returns-then-text-eq0-clause-value
returns-then-text-eq0-clause-value g c =
    let text = c.in-Some.text.now in
    let left = ap (λ (l : Left). l.words) (sym c.self.view_is) ∙ ap words_left c.in-Some.is in
    ap last_json_at left ∙ json_of_words text ∙ ap (λ b. cond b (Err BadWord) (Ok text)) (eq-eqb (length text) 0 c.if-text-eq0.true)

pub returns-clause-value : goal.returns-clause-value
returns-clause-value g c =
    let text = c.in-Some.text.now in
    let left = ap (λ (l : Left). l.words) (sym c.self.view_is) ∙ ap words_left c.in-Some.is in
    ap last_json_at left ∙ json_of_words text ∙ ap (λ b. cond b (Err BadWord) (Ok text)) (ne_eqb (length text) 0 c.if-text-eq0.false)
    ∙ ap Ok (sym c.new.ensures)
