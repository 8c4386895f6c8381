use Rattle.std.proofs.Common.{◌≡◌, ◌≤◌, ◌∷◌, true, false, length, cond, Ok, refl, sym, ap, ◌∙◌, arith}
use Rattle.session.specs.declared.limits.TheConstants.{MAX_LINE}
use Rattle.session.specs.declared.line.Line.TheVariants.{Quiet}
use Rattle.session.specs.Words.{words}
use Rattle.session.specs.Grammar.{read, line_form}
use Rattle.session.specs.WordFaults.{is_at_word}
use Rattle.session.specs.Left.{next}
use Rattle.session.proofs.Faults.{told, next_first}
use Rattle.session.proofs.FirstChecks.{checked, refused}
use Rattle.session.proofs.Laws.{given_says, given_spelled}
use Rattle.session.proofs.parse.read_line.Goals as goal

pub returns-then-is_quiet_line-clause-value : goal.returns-then-is_quiet_line-clause-value
returns-then-is_quiet_line-clause-value g c =
    let bytes = c.args.bytes.now in
    let short : length bytes ≤ MAX_LINE = omega (arith, c.if-bytes-gt-MAX_LINE.false) in
    checked bytes short c.in-Some.ensures.some.1 ∙ ap (λ b. cond b (Ok Quiet) (read line_form (words bytes)))
    (sym c.is_quiet_line.ensures ∙ c.if-is_quiet_line.true)

pub returns-clause-value : goal.returns-clause-value
returns-clause-value g c =
    let bytes = c.args.bytes.now in
    let short : length bytes ≤ MAX_LINE = omega (arith, c.if-bytes-gt-MAX_LINE.false) in
    let e = checked bytes short c.in-Some.ensures.some.1 ∙ ap (λ b. cond b (Ok Quiet) (read line_form (words bytes)))
    (sym c.is_quiet_line.ensures ∙ c.if-is_quiet_line.false)
    ∙ ap (read line_form) (ap words (sym c.in-Some.ensures.some.0) ∙ c.cut.ensures.pieces)
    ∙ ap (λ left. read line_form (c.cut.result.0.now ∷ left)) (sym c.begin.ensures.words) in
    rw e c.command.ensures.value

pub returns-clause-says : goal.returns-clause-says
returns-clause-says g c = given_says c.args.bytes.now c.command.result (returns-clause-value g c)

pub returns-clause-spelled : goal.returns-clause-spelled
returns-clause-spelled g c = given_spelled c.args.bytes.now c.command.result (returns-clause-value g c)

pub returns-in_default-clause-value : goal.returns-in_default-clause-value
returns-in_default-clause-value g c =
    let bytes = c.args.bytes.now in
    let short : length bytes ≤ MAX_LINE = omega (arith, c.if-bytes-gt-MAX_LINE.false) in
    refused bytes short c.in_default.ensures.none

pub returns-clause-fault : goal.returns-clause-fault
returns-clause-fault g c = λ start at.
    let bytes = c.args.bytes.now in
    let short : length bytes ≤ MAX_LINE = omega (arith, c.if-bytes-gt-MAX_LINE.false) in
    let read_is = checked bytes short c.in-Some.ensures.some.1 ∙ ap (λ b. cond b (Ok Quiet) (read line_form (words bytes)))
    (sym c.is_quiet_line.ensures ∙ c.if-is_quiet_line.false) in
    let ws = ap words (sym c.in-Some.ensures.some.0) ∙ c.cut.ensures.pieces ∙ ap (λ left. c.cut.result.0.now ∷ left) (sym c.begin.ensures.words) in
    let first = c.begin.ensures.place ∙ ap next start ∙ next_first in
    told bytes c.command.new.fields.place c.command.new.fields.place c.begin.new.self.place (c.cut.result.0.now ∷ c.begin.new.self.words)
    c.command.result c.in-Some.ensures.some.1 short c.command.ensures.value c.command.ensures.place ws first refl
    (sym (ap is_at_word read_is) ∙ at)

pub returns-in_default-clause-fault : goal.returns-in_default-clause-fault
returns-in_default-clause-fault g c = λ start at.
    let none : false ≡ true = sym (ap is_at_word (returns-in_default-clause-value g c)) ∙ at in absurd cc
