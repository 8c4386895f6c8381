use Rattle.std.proofs.Common.{◌≡◌, chars, sym, ap, ◌∙◌}
use Rattle.std.specs.List.{list_all}
use Rattle.std.specs.Result.{result_ok}
use Rattle.xml_text.specs.Said.{is_character}
use Rattle.xml_text.specs.Reading.{document, reading}
use Rattle.xml_text.proofs.ReadLaws.{no_text, controls, reads, refused}
use Rattle.xml_text.proofs.reading.read.Goals as goal

pub returns-in-Err-clause-exact : goal.returns-in-Err-clause-exact
returns-in-Err-clause-exact c = no_text _ c.in-Err.ensures.cases.0

pub returns-in-Err-clause-refused : goal.returns-in-Err-clause-refused
returns-in-Err-clause-refused c = λ other. refused _ _ (no_text _ c.in-Err.ensures.cases.0) other

pub returns-then-not-has_characters-clause-exact : goal.returns-then-not-has_characters-clause-exact
returns-then-not-has_characters-clause-exact c =
    let same = c.in-Ok.ensures.cases in
    controls _ same.1 (ap (λ bs. list_all is_character (chars bs)) (sym same.0) ∙ sym c.has_characters.ensures ∙ c.if-not-has_characters.true)

pub returns-then-not-has_characters-clause-refused : goal.returns-then-not-has_characters-clause-refused
returns-then-not-has_characters-clause-refused c = λ other.
    let same = c.in-Ok.ensures.cases in
    refused _ _ (controls _ same.1
    (ap (λ bs. list_all is_character (chars bs)) (sym same.0) ∙ sym c.has_characters.ensures ∙ c.if-not-has_characters.true)) other

pub returns-in-Ok-document-clause-exact : goal.returns-in-Ok-document-clause-exact
returns-in-Ok-document-clause-exact c =
    let same = c.in-Ok.ensures.cases in
    reads _ same.1 (ap (λ bs. list_all is_character (chars bs)) (sym same.0) ∙ sym c.has_characters.ensures ∙ c.if-not-has_characters.false)
    ∙ ap document (sym same.0) ∙ c.in-Ok-document.ensures.root

pub returns-in-Ok-document-clause-read : goal.returns-in-Ok-document-clause-read
returns-in-Ok-document-clause-read c =
    let same = c.in-Ok.ensures.cases in
    ap result_ok (reads _ same.1 (ap (λ bs. list_all is_character (chars bs)) (sym same.0) ∙ sym c.has_characters.ensures ∙ c.if-not-has_characters.false)
    ∙ ap document (sym same.0) ∙ c.in-Ok-document.ensures.root)

pub returns-in-Err-document-clause-exact : goal.returns-in-Err-document-clause-exact
returns-in-Err-document-clause-exact c =
    let same = c.in-Ok.ensures.cases in
    let is : reading c.args.bytes.now ≡ document c.in-Ok.text.now =
    reads _ same.1 (ap (λ bs. list_all is_character (chars bs)) (sym same.0) ∙ sym c.has_characters.ensures ∙ c.if-not-has_characters.false)
    ∙ ap document (sym same.0) in
    rw is (c.placed.ensures _ c.in-Err-document.ensures.root)

pub returns-in-Err-document-clause-refused : goal.returns-in-Err-document-clause-refused
returns-in-Err-document-clause-refused c = λ other.
    let same = c.in-Ok.ensures.cases in
    let is : reading c.args.bytes.now ≡ document c.in-Ok.text.now =
    reads _ same.1 (ap (λ bs. list_all is_character (chars bs)) (sym same.0) ∙ sym c.has_characters.ensures ∙ c.if-not-has_characters.false)
    ∙ ap document (sym same.0) in
    refused _ _ (rw is (c.placed.ensures _ c.in-Err-document.ensures.root)) other
