use Rattle.std.proofs.Common.{◌≡◌, [], ◌∷◌, Some, sym, ap, ◌∙◌, arith, rules}
use Rattle.json.specs.Json.{value}
use Rattle.json.specs.Lex.{tokens}
use Rattle.json.specs.Reads.{token_of}
use Rattle.serde_json.specs.Read.{of_json, converted}
use Rattle.serde_json.specs.View.{view}
use Rattle.serde_json.proofs.Nesting.{depth-read}
use Rattle.map_layout.proofs.Reading.{whole_read}
use Rattle.map_layout.proofs.read.read_all.Goals as goal

pub returns : goal.returns
returns c =
    let text = c.args.text.now in
    let v = c.in_ok-value.value in
    let none : c.value_from.new.reader ≡ [] = search rules in
    let first : c.in_ok-reader.reader ≡ token_of c.in-Some.token ∷ c.next.new.self = grind arith in
    let all : tokens text ≡ token_of c.in-Some.token ∷ c.next.new.self = sym c.in_ok-reader.ensures.ok ∙ first in
    let done : converted of_json (value 127 (tokens text)) ≡ Some (view v, []) =
    ap (λ ts. converted of_json (value 127 ts)) all ∙ c.in_ok-value.ensures.ok ∙ ap (λ r. Some (view v, r)) none in
    let is = whole_read (value 127 (tokens text)) (view v) done in (is, depth-read text (view v) is)
