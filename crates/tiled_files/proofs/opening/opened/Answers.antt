use Rattle.std.proofs.Common.{Some, Ok, sym, subst}
use Rattle.tiled_files.specs.Opening.{HasJson, OpensBy}
use Rattle.tiled_files.proofs.opening.opened.Goals as goal

pub returns-in-Some-clause-opened : goal.returns-in-Some-clause-opened
returns-in-Some-clause-opened c =
    let bytes = c.args.bytes.now in
    let has : HasJson bytes (Ok (Some c.in-Some.json)) = subst (λ o. HasJson bytes (Ok o)) c.in-Some.is c.in_ok-json.ensures in
    subst (λ xml. OpensBy xml bytes c.opened_json.result) (sym has.0) (c.opened_json.ensures.opened bytes has.1)

pub returns-in-Some-clause-json : goal.returns-in-Some-clause-json
returns-in-Some-clause-json c xml =
    let bytes = c.args.bytes.now in
    let has : HasJson bytes (Ok (Some c.in-Some.json)) = subst (λ o. HasJson bytes (Ok o)) c.in-Some.is c.in_ok-json.ensures in
    c.opened_json.ensures.json bytes has.1
