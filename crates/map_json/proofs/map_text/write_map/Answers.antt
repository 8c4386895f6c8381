use Rattle.std.proofs.Common.{IsUtf8, sym, ap, ◌∙◌, subst}
use Rattle.std.proofs.lemmas.Result.{IfOk-weaker}
use Rattle.serde_json.specs.Read.{read}
use Rattle.map_json.specs.Trees.{tree_of}
use Rattle.map_json.proofs.MapLaw.{map_again}
use Rattle.map_json.proofs.Plain.{tree_plain}
use Rattle.map_json.proofs.Returning.{read-compact_text}
use Rattle.map_json.proofs.map_text.write_map.Goals as goal

pub returns-clause-text : goal.returns-clause-text
returns-clause-text c = IfOk-weaker c.write_in.result _ _ (λ x h. h.0) c.write_in.ensures.text

pub returns-clause-read_back : goal.returns-clause-read_back
returns-clause-read_back c =
    let m = c.args.map.now in
    let plain = tree_plain m c.write_in.ensures.well_formed in
    IfOk-weaker c.write_in.result _ _ (λ x h. (subst IsUtf8 (sym h.0) h.1.utf8, ap read h.0 ∙ read-compact_text (tree_of m) h.1 plain.1))
    c.write_in.ensures.text

pub returns-clause-read_again : goal.returns-clause-read_again
returns-clause-read_again c = map_again c.args.map.now c.write_in.ensures.well_formed
