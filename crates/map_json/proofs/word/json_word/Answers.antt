use Rattle.std.proofs.Common.{sym, ◌∙◌}
use Rattle.map_json.proofs.Asides.{said-IsWord}
use Rattle.map_json.proofs.word.json_word.Goals as goal

pub returns-clause-word : goal.returns-clause-word
returns-clause-word c =
    said-IsWord c.args.fractions c.args.place c.args.text.now c.in-Ok.value c.requires c.in-Ok.ensures.ok
    (sym c.may_have_fractions.ensures ∙ c.if-not-may_have_fractions.false) (sym c.in_ok-is_shallow.ensures ∙ c.if-not-branch.false)
