use Rattle.std.proofs.Common.{sym, ◌∙◌}
use Rattle.map_json.proofs.Asides.{said-AreWords}
use Rattle.map_json.proofs.word.json_words.Goals as goal

pub returns-in-Some-clause-words : goal.returns-in-Some-clause-words
returns-in-Some-clause-words c = λ m.
    said-AreWords c.args.fractions c.args.place m c.args.text.now c.in_ok-value.value c.in-Some.members c.requires c.in_ok-value.ensures.value
    (sym c.from_value.ensures ∙ c.in-Some.is) c.in_ok-value.ensures.word
