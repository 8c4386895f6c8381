use Rattle.std.proofs.Common.{◌+◌, ◌∙◌, sym, arith}
use Rattle.tiled_maps.proofs.LookBytes.{zero_plain, ends_leads, delimiter_plain}
use Rattle.tiled_maps.proofs.look.lexeme_end.Goals as goal

pub returns-in-48 : goal.returns-in-48
returns-in-48 c =
    let text = c.args.text.now in
    let at = c.args.at in
    ends_leads text at (at + 1) c.after_word.result (omega arith)
    (λ ended rest. zero_plain text at c.requires.within c.in-48.is ended rest) c.after_word.ensures

pub returns-then-is_delimiter : goal.returns-then-is_delimiter
returns-then-is_delimiter c =
    (omega arith, omega arith, delimiter_plain c.args.text.now c.args.at c.requires.within (sym c.is_delimiter.ensures ∙ c.if-is_delimiter.true))
