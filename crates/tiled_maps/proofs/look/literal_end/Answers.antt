use Rattle.std.proofs.Common.{arith}
use Rattle.tiled_maps.proofs.LookBytes.{literal_plain, ends_leads}
use Rattle.tiled_maps.proofs.look.literal_end.Goals as goal

pub returns : goal.returns
returns c =
    let text = c.args.text.now in
    let end = c.letters_end.result in
    ends_leads text c.args.at end c.after_word.result (omega (arith, c.letters_end.ensures.bounds.0))
    (λ ended rest. literal_plain text c.args.at end c.requires.within c.requires.letter c.letters_end.ensures.word ended rest) c.after_word.ensures
