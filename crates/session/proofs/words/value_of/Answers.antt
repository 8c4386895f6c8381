use Rattle.std.proofs.Common.{arith}
use Rattle.std.proofs.lemmas.Str.Parse.{digits_value-take-le}
use Rattle.session.proofs.words.value_of.Goals as goal

pub unreachable-requires : goal.unreachable-requires
unreachable-requires c =
    let large = c.in-None.ensures.none in
    omega (arith, large.large, digits_value-take-le 10 c.args.digits.now large.len (omega arith), c.requires.small)
