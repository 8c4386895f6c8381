use Rattle.std.proofs.Common.{List, ℕ, length, ap, arith}
use Rattle.xml_text.proofs.WordLaws.{some_before}
use Rattle.xml_text.proofs.nodes.characters.Goals as goal

pub returns-clause-shorter : goal.returns-clause-shorter
returns-clause-shorter c =
    let size = ap (λ (x : List ℕ × List ℕ). length x.1) c.up_to.ensures.parts in
    omega (arith, size, some_before c.args.bytes.now c.requires.some c.requires.no_tag)
