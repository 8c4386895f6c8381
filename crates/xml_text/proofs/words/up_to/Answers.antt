use Rattle.std.proofs.Common.{◌≡◌, length, eqb, refl}
use Rattle.std.specs.List.{position_or_len}
use Rattle.xml_text.specs.Words.{up_to}
use Rattle.xml_text.proofs.WordLaws.{first_byte, no_first_byte}
use Rattle.xml_text.proofs.words.up_to.Goals as goal

pub returns-in-Some-clause-parts : goal.returns-in-Some-clause-parts
unfolding up_to
returns-in-Some-clause-parts c =
    let n : position_or_len (λ b. eqb b c.args.byte) c.args.text.now ≡ c.in-Some.n =
    first_byte c.args.byte c.in-Some.n c.args.text.now (rw c.as_bytes.ensures.value at c.in-Some.ensures) in
    rw (n, c.split_at.ensures.front, c.split_at.ensures.back) refl

pub returns-in-None-clause-parts : goal.returns-in-None-clause-parts
unfolding up_to
returns-in-None-clause-parts c =
    let n : position_or_len (λ b. eqb b c.args.byte) c.args.text.now ≡ length c.args.text.now =
    no_first_byte c.args.byte c.args.text.now (rw c.as_bytes.ensures.value at c.in-None.ensures) in
    rw (n, c.split_at-in-None.ensures.front, c.split_at-in-None.ensures.back) refl
