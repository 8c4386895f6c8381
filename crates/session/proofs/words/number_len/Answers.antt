use Rattle.std.proofs.Common.{◌≡◌, ◌∙◌, false, sym, take}
use Rattle.session.specs.Words.{is_numeral_prefix}
use Rattle.session.proofs.FirstNumbers.{first_large, first_no_prefix}
use Rattle.session.proofs.words.number_len.Goals as goal

pub returns-in_err-len-clause-none : goal.returns-in_err-len-clause-none
returns-in_err-len-clause-none c = rw c.from_residual.ensures (λ s other. first_large s c.args.bytes.now other c.in_err-len.ensures.none)

pub returns-then-not-has_numeral_prefix-clause-none : goal.returns-then-not-has_numeral_prefix-clause-none
returns-then-not-has_numeral_prefix-clause-none c =
    let prefix : is_numeral_prefix (take c.in_ok-len.len c.args.bytes.now) ≡ false = sym c.has_numeral_prefix.ensures ∙ c.if-not-has_numeral_prefix.true in
    λ s other. first_no_prefix s c.args.bytes.now c.in_ok-len.len _ other c.in_ok-len.ensures.some prefix
