use Rattle.std.proofs.Common.{◌≡◌, ◌+◌, ◌^◌, ◌<◌, length, get_or, take, Some, sym, ap, ◌∙◌, subst, arith, take_all}
use Rattle.std.proofs.lemmas.Int.Digits.{digits_more, digits_value_more}
use Rattle.std.proofs.lemmas.Str.{digit_value_digit}
use Rattle.std.specs.Char.{digit_value}
use Rattle.std.specs.Str.Parse.{AllDigits, digits_value}
use Rattle.serde_json.specs.Data.{unsigned}
use Rattle.serde_json.specs.Read.{number_of}
use Rattle.map_layout.proofs.Digits.{number_of-digits}
use Rattle.map_layout.proofs.number.digits.Goals as goal

pub loop-byte-preserved : goal.loop-byte-preserved
loop-byte-preserved c =
    let s = c.as_bytes-bytes.result.now in
    let l = c.loop-byte in
    let digit = c.if-not-is_ascii_digit.ensures in
    let same : digit_value (get_or s l.byte-index 0) + 48 ≡ get_or s l.byte-index 0 = digit_value_digit _ digit.cases in
    let more = digits_value_more 10 s l.byte-index c.loop-byte-test.true in (
      digits_more 10 s l.byte-index c.loop-byte-test.true l.invariant.0 digit.bound,
      omega (arith, more, same, l.invariant.1),
    )

pub returns : goal.returns
returns c =
    let s = c.as_bytes-bytes.result.now in
    let l = c.loop-byte in
    let some : 0 < length s = grind arith in
    let all : take l.byte-index s ≡ s = take_all l.byte-index s c.loop-byte-test.false in
    let value : l.n ≡ digits_value 10 s = l.invariant.1 ∙ ap (digits_value 10) all in
    let fits : digits_value 10 s < 2 ^ 64 = subst (λ n. n < 2 ^ 64) value (grind arith) in
    ap number_of (sym c.as_bytes-bytes.ensures.value) ∙ number_of-digits s (subst (AllDigits 10) all l.invariant.0) some fits
    ∙ ap (λ n. Some (unsigned n)) (sym value)
