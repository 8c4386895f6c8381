use Rattle.std.proofs.Common.{◌<◌, ◌≡◌, ◌≢◌, length, get_or, arith}
use Rattle.std.proofs.lemmas.Str.{lead_after_ascii}
use Rattle.session.proofs.FirstNumbers.{first_stops, first_all, first_cut}
use Rattle.session.proofs.words.behind_digits.Goals as goal

pub returns-then-len-bytes-clause-number : goal.returns-then-len-bytes-clause-number
returns-then-len-bytes-clause-number c =
    let found = c.requires.digits in
    first_all _ _ c.args.len c.args.number c.requires.other found.digits found.prefix (omega (arith, c.if-len-bytes.true, c.as_bytes-bytes.ensures.len))

pub returns-then-bytes-len-clause-number : goal.returns-then-bytes-len-clause-number
returns-then-bytes-len-clause-number c =
    let found = c.requires.digits in
    let inside : c.args.len < length c.args.text.now = omega (arith, c.if-len-bytes.false, c.as_bytes-bytes.ensures.len, found.digits.within) in
    let other : get_or c.args.text.now c.args.len 0 ≢ c.args.separator = rw c.as_bytes-bytes.ensures.value at c.if-bytes-len.true in
    first_stops _ _ c.args.len c.args.number c.requires.other found.digits inside other

pub range_from-requires : goal.range_from-requires
range_from-requires c =
    let n = c.args.len in
    let text = c.args.text.now in
    let inside : n < length text = omega (arith, c.if-len-bytes.false, c.as_bytes-bytes.ensures.len, c.requires.digits.digits.within) in
    let at : get_or text n 0 ≡ c.args.separator = rw c.as_bytes-bytes.ensures.value at c.if-bytes-len.false in
    let small : get_or text n 0 < 128 = omega (arith, at, c.requires.ascii) in
    λ h. (omega (arith, inside), λ l k. lead_after_ascii text n c.utf8.text small l k)

pub returns-clause-number : goal.returns-clause-number
returns-clause-number c =
    let n = c.args.len in
    let text = c.args.text.now in
    let found = c.requires.digits in
    let inside : n < length text = omega (arith, c.if-len-bytes.false, c.as_bytes-bytes.ensures.len, found.digits.within) in
    let at : get_or text n 0 ≡ c.args.separator = rw c.as_bytes-bytes.ensures.value at c.if-bytes-len.false in
    first_cut _ _ n c.args.number c.range_from.result c.requires.other found.digits found.prefix inside at c.range_from.ensures.value
