use Rattle.std.proofs.Common.{◌≡◌, ◌≤◌, ◌+◌, ◌-◌, length, drop, take, refl, ap, subst, arith}
use Rattle.json.specs.Lex.{lex, between}
use Rattle.tiled_maps.specs.Lexemes.{IsPlainText}
use Rattle.tiled_maps.proofs.LookTexts.{text_plain, escaped_leads, backslash_at, none_before, rest_is}
use Rattle.tiled_maps.proofs.look.text_end.Goals as goal

pub returns-then-rest-len-ne34 : goal.returns-then-rest-len-ne34
returns-then-rest-len-ne34 c =
    let text = c.args.text.now in
    let at = c.args.at in
    let len = c.in_ok-len.len in
    let xs = take (length text - (at + 1)) (drop (at + 1) text) in
    let is : xs ≡ drop (at + 1) text = rest_is text (at + 1) in
    let first = c.in_ok-len.ensures in
    let backslash = backslash_at text (at + 1) len (at + 1 + len) xs is refl first.1 c.if-rest-len-ne34.true in
    let within : len ≤ length xs = omega (arith, first.0.high) in
    escaped_leads text at len xs is c.requires.within c.requires.quote within (none_before xs len first.0.before)
    (at + 1 + len) refl backslash c.escaped_end.result c.escaped_end.ensures

pub returns-then-is_plain_name : goal.returns-then-is_plain_name
returns-then-is_plain_name c =
    let text = c.args.text.now in
    let at = c.args.at in
    let len = c.in_ok-len.len in
    let end = at + 1 + len + 1 in
    let xs = take (length text - (at + 1)) (drop (at + 1) text) in
    let is : xs ≡ drop (at + 1) text = rest_is text (at + 1) in
    let first = c.in_ok-len.ensures in
    let plain : IsPlainText (take len xs) (lex between (drop end text))
    = subst (λ t. IsPlainText (take len xs) (lex between t)) (rest_is text end) (c.is_plain_name.ensures c.if-is_plain_name.true) in (
      omega arith,
      omega (arith, first.0.high, ap length is),
      λ rest. text_plain text at len xs is c.requires.within c.requires.quote first.0.high
          (none_before xs len first.0.before) c.if-rest-len-ne34.false end refl plain rest,
    )
