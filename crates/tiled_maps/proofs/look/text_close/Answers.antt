use Rattle.std.proofs.Common.{◌≡◌, ◌≤◌, ◌+◌, ◌-◌, length, drop, take, refl, ap, ◌∙◌, arith}
use Rattle.json.specs.Lex.{lex, in_string}
use Rattle.tiled_maps.proofs.LookTexts.{goes_on, leaves, backslash_at, none_before, rest_is}
use Rattle.tiled_maps.proofs.look.text_close.Goals as goal

pub returns-then-rest-len-eq34 : goal.returns-then-rest-len-eq34
returns-then-rest-len-eq34 c =
    let text = c.args.text.now in
    let l = c.loop-at in
    let len = c.in_ok-len.len in
    let xs = take (length text - l.at) (drop l.at text) in
    let is : xs ≡ drop l.at text = rest_is text l.at in
    let first = c.in_ok-len.ensures in
    record {
      after = omega (arith, l.invariant.1);
      within = omega (arith, first.0.high);
      lexed = l.invariant.0 ∙ leaves text l.at len xs is first.0.high (none_before xs len first.0.before) c.if-rest-len-eq34.true (l.at + len + 1) refl;
    }

pub loop-at-preserved : goal.loop-at-preserved
loop-at-preserved c =
    let text = c.args.text.now in
    let l = c.loop-at in
    let len = c.in_ok-len.len in
    let xs = take (length text - l.at) (drop l.at text) in
    let is : xs ≡ drop l.at text = rest_is text l.at in
    let first = c.in_ok-len.ensures in
    let backslash = backslash_at text l.at len (l.at + len) xs is refl first.1 c.if-rest-len-eq34.false in
    let within : len ≤ length xs = omega (arith, first.0.high) in
    let next : l.at + len + 2 ≡ l.at + len + 1 + 1 = omega arith in (
      l.invariant.0 ∙ goes_on text l.at len xs is within (none_before xs len first.0.before) (l.at + len) refl (omega (arith, c.if-end-text.false)) backslash
          ∙ ap (λ k. lex in_string (drop k text)) next,
      omega (arith, l.invariant.1),
      omega (arith, c.if-end-text.false),
    )
