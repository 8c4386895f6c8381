use Rattle.std.proofs.Common.{inl, inr, arith}
use Rattle.std.proofs.lemmas.Bool.{leb-true}
use Rattle.tiled_maps.proofs.LookTexts.{short_plain, unicode_plain}
use Rattle.tiled_maps.proofs.look.is_no_letter.Goals as goal
use Rattle.tiled_maps.proofs.look.is_no_letter.Goals.{then-text-at-ne48-via-then-text-at-ne48, then-text-at-ne48-via-else-text-at-ne48+then-text-at-ne48-2}

pub returns-then-text-at-ne117-clause-other : goal.returns-then-text-at-ne117-clause-other
returns-then-text-at-ne117-clause-other c e = short_plain c.args.text.now c.args.at (omega arith) c.requires.backslash c.if-text-at-ne117.true

pub returns-then-text-at-ne48-clause-other : goal.returns-then-text-at-ne48-clause-other
returns-then-text-at-ne48-clause-other c e =
    let plain = unicode_plain c.args.text.now c.args.at (omega (arith, c.if-text-at-lt6.false)) c.requires.backslash c.if-text-at-ne117.false in
    elim c.then-text-at-ne48.branch [
      | then-text-at-ne48-via-then-text-at-ne48 w ↦ plain (inl (inl w.if-text-at-ne48.true))
      | then-text-at-ne48-via-else-text-at-ne48+then-text-at-ne48-2 w ↦ plain (inl (inr w.if-text-at-ne48-2.true))
    ]

pub returns-clause-other : goal.returns-clause-other
returns-clause-other c e =
    unicode_plain c.args.text.now c.args.at (omega (arith, c.if-text-at-lt6.false)) c.requires.backslash c.if-text-at-ne117.false (inr (leb-true 56 _ e))
