use Rattle.std.proofs.Common.{◌≡◌, ◌≤◌, ◌-◌, get_or, sym, ◌∙◌}
use Rattle.tiled_maps.proofs.LookBytes.{cell_plain, short_cell_plain}
use Rattle.tiled_maps.proofs.look.cell_end.Goals as goal
use Rattle.tiled_maps.proofs.look.cell_end.Goals.{else-text-at-eq48-via-then-text-at-eq48+else-len-gt1, else-text-at-eq48-via-else-text-at-eq48}

pub returns-then-text-at-eq44-clause-plain : goal.returns-then-text-at-eq44-clause-plain
returns-then-text-at-eq44-clause-plain c _ rest =
    short_cell_plain c.args.text.now c.args.at c.requires.last c.requires.within
    (sym c.is_ascii_digit.ensures.value ∙ c.if-is_ascii_digit.true) c.if-text-at-eq44.true rest

pub returns-clause-plain : goal.returns-clause-plain
returns-clause-plain c some rest =
    let text = c.args.text.now in
    let end = c.digits_end-end.result in
    let comma : get_or text end 0 ≡ 44 = c.if-text-end-ne44.false in
    let zeros : get_or text c.args.at 0 ≡ 48 → end - c.args.at ≤ 1 =
    λ e. elim c.else-text-at-eq48.branch [
      | else-text-at-eq48-via-then-text-at-eq48+else-len-gt1 w ↦ w.if-len-gt1.false
      | else-text-at-eq48-via-else-text-at-eq48 w ↦ absurd (w.if-text-at-eq48.false e)
    ] in
    cell_plain text c.args.at end c.requires.within c.digits_end-end.ensures.bound c.digits_end-end.ensures.value some c.if-len-gt-MAX_DIGITS.false zeros comma
    rest
