use Rattle.std.proofs.Common.{rules}
use Rattle.std.proofs.lemmas.Int.{to_z-of_z}
use mir.Syntax.{w32}
use mir.Val.{SFits}
use Rattle.edits.specs.Stamping.{after_stamp}
use Rattle.own_commands.specs.Framing.{frame_block}
use Rattle.own_commands.proofs.FrameTurns.{frame_block-IsBlock, frame_made}
use Rattle.own_commands.proofs.frame.Frame.new.Goals as goal

pub stamp_change-requires : goal.stamp_change-requires
stamp_change-requires c =
    let a = c.args.area.now in
    let x : SFits w32 a.x = search rules in
    let y : SFits w32 a.y = search rules in
    rw (c.as_slice.ensures.value, c.in-Ok.ensures, to_z-of_z w32 a.x x, to_z-of_z w32 a.y y)
    (frame_block-IsBlock a c.args.tile c.requires.wide c.requires.narrow c.requires.low)

pub returns-clause-command : goal.returns-clause-command
returns-clause-command c =
    let a = c.args.area.now in
    let d = c.args.document.now in
    let x : SFits w32 a.x = search rules in
    let y : SFits w32 a.y = search rules in
    let is = rw (c.as_slice.ensures.value, c.in-Ok.ensures, to_z-of_z w32 a.x x, to_z-of_z w32 a.y y) at c.in_ok-change.ensures.change in
    frame_made d c.args.layer (after_stamp d c.args.layer (frame_block a c.args.tile)) c.in_ok-change.change c.args.follows is
