use Rattle.layer_commands.proofs.SizeLaws.{laid-first, noted-first}
use Rattle.layer_commands.proofs.resize.OtherSize.exchange.Goals as goal

pub returns-then-self : goal.returns-then-self
returns-then-self c =
    let s = c.args.self.now in
    let laid = c.swap_canvas.ensures in
    rw c.if-self.true (
    noted-first s.canvas c.swap_canvas.new.canvas s.notes.items c.exchange_notes.new.notes.items c.args.document.now c.exchange_notes.new.document
    c.swap_canvas.new.self (record { document = laid.document; fits = laid.back; turned = laid.turned }) (rw c.if-self.true at c.requires.fits)
    c.exchange_notes.ensures.notes c.exchange_notes.ensures.document
    )

pub returns : goal.returns
returns c =
    let s = c.args.self.now in
    let laid = c.swap_canvas-2.ensures in
    rw c.if-self.false (
    laid-first s.canvas c.swap_canvas-2.new.canvas s.notes.items c.exchange_notes-2.new.notes.items c.args.document.now c.swap_canvas-2.new.self
    c.exchange_notes-2.new.document (record { document = laid.document; fits = laid.back; turned = laid.turned }) (rw c.if-self.false at c.requires.fits)
    c.exchange_notes-2.ensures.notes c.exchange_notes-2.ensures.document
    )
