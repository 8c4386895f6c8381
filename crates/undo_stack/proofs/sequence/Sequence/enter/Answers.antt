use Rattle.std.proofs.Common.{◌≡◌, ◌∙◌, arith, take, [], ap, refl, sym, true, false}
use Rattle.std.proofs.lemmas.List.{take-map}
use Rattle.map_model.specs.Document.{DocumentParts}
use Rattle.command_api.specs.Names.{IsSettled}
use Rattle.undo_stack.specs.History.{step_named, History}
use Rattle.undo_stack.specs.Pushing.{with_added}
use Rattle.undo_stack.specs.Sound.{sequence_depth}
use Rattle.undo_stack.specs.Held.{IsCut, history_at}
use Rattle.undo_stack.specs.Nestings.{nesting}
use Rattle.undo_stack.specs.declared.pushed.Pushed.TheVariants.{Nothing}
use Rattle.undo_stack.proofs.EntryChanges.{entry_change-Command, depth-Command, nesting-Command}
use Rattle.undo_stack.proofs.Pushes.{sequence_depth-take, settled-same, undone_settled, current-cut, entered_gone, entered_added}
use Rattle.undo_stack.proofs.Held.{cut_held, cut_seen}
use Rattle.undo_stack.proofs.Told.{added_as-TellsDrop, unadded-TellsDrop, IsAdded-added_as}
use Rattle.undo_stack.proofs.Turnings.{false-true}
use Rattle.undo_stack.proofs.sequence.Sequence.enter.Goals as goal
use Rattle.undo_stack.proofs.sequence.Sequence.enter.Goals.{After-add-is_dropped}

-- ---- the command is obsolete
told : (g : _) (c : goal.After-drop-command g) → (g.C.Command.change c.args.command).obsolete ≡ true
told g c = sym c.obsolete.ensures.answer ∙ c.if-obsolete.true

-- so it changed nothing
settled : (g : _) (c : goal.After-drop-command g)
    → let w = g.C.Command.change c.args.command in IsSettled w.names.vanishing true (w.undone c.args.document.now) c.args.document.now
settled g c =
    undone_settled (g.C.Command.change c.args.command) c.args.document.now true c.requires.fits c.obsolete.ensures.law (told g c)

same : (g : _) (c : goal.After-drop-command g) → c.args.document.now ≡ (g.C.Command.change c.args.command).undone c.args.document.now
same g c =
    let w = g.C.Command.change c.args.command in
    settled-same w.names.vanishing (w.undone c.args.document.now) c.args.document.now (settled g c)

pub returns-then-obsolete-clause-held : goal.returns-then-obsolete-clause-held
returns-then-obsolete-clause-held g c =
    cut_held g.C.Command.change c.args.self.now c.cut.new.self c.cut.ensures.cut c.args.document.now (rw (sym (same g c)) at c.requires.held)

pub returns-then-obsolete-clause-entered : goal.returns-then-obsolete-clause-entered
returns-then-obsolete-clause-entered g c =
    let f = g.C.Command.change in
    let q = c.args.self.now in
    let d = c.args.document.now in
    let w = f c.args.command in
    let b = w.undone d in
    let p = c.cut.new.self in
    let within = c.requires.held.sound.turnable.within in
    let next = ap (λ (e : DocumentParts). history_at f e p) (same g c) ∙ cut_seen f q p c.cut.ensures.cut b within in
    rw (told g c) (entered_gone (history_at f b q) (step_named w.names d) (history_at f d p) b (current-cut f b q within) (settled g c) next)

-- ---- the command is added to what is left of the sequence
cut_before : (g : _) (c : goal.After-added g) → IsCut c.args.self.now c.cut-2.new.self
cut_before g c =
    let p = c.take_room.ensures.same in
    let k = c.cut-2.ensures.cut in
    record {
      entries = rw (p.entries, p.index) at k.entries;
      index = rw p.index at k.index;
      clean = rw (p.index, p.clean) at k.clean;
      limit = k.limit ∙ p.limit;
      has_free = k.has_free ∙ p.has_free;
    }

pub add-is_dropped-requires-clause-live : goal.add-is_dropped-requires-clause-live
add-is_dropped-requires-clause-live g c =
    rw (entry_change-Command g.C.Command.change c.args.command) (sym c.obsolete.ensures.answer ∙ c.if-obsolete.false)

pub returns-clause-held : goal.returns-clause-held
returns-clause-held g c =
    let f = g.C.Command.change in
    let x = c.args.command in
    let d = c.args.document.now in
    let held = cut_held f c.args.self.now c.cut-2.new.self (cut_before g c) ((f x).undone d) c.requires.held in
    c.add-is_dropped.ensures.held d (rw (entry_change-Command f x) c.requires.fits) (rw (entry_change-Command f x) held)

pub returns-clause-entered : goal.returns-clause-entered
returns-clause-entered g c =
    let f = g.C.Command.change in
    let q = c.args.self.now in
    let d = c.args.document.now in
    let w = f c.args.command in
    let b = w.undone d in
    let told : w.obsolete ≡ false = sym c.obsolete.ensures.answer ∙ c.if-obsolete.false in
    let settled = undone_settled w d false c.requires.fits c.obsolete.ensures.law told in
    let within = c.requires.held.sound.turnable.within in
    let added = rw (entry_change-Command f c.args.command) at (c.add-is_dropped.ensures.added d) in
    let onto = ap (λ (h : History). with_added (step_named w.names d) [] h) (cut_seen f q c.cut-2.new.self (cut_before g c) b within) in
    rw told (entered_added (history_at f b q) (step_named w.names d) (history_at f d c.add-is_dropped.new.self) b (current-cut f b q within) settled
    (added ∙ onto))

pub returns-then-obsolete-clause-depth : goal.returns-then-obsolete-clause-depth
returns-then-obsolete-clause-depth g c =
    rw c.cut.ensures.cut.entries (sequence_depth-take c.args.self.now.index c.args.self.now.entries.items)

pub returns-clause-depth : goal.returns-clause-depth
returns-clause-depth g c =
    let q = c.args.self.now in
    let left : sequence_depth c.cut-2.new.self.entries.items ≡ sequence_depth (take q.index q.entries.items) =
    ap sequence_depth (cut_before g c).entries in
    omega (arith, c.add-is_dropped.ensures.depth, left, sequence_depth-take q.index q.entries.items, depth-Command c.args.command)

pub returns-then-obsolete-clause-nests : goal.returns-then-obsolete-clause-nests
returns-then-obsolete-clause-nests g c =
    let q = c.args.self.now in
    rw (told g c, c.cut.ensures.cut.entries) (sym (take-map nesting q.index q.entries.items))

pub returns-clause-nests : goal.returns-clause-nests
returns-clause-nests g c =
    let q = c.args.self.now in
    let k = cut_before g c in
    let told : (g.C.Command.change c.args.command).obsolete ≡ false = sym c.obsolete.ensures.answer ∙ c.if-obsolete.false in
    let same = take-map nesting q.index q.entries.items in
    c.add-is_dropped.ensures.nests ∙ rw (told, k.limit, k.entries, nesting-Command c.args.command, same) refl

-- ---- what is told of it
pub returns-clause-merged : goal.returns-clause-merged
returns-clause-merged g c = rw c.added.ensures (IsAdded-added_as c.add-is_dropped.result).0

pub returns-then-obsolete-clause-gone : goal.returns-then-obsolete-clause-gone
returns-then-obsolete-clause-gone g c = sym (told g c)

pub returns-clause-gone : goal.returns-clause-gone
returns-clause-gone g c =
    let live : (g.C.Command.change c.args.command).obsolete ≡ false = sym c.obsolete.ensures.answer ∙ c.if-obsolete.false in
    rw (c.added.ensures, live) (IsAdded-added_as c.add-is_dropped.result).1

pub returns-then-obsolete-clause-dropped : goal.returns-then-obsolete-clause-dropped
returns-then-obsolete-clause-dropped g c =
    unadded-TellsDrop Nothing [] (history_at g.C.Command.change c.args.document.now c.args.self.now) (λ added. false-true (sym added.1))

pub returns-clause-dropped : goal.returns-clause-dropped
returns-clause-dropped g c =
    let q = c.args.self.now in
    let k = cut_before g c in
    let full = rw (k.limit, k.index) at c.add-is_dropped.ensures.dropped in
    rw c.added.ensures (added_as-TellsDrop c.add-is_dropped.result [] (history_at g.C.Command.change c.args.document.now q) full)
