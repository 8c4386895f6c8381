use Rattle.std.proofs.Common.{◌-◌, ◌∙◌, ap, refl, sym, arith, Bool, Ok, map, set, take}
use Rattle.std.proofs.lemmas.List.{take-map}
use Rattle.undo_stack.specs.Entries.{entry_change}
use Rattle.undo_stack.specs.Held.{Becomes}
use Rattle.undo_stack.specs.Nestings.{nesting}
use Rattle.undo_stack.specs.Pushing.{up_to}
use Rattle.undo_stack.proofs.Joins.{last_fits}
use Rattle.undo_stack.proofs.Held.{other_number, unchanged, refused, taken, took_in, merged_err, merged_err_nestings}
use Rattle.undo_stack.proofs.Sequences.{map-set_same}
use Rattle.undo_stack.proofs.sequence.Sequence.merge_into.Goals as goal

-- the sequence once the entry below the index took the command in
same : (g : _) (c : goal.After-cut g) → let q = c.args.self.now in
    Becomes q (take q.index (set q.entries.items (q.index - 1) c.merge.new.self)) q.index (up_to q.index q.clean) c.cut.new.self
same g c =
    let k = c.cut.ensures.cut in
    record { entries = k.entries; index = k.index; clean = k.clean; limit = k.limit; has_free = k.has_free }

pub merge-requires-clause-older : goal.merge-requires-clause-older
merge-requires-clause-older g c =
    let f = g.C.Command.change in
    let q = c.args.self.now in
    let t = c.requires.held.sound.turnable in
    let b = (f c.args.command.now).undone c.args.document.now in
    last_fits (entry_change f) q.entries.items c.index_mut.result.now q.index b (omega arith) t.within c.index_mut.ensures.value t.down

pub returns-in_err-merge-clause-merged : goal.returns-in_err-merge-clause-merged
returns-in_err-merge-clause-merged g c =
    let f = g.C.Command.change in
    let q = c.args.self.now in
    let x = c.args.command.now in
    let d = c.args.document.now in
    let h = c.requires.held in
    let kept = rw c.in_err-merge.was at c.merge.ensures.merged in
    merged_err f x d q _ c.from_residual.result c.from_residual.ensures.0
    (unchanged f q c.index_mut.result.now c.merge.new.self (omega arith) h.sound.turnable.within c.index_mut.ensures.value c.merge.ensures.depth
    x d _ (record { entries = refl; index = refl; clean = refl; limit = refl; has_free = refl }) kept h)

pub returns-then-not-branch-clause-merged : goal.returns-then-not-branch-clause-merged
returns-then-not-branch-clause-merged g c =
    let h = c.requires.held in
    let no = rw (c.in_ok-merge.was ∙ ap (λ (b : Bool). Ok b) c.if-not-branch.true) at c.merge.ensures.merged in
    refused g.C.Command.change c.args.self.now c.index_mut.result.now c.merge.new.self (omega arith) h.sound.turnable.within
    c.index_mut.ensures.value c.merge.ensures.depth c.args.command.now c.args.document.now _
    (record { entries = refl; index = refl; clean = refl; limit = refl; has_free = refl }) no h

pub returns-clause-merged : goal.returns-clause-merged
returns-clause-merged g c =
    let q = c.args.self.now in
    let h = c.requires.held in
    let yes = rw (c.in_ok-merge.was ∙ ap (λ (b : Bool). Ok b) c.if-not-branch.false) at c.merge.ensures.merged in
    taken g.C.Command.change q c.index_mut.result.now c.merge.new.self (omega arith) h.sound.turnable.within
    c.index_mut.ensures.value c.merge.ensures.depth c.args.command.now c.args.document.now c.cut.new.self
    (same g c) (other_number q.clean q.index c.if-eq.ensures) yes h

pub returns-clause-joined : goal.returns-clause-joined
returns-clause-joined g c =
    let h = c.requires.held in
    let yes = c.in_ok-merge.was ∙ ap (λ (b : Bool). Ok b) c.if-not-branch.false in
    rw yes at (took_in g.C.Command.change c.args.self.now c.index_mut.result.now c.merge.new.self (omega arith) h.sound.turnable.within
    c.index_mut.ensures.value c.merge.ensures.depth c.args.command.now c.args.document.now c.cut.new.self c.merge.result
    (same g c) c.merge.ensures.merged)

pub returns-in_err-merge-clause-nests : goal.returns-in_err-merge-clause-nests
returns-in_err-merge-clause-nests g c =
    let q = c.args.self.now in
    let same =
    map-set_same nesting q.entries.items c.index_mut.result.now c.merge.new.self (q.index - 1) c.index_mut.ensures.value c.merge.ensures.nests in
    merged_err_nestings g.C.Command.change q _ c.from_residual.result c.from_residual.ensures.0 same

pub returns-then-not-branch-clause-nests : goal.returns-then-not-branch-clause-nests
returns-then-not-branch-clause-nests g c =
    let q = c.args.self.now in
    map-set_same nesting q.entries.items c.index_mut.result.now c.merge.new.self (q.index - 1) c.index_mut.ensures.value c.merge.ensures.nests

pub returns-clause-nests : goal.returns-clause-nests
returns-clause-nests g c =
    let q = c.args.self.now in
    let changed = set q.entries.items (q.index - 1) c.merge.new.self in
    let same =
    map-set_same nesting q.entries.items c.index_mut.result.now c.merge.new.self (q.index - 1) c.index_mut.ensures.value c.merge.ensures.nests in
    ap (map nesting) c.cut.ensures.cut.entries ∙ sym (take-map nesting q.index changed) ∙ ap (take q.index) same
