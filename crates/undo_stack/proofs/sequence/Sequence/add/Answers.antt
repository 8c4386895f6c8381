use Rattle.std.proofs.Common.{◌≡◌, ◌<◌, ◌+◌, ◌-◌, ◌++◌, ◌∷◌, ◌∙◌, [], ap, refl, sym, arith, drop, map, List}
use Rattle.std.proofs.lemmas.List.{map-append}
use Rattle.undo_stack.specs.declared.entry.Entry.{Entry}
use Rattle.undo_stack.proofs.Held.{most_kept, most_added, all_kept, all_added}
use Rattle.undo_stack.specs.Nestings.{nesting}
use Rattle.undo_stack.proofs.Nestings.{kept_none, nestings-added}
use Rattle.undo_stack.proofs.Pushes.{sequence_depth-append, sequence_depth-drop}
use Rattle.undo_stack.proofs.Turnings.{false-true}
use Rattle.undo_stack.proofs.sequence.Sequence.add.Goals as goal

items : (g : _) (c : goal.After-drop_surplus g)
    → c.drop_surplus.new.self.entries.items
    ≡ drop (c.args.self.now.index + 1 - c.args.self.now.limit) (c.args.self.now.entries.items ++ c.args.entry ∷ [])
items g c =
    let k = c.args.self.now.index + 1 - c.args.self.now.limit in
    c.drop_surplus.ensures.left.entries ∙ ap (λ (xs : List (Entry g.row.C.Denot)). drop k xs) c.push_back_reserved.ensures.items

pub returns-then-self-ne0-clause-held : goal.returns-then-self-ne0-clause-held
returns-then-self-ne0-clause-held g c =
    let r = c.requires in
    let e = c.drop_surplus.ensures.left in
    most_kept g.C.Command.change c.args.self.now c.drop_surplus.new.self c.args.entry r.at_end e.limit (omega arith)
    (items g c, e.index, e.clean) (r.depth, r.live, rw e.has_free c.is_free_with-self.ensures)

pub returns-then-self-ne0-clause-added : goal.returns-then-self-ne0-clause-added
returns-then-self-ne0-clause-added g c =
    let e = c.drop_surplus.ensures.left in
    most_added g.C.Command.change c.args.self.now c.drop_surplus.new.self c.args.entry c.requires.at_end e.limit (omega arith)
    (items g c, e.index, e.clean)

pub returns-else-self-ne0-clause-held : goal.returns-else-self-ne0-clause-held
returns-else-self-ne0-clause-held g c =
    let r = c.requires in
    all_kept g.C.Command.change c.args.self.now _ c.args.entry r.at_end refl (omega arith)
    (c.push_back_reserved.ensures.items, refl, refl) (r.depth, r.live, c.is_free_with-self.ensures)

pub returns-else-self-ne0-clause-added : goal.returns-else-self-ne0-clause-added
returns-else-self-ne0-clause-added g c =
    let q = c.args.self.now in
    all_added g.C.Command.change q
    (record q { entries = c.push_back_reserved.new.self; index = q.index + 1; has_free = c.is_free_with-self.result })
    c.args.entry c.requires.at_end refl (omega arith) (c.push_back_reserved.ensures.items, refl, refl)

pub returns-then-self-ne0-clause-depth : goal.returns-then-self-ne0-clause-depth
returns-then-self-ne0-clause-depth g c =
    let q = c.args.self.now in
    let left = sequence_depth-drop (q.index + 1 - q.limit) (q.entries.items ++ c.args.entry ∷ []) in
    rw (items g c) (omega (arith, left, sequence_depth-append q.entries.items c.args.entry))

pub returns-else-self-ne0-clause-depth : goal.returns-else-self-ne0-clause-depth
returns-else-self-ne0-clause-depth g c =
    rw c.push_back_reserved.ensures.items (omega (arith, sequence_depth-append c.args.self.now.entries.items c.args.entry))

pub returns-then-self-ne0-clause-nests : goal.returns-then-self-ne0-clause-nests
returns-then-self-ne0-clause-nests g c =
    let q = c.args.self.now in
    ap (map nesting) (items g c) ∙ nestings-added q.entries.items c.args.entry q.index q.limit c.requires.at_end (omega arith)

pub returns-else-self-ne0-clause-nests : goal.returns-else-self-ne0-clause-nests
returns-else-self-ne0-clause-nests g c =
    let q = c.args.self.now in
    ap (map nesting) c.push_back_reserved.ensures.items
    ∙ map-append nesting q.entries.items (c.args.entry ∷ [])
    ∙ sym (kept_none _ q.limit (omega arith))

pub returns-then-self-ne0-clause-dropped : goal.returns-then-self-ne0-clause-dropped
returns-then-self-ne0-clause-dropped g c =
    let some : 0 < c.args.self.now.limit = omega arith in
    let e = c.drop_surplus.ensures.dropped in
    ((λ is. (some, e.0 is)), (λ full. e.1 full.1))

pub returns-else-self-ne0-clause-dropped : goal.returns-else-self-ne0-clause-dropped
returns-else-self-ne0-clause-dropped g c =
    let none : c.args.self.now.limit ≡ 0 = omega arith in
    ((λ is. false-true is), (λ full. let some : 0 < c.args.self.now.limit = full.0 in absurd (omega (arith, none, some))))
