use Rattle.std.proofs.Common.{◌≡◌, ◌∙◌, [], ap, refl, sym, take, Bool, true, false, Some, Ok}
use Rattle.std.proofs.lemmas.Result.{IfOk-weaker}
use Rattle.std.specs.Prelude.{◌↔◌}
use Rattle.command_api.specs.Law.{Change}
use Rattle.undo_stack.specs.History.{History, step_named, current}
use Rattle.undo_stack.specs.Pushing.{cut, step_of, IsPushed, Merges}
use Rattle.undo_stack.specs.Entries.{entry_change}
use Rattle.undo_stack.specs.Held.{entry_nestings, history_at, nestings_at, shape_at, target_in, IsTakenInto, IsUnchangedAt}
use Rattle.undo_stack.specs.Merging.{IsEntered, SettlesTarget, left_of}
use Rattle.undo_stack.specs.Nestings.{entered_nestings}
use Rattle.undo_stack.specs.Reporting.{reports}
use Rattle.undo_stack.specs.Told.{says_gone, says_merged, IsFull, IsToldAt}
use Rattle.undo_stack.specs.declared.entry.Entry.TheVariants.{Command}
use Rattle.undo_stack.proofs.EntryChanges.{entry_change-Command}
use Rattle.undo_stack.proofs.Held.{pushed_at, told_at}
use Rattle.undo_stack.proofs.Nestings.{entered_next, merged_nestings}
use Rattle.undo_stack.proofs.Pushes.{pushed_entered}
use Rattle.undo_stack.proofs.Reports.{both_ok, five_ok}
use Rattle.undo_stack.proofs.Sequences.{length-steps}
use Rattle.undo_stack.proofs.Targets.{merged_gone, merged_next, pushed_merged}
use Rattle.undo_stack.proofs.Told.{says_gone-merged_as, says_merged-merged_as, unadded-TellsDrop, IsFull-as, TellsDrop-as}
use Rattle.undo_stack.proofs.Turnings.{false-true}
use Rattle.undo_stack.proofs.sequence.Sequence.push.Goals as goal
use Rattle.undo_stack.proofs.sequence.Sequence.push.Goals.{After-settle-is_gone}

-- ---- the command merged, and then the target was settled
taken : (g : _) (c : goal.After-merged g)
    → IsTakenInto g.C.Command.change c.redo.new.self c.redo.new.document c.args.self.now c.merge.new.self
taken g c = rw (c.in-Ok-true.is ∙ ap (λ (b : Bool). Ok b) c.in-Ok-true.field-0-test) at c.merge.ensures.merged

settled : (g : _) (c : goal.After-merged g) → let f = g.C.Command.change in
    let e = c.redo.new.document in
    SettlesTarget e (reports f (target_in c.merge.new.self)) (history_at f e c.merge.new.self) (history_at f e c.settle-is_gone.new.self)
settled g c = (c.settle-is_gone.ensures.settled c.redo.new.document (taken g c).held (taken g c).target).settled

pub settle-is_gone-requires-clause-at_end : goal.settle-is_gone-requires-clause-at_end
settle-is_gone-requires-clause-at_end g c =
    let q = c.merge.new.self in
    let m = rw (c.in-Ok-true.is ∙ ap (λ (b : Bool). Ok b) c.in-Ok-true.field-0-test) at c.merge.ensures.merged in
    m.target.1 ∙ length-steps (entry_change g.C.Command.change) q.entries.items q.index c.redo.new.document

pub returns-in-Ok-true-clause-pushed : goal.returns-in-Ok-true-clause-pushed
returns-in-Ok-true-clause-pushed g c =
    let f = g.C.Command.change in
    let q = c.args.self.now in
    let y = c.redo.new.self in
    let e = c.redo.new.document in
    let t = c.merge.new.self in
    let n = history_at f e c.settle-is_gone.new.self in
    let m = taken g c in
    pushed_at f c.args.command y q c.args.document.now e n c.redo.ensures c.requires.held.sound.turnable.within
    (pushed_merged (reports f (target_in t)) (history_at f ((f y).undone e) q) (step_named (f y).names e) (history_at f e t) n m.merges m.next
    (settled g c))

pub returns-in-Ok-true-clause-told : goal.returns-in-Ok-true-clause-told
returns-in-Ok-true-clause-told g c =
    let f = g.C.Command.change in
    let q = c.args.self.now in
    let y = c.redo.new.self in
    let e = c.redo.new.document in
    let t = c.merge.new.self in
    let n = history_at f e c.settle-is_gone.new.self in
    let m = taken g c in
    let p = c.settle-is_gone.new.self in
    let kept = rw (c.in-Ok-true.is ∙ ap (λ (b : Bool). Ok b) c.in-Ok-true.field-0-test) at c.merge.ensures.nests in
    let left = c.settle-is_gone.ensures.nests ∙ ap (left_of (reports f (target_in t))) kept in
    let joined = rw (c.in-Ok-true.is ∙ ap (λ (b : Bool). Ok b) c.in-Ok-true.field-0-test) at c.merge.ensures.joined in
    let is = c.merged.ensures in
    let says_m = ap says_merged is ∙ says_merged-merged_as c.settle-is_gone.result in
    let says_g = ap says_gone is ∙ says_gone-merged_as c.settle-is_gone.result ∙ c.settle-is_gone.ensures.gone in
    told_at f c.args.command y q c.args.document.now e n c.redo.ensures c.requires.held.sound.turnable.within c.merged.result true (target_in t)
    says_m says_g ((λ _. m.merges), (λ _. refl)) joined
    (merged_gone (reports f (target_in t)) (history_at f ((f y).undone e) q) (step_named (f y).names e) (history_at f e t) n m.next (settled g c))
    (merged_next (reports f (target_in t)) (history_at f ((f y).undone e) q) (step_named (f y).names e) (history_at f e t) n m.next (settled g c))
    (nestings_at p) (merged_nestings (reports f (target_in t)) q.index q.limit (entry_nestings q) (entry_nestings p) left)

pub returns-in-Ok-true-clause-reported : goal.returns-in-Ok-true-clause-reported
returns-in-Ok-true-clause-reported g c = (returns-in-Ok-true-clause-told g c).report

pub returns-in-Ok-true-clause-dropped : goal.returns-in-Ok-true-clause-dropped
returns-in-Ok-true-clause-dropped g c =
    let h = history_at g.C.Command.change c.args.document.now c.args.self.now in
    let merged = ap says_merged c.merged.ensures ∙ says_merged-merged_as c.settle-is_gone.result in
    unadded-TellsDrop c.merged.result [] h (λ added. false-true (sym added.0 ∙ merged))

-- ---- the command did not merge, and was entered
apart : (g : _) (c : goal.After-enter g) → let f = g.C.Command.change in
    let y = c.redo.new.self in
    let b = (f y).undone c.redo.new.document in
    (Merges (cut (history_at f b c.args.self.now)) (step_named (f y).names c.redo.new.document) → ⊥) ×
    IsUnchangedAt f b c.args.self.now c.merge.new.self
apart g c = rw (c.in-Ok-false.is ∙ ap (λ (b : Bool). Ok b) c.in-Ok-false.field-0-test) at c.merge.ensures.merged

pub returns-in-Ok-false-clause-pushed : goal.returns-in-Ok-false-clause-pushed
returns-in-Ok-false-clause-pushed g c =
    let f = g.C.Command.change in
    let q = c.args.self.now in
    let x = c.args.command in
    let d = c.args.document.now in
    let y = c.redo.new.self in
    let e = c.redo.new.document in
    let h = history_at f d q in
    let s = step_named (f y).names e in
    let n = history_at f c.enter.new.document c.enter.new.self in
    let m = apart g c in
    both_ok (λ _. c.enter.new.document ≡ e)
    (λ _. IsEntered (f y).obsolete (history_at f ((f y).undone e) c.merge.new.self) s n)
    (λ _. IsPushed h (step_of (f x) (current h)) n) c.enter.result
    (λ _ document entered. pushed_at f x y q d e n c.redo.ensures c.requires.held.sound.turnable.within
    (pushed_entered (f y).obsolete (history_at f ((f y).undone e) q) s n m.0 (rw m.1.same at entered)))
    c.enter.ensures.document c.enter.ensures.entered

pub returns-in-Ok-false-clause-told : goal.returns-in-Ok-false-clause-told
returns-in-Ok-false-clause-told g c =
    let f = g.C.Command.change in
    let q = c.args.self.now in
    let x = c.args.command in
    let d = c.args.document.now in
    let y = c.redo.new.self in
    let e = c.redo.new.document in
    let u = c.enter.new.self in
    let n = history_at f c.enter.new.document u in
    let m = apart g c in
    let entry : reports f (Some (Command y)) ≡ (f y).obsolete = ap (λ (v : Change). v.obsolete) (entry_change-Command f y) in
    let t = c.merge.new.self in
    let kept = rw (c.in-Ok-false.is ∙ ap (λ (b : Bool). Ok b) c.in-Ok-false.field-0-test) at c.merge.ensures.nests in
    let index : t.index ≡ q.index = ap (λ (h : History). h.position) m.1.same in
    let limit : t.limit ≡ q.limit = ap (λ (h : History). h.limit) m.1.same in
    five_ok (λ _. c.enter.new.document ≡ e)
    (λ _. IsEntered (f y).obsolete (history_at f ((f y).undone e) t) (step_named (f y).names e) n)
    (λ _. entry_nestings u ≡ entered_nestings (f y).obsolete t.limit (take t.index (entry_nestings t)))
    (λ p. says_merged p ≡ false) (λ p. says_gone p ≡ (f y).obsolete)
    (λ p. IsToldAt f x d (target_in q) (shape_at f d q) c.enter.new.document (shape_at f c.enter.new.document u) p) c.enter.result
    (λ p document entered nests says_m says_g. rw document
    (told_at f x y q d e (history_at f e u) c.redo.ensures c.requires.held.sound.turnable.within p false (Some (Command y))
    says_m (says_g ∙ sym entry)
    ((λ q. false-true q), (λ k. absurd (m.0 k))) refl (rw entry (rw (m.1.same, document) at entered).gone_where)
    (rw entry (rw (m.1.same, document) at entered).next)
    (nestings_at u) (rw entry (entered_next (f y).obsolete q.index q.limit (entry_nestings q) (entry_nestings u) (rw (limit, index, kept) at nests)))))
    c.enter.ensures.document c.enter.ensures.entered c.enter.ensures.nests c.enter.ensures.merged c.enter.ensures.gone

pub returns-in-Ok-false-clause-reported : goal.returns-in-Ok-false-clause-reported
returns-in-Ok-false-clause-reported g c = IfOk-weaker c.enter.result _ _ (λ _ told. told.report) (returns-in-Ok-false-clause-told g c)

pub returns-in-Ok-false-clause-dropped : goal.returns-in-Ok-false-clause-dropped
returns-in-Ok-false-clause-dropped g c =
    let f = g.C.Command.change in
    let m = apart g c in
    let h = history_at f c.redo.new.document c.merge.new.self in
    let n = history_at f c.args.document.now c.args.self.now in
    let position : h.position ≡ n.position = ap (λ (k : History). k.position) m.1.same in
    let limit : h.limit ≡ n.limit = ap (λ (k : History). k.limit) m.1.same in
    let same : IsFull [] h ↔ IsFull [] n = (IsFull-as [] h n limit position, IsFull-as [] n h (sym limit) (sym position)) in
    IfOk-weaker c.enter.result _ _ (λ p tells. TellsDrop-as p [] [] h n same tells) c.enter.ensures.dropped
