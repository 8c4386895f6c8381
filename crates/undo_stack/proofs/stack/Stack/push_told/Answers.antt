use Rattle.std.proofs.Common.{◌≡◌, []}
use Rattle.std.proofs.lemmas.Result.{IfErr-weaker, IfOk-weaker}
use Rattle.undo_stack.specs.Held.{entry_nestings, history_at, shape_at, target_in}
use Rattle.undo_stack.specs.Lending.{innermost}
use Rattle.undo_stack.specs.Stacks.{history, inners, nestings, IsTold}
use Rattle.undo_stack.specs.Told.{IsToldAt}
use Rattle.undo_stack.proofs.Innermost.{Pushes, by_result, full_led, inner_held, led, pushed_led, same_led, told_led}
use Rattle.undo_stack.proofs.Lent.{next_lent, same_nestings}
use Rattle.undo_stack.proofs.Reports.{both_ok}
use Rattle.undo_stack.proofs.Told.{told-next, TellsDrop-as}
use Rattle.undo_stack.proofs.Views.{current-history_in}
use Rattle.undo_stack.proofs.stack.Stack.push_told.Goals as goal

pub push-requires-clause-held : goal.push-requires-clause-held
push-requires-clause-held g c = rw c.innermost.ensures.value (inner_held c.requires.sound)

pub push-requires-clause-fits : goal.push-requires-clause-fits
push-requires-clause-fits g c =
    let s = c.args.self.now in
    let within = c.requires.sound.own.sound.turnable.within in
    rw (current-history_in (inners s) g.C.Command.change s.document s.sequences.steps within) at c.requires.fits

pub returns-clause-sound : goal.returns-clause-sound
returns-clause-sound g c =
    let h = c.requires.sound in
    let d = c.push.new.document in
    let q = c.push.new.self in
    let e = rw c.innermost.ensures.value at c.push.ensures in
    by_result c.push.result e.pushed e.unchanged
    (λ p. (pushed_led h d q e.held e.depth c.args.command p).0)
    (λ same. (same_led h d q e.held e.depth same).0)

pub returns-clause-pushed : goal.returns-clause-pushed
returns-clause-pushed g c =
    let f = g.C.Command.change in
    let s = c.args.self.now in
    let x = c.args.command in
    let d = c.push.new.document in
    let q = c.push.new.self in
    let e = rw c.innermost.ensures.value at c.push.ensures in
    let old = history_at f s.document (innermost s.sequences) in
    IfOk-weaker c.push.result (λ _. Pushes (f x) old (history_at f d q)) (λ _. Pushes (f x) (history f s) (history f (led s d q)))
    (λ _ p. (pushed_led c.requires.sound d q e.held e.depth x p).1) e.pushed

pub returns-clause-told : goal.returns-clause-told
returns-clause-told g c =
    let f = g.C.Command.change in
    let s = c.args.self.now in
    let x = c.args.command in
    let d = c.push.new.document in
    let q = c.push.new.self in
    let e = rw c.innermost.ensures.value at c.push.ensures in
    let z = innermost s.sequences in
    let h = c.requires.sound in
    both_ok (λ _. Pushes (f x) (history_at f s.document z) (history_at f d q))
    (λ a. IsToldAt f x s.document (target_in z) (shape_at f s.document z) d (shape_at f d q) a) (λ a. IsTold f x a s (led s d q)) c.push.result
    (λ a p r. told_led h d q e.held e.depth x p a (next_lent h d q) r) e.pushed e.told

pub returns-clause-reported : goal.returns-clause-reported
returns-clause-reported g c = IfOk-weaker c.push.result _ _ (λ _ told. told.report) (returns-clause-told g c)

pub returns-clause-next : goal.returns-clause-next
returns-clause-next g c =
    let f = g.C.Command.change in
    let s = c.args.self.now in
    let t = led s c.push.new.document c.push.new.self in
    IfOk-weaker c.push.result _ _ (λ a told. told-next f c.args.command a s t told) (returns-clause-told g c)

pub returns-clause-dropped : goal.returns-clause-dropped
returns-clause-dropped g c =
    let f = g.C.Command.change in
    let s = c.args.self.now in
    let e = rw c.innermost.ensures.value at c.push.ensures in
    let h = history f s in
    IfOk-weaker c.push.result _ _ (λ a drops. TellsDrop-as a [] h.levels (history_at f s.document (innermost s.sequences)) h (full_led c.requires.sound) drops)
    e.dropped

pub returns-clause-unchanged : goal.returns-clause-unchanged
returns-clause-unchanged g c =
    let f = g.C.Command.change in
    let s = c.args.self.now in
    let d = c.push.new.document in
    let q = c.push.new.self in
    let e = rw c.innermost.ensures.value at c.push.ensures in
    let old = history_at f s.document (innermost s.sequences) in
    IfErr-weaker c.push.result (λ _. history_at f d q ≡ old) (λ _. history f (led s d q) ≡ history f s)
    (λ _ same. (same_led c.requires.sound d q e.held e.depth same).1) e.unchanged

pub returns-clause-kept : goal.returns-clause-kept
returns-clause-kept g c =
    let s = c.args.self.now in
    let d = c.push.new.document in
    let q = c.push.new.self in
    let e = rw c.innermost.ensures.value at c.push.ensures in
    IfErr-weaker c.push.result (λ _. entry_nestings q ≡ entry_nestings (innermost s.sequences)) (λ _. nestings (led s d q) ≡ nestings s)
    (λ _ same. same_nestings c.requires.sound d q same) e.kept
