use Rattle.std.proofs.Common.{◌≡◌, None, refl, sym, rules}
use Rattle.document_lines.specs.Machine.{active_of}
use Rattle.document_lines.specs.Planning.{IsOfActive}
use Rattle.document_lines.specs.Rules.{rule_of}
use Rattle.document_lines.specs.Turns.{turning_rule_of}
use Rattle.editor.specs.Editors.{machine_of}
use Rattle.editor.proofs.Lent.{left-IsHeld}
use Rattle.editor.proofs.Lines.{line-fits, line-kinds, line-plans, line-sound, line-turns, line-unchanged, refused-PlansBy}
use Rattle.editor.proofs.editor.Editor.plan.Goals as goal

pub returns-in-Some-clause-held : goal.returns-in-Some-clause-held
returns-in-Some-clause-held g c =
    let stack = c.on_document.new.stack in
    left-IsHeld g.C.Command.change c.args.self.now _ stack refl (c.active_mut.follows.holds stack c.on_document.ensures.sound) c.requires.held

pub returns-in-Some-clause-sound : goal.returns-in-Some-clause-sound
returns-in-Some-clause-sound g c =
    let stack = c.on_document.new.stack in
    line-sound g.C.Command.change c.args.self.now _ c.in-Some.stack.now stack refl (c.active_mut.follows.holds stack c.on_document.ensures.sound)
    c.in-Some.ensures.whole c.in-Some.ensures.active c.args.line.now c.on_document.result c.on_document.ensures.plans c.in-Some.ensures.held

pub returns-in-Some-clause-turns : goal.returns-in-Some-clause-turns
returns-in-Some-clause-turns g c =
    let stack = c.on_document.new.stack in
    line-turns g.C.Command.change c.args.self.now _ c.in-Some.stack.now stack refl (c.active_mut.follows.holds stack c.on_document.ensures.sound)
    c.in-Some.ensures.whole c.in-Some.ensures.active c.args.line.now c.on_document.result c.on_document.ensures.plans
    (g.S.MapStore.stored c.args.store.now)

pub returns-in-Some-clause-plans : goal.returns-in-Some-clause-plans
returns-in-Some-clause-plans g c = λ sound.
    let stack = c.on_document.new.stack in
    line-plans g.C.Command.change c.args.self.now _ c.in-Some.stack.now stack refl (c.active_mut.follows.holds stack c.on_document.ensures.sound)
    c.in-Some.ensures.whole c.in-Some.ensures.active c.args.line.now c.on_document.result c.on_document.ensures.plans
    c.in-Some.ensures.held sound (g.S.MapStore.stored c.args.store.now)

pub returns-in-Some-clause-unchanged : goal.returns-in-Some-clause-unchanged
returns-in-Some-clause-unchanged g c =
    let stack = c.on_document.new.stack in
    line-unchanged g.C.Command.change c.args.self.now _ c.in-Some.stack.now stack refl (c.active_mut.follows.holds stack c.on_document.ensures.sound)
    c.in-Some.ensures.whole c.in-Some.ensures.active c.args.line.now c.on_document.result c.on_document.ensures.plans

pub returns-in-Some-clause-fits : goal.returns-in-Some-clause-fits
returns-in-Some-clause-fits g c =
    let stack = c.on_document.new.stack in
    line-fits g.C.Command.change c.args.self.now _ c.in-Some.stack.now stack refl (c.active_mut.follows.holds stack c.on_document.ensures.sound)
    c.in-Some.ensures.whole c.in-Some.ensures.active c.args.line.now c.on_document.result c.on_document.ensures.plans

pub returns-in-Some-clause-kinds : goal.returns-in-Some-clause-kinds
returns-in-Some-clause-kinds g c =
    let stack = c.on_document.new.stack in
    line-kinds g.C.Command.change c.args.self.now _ c.in-Some.stack.now stack refl (c.active_mut.follows.holds stack c.on_document.ensures.sound)
    c.in-Some.ensures.whole c.in-Some.ensures.active c.args.line.now c.on_document.result c.on_document.ensures.plans
    c.in-Some.ensures.held c.in-Some.ensures.stack c.on_document.ensures.kinds

pub returns-in-None : goal.returns-in-None
returns-in-None g c =
    let m = machine_of g.C.Command.change c.args.self.now in
    let stored = g.S.MapStore.stored c.args.store.now in
    let none : active_of m ≡ None = sym c.in-None.ensures.active in
    let about : IsOfActive (rule_of c.args.line.now) = search rules in
    let turning : IsOfActive (turning_rule_of c.args.line.now) = search rules in
    rw (c.active_mut.follows.holds-at-none, c.refused.ensures) (record {
      held = c.requires.held;
      turns = refused-PlansBy (turning_rule_of c.args.line.now) m stored none turning;
      unchanged = refl;
      fits = tt;
      asks = search rules;
      sound = λ sound. sound;
      plans = λ sound. refused-PlansBy (rule_of c.args.line.now) m stored none about;
      kinds = λ sound. refl;
    })
