use Rattle.std.proofs.Common.{◌≡◌, ◌++◌, ◌∷◌, [], ◌<◌, ◌≤◌, nat_lt, true, ◌∙◌, ap, refl, sym, arith, length, map, ℕ, inl, inr, Ok, Err}
use Rattle.std.proofs.lemmas.List.{map-append}
use Rattle.std.proofs.lemmas.Bool.{lt-ltb, le-ltb}
use Rattle.command_api.specs.Law.{Change}
use Rattle.undo_stack.specs.History.{History, current}
use Rattle.undo_stack.specs.Macros.{BeginAnswers}
use Rattle.undo_stack.specs.Moving.{Answer}
use Rattle.undo_stack.specs.Nestings.{Nestings, nestings_cut}
use Rattle.undo_stack.specs.Pushing.{cut}
use Rattle.undo_stack.specs.Sound.{Inner}
use Rattle.undo_stack.specs.Stacks.{history, inner_of, inners, nestings}
use Rattle.undo_stack.specs.declared.limits.TheConstants.{MAX_DEPTH}
use Rattle.undo_stack.specs.declared.stack.Stack.{Stack}
use Rattle.refusals.specs.declared.stack_fault.StackFault.TheVariants.{NoMemory}
use Rattle.undo_stack.proofs.Macros.{begun_view}
use Rattle.undo_stack.proofs.Innermost.{opened_holds}
use Rattle.undo_stack.proofs.Lent.{begun_nestings, levels_as}
use Rattle.undo_stack.proofs.Views.{length-opens, current-history_in}
use Rattle.undo_stack.proofs.stack.Stack.begin_macro.Goals as goal

-- with fewer levels than can be, the answer is that of a beginning
few : {C : Type 0} (f : C → Change) (s : Stack C) (answer : Answer) → length s.sequences.levels.items < MAX_DEPTH
    → BeginAnswers true answer → BeginAnswers (nat_lt (length (history f s).levels) MAX_DEPTH) answer
few f s answer h begins = rw (length-opens f s.sequences.levels.items s.document, lt-ltb (length s.sequences.levels.items) MAX_DEPTH h) begins

pub returns-then-len-ge-MAX_DEPTH-clause-step : goal.returns-then-len-ge-MAX_DEPTH-clause-step
returns-then-len-ge-MAX_DEPTH-clause-step g c =
    let s = c.args.self.now in
    let deep : 64 ≤ length s.sequences.levels.items = omega (arith, c.len.ensures, s.sequences.levels.ok.0) in
    record {
      answered = rw (length-opens g.C.Command.change s.sequences.levels.items s.document, le-ltb (length s.sequences.levels.items) 64 deep) refl;
      leads = refl;
    }

pub returns-in_default-clause-step : goal.returns-in_default-clause-step
returns-in_default-clause-step g c =
    let s = c.args.self.now in
    record {
      answered = few g.C.Command.change s (Err NoMemory) (omega (arith, c.len.ensures, s.sequences.levels.ok.0)) (inr refl);
      leads = refl;
    }

pub returns-in_default-take_room-clause-step : goal.returns-in_default-take_room-clause-step
returns-in_default-take_room-clause-step g c =
    let s = c.args.self.now in
    record {
      answered = few g.C.Command.change s (Err NoMemory) (omega (arith, c.len.ensures, s.sequences.levels.ok.0)) (inr refl);
      leads = c.take_room.ensures.same;
    }

pub returns-clause-sound : goal.returns-clause-sound
returns-clause-sound g c =
    let t = c.cut.new.self in
    let s = c.args.self.now in
    let e = c.in-Ok.ensures in
    let k = c.cut.ensures in
    let none = ap (λ (l : Inner g.row.C.Denot). l.sequence) e.inner in
    let same : length t.sequences.levels.items ≡ length s.sequences.levels.items =
    ap (λ ls. length ls.items) k.levels ∙ c.take_room.ensures.count in
    opened_holds k.sound c.in-Ok.level c.push_reserved.new.self c.push_reserved.ensures.items none
    (record { index = e.index ∙ sym (ap length none); clean = e.clean; limit = e.limit })
    (omega (arith, same, c.len.ensures, s.sequences.levels.ok.0)) k.ready

pub returns-clause-step : goal.returns-clause-step
returns-clause-step g c =
    let f = g.C.Command.change in
    let s = c.args.self.now in
    let u = c.take_room.new.self in
    let t = c.cut.new.self in
    let empty : Inner g.row.C.Denot = record { text = c.args.text.now; action = c.args.action.now; sequence = [] } in
    let is : map inner_of c.push_reserved.new.self.items ≡ inners t ++ empty ∷ [] =
    ap (map inner_of) c.push_reserved.ensures.items
    ∙ map-append inner_of t.sequences.levels.items (c.in-Ok.level ∷ [])
    ∙ ap (λ (l : Inner g.row.C.Denot). inners t ++ l ∷ []) c.in-Ok.ensures.inner in
    let whole = c.cut.ensures.cut ∙ ap cut c.take_room.ensures.same in
    let within = c.take_room.ensures.sound.own.sound.turnable.within in
    let at : t.document ≡ current (history f s) =
    c.cut.ensures.document
    ∙ sym (current-history_in (inners u) f u.document u.sequences.steps within)
    ∙ ap current c.take_room.ensures.same in
    record {
      answered = few f s (Ok tt) (omega (arith, c.len.ensures, s.sequences.levels.ok.0)) (inl refl);
      leads = rw is (begun_view (inners t) f t.document t.sequences.steps (history f s) c.args.text.now c.args.action.now whole at);
    }

pub returns-clause-nests : goal.returns-clause-nests
returns-clause-nests g c =
    let f = g.C.Command.change in
    let s = c.args.self.now in
    let t = c.cut.new.self in
    let n = (history f s).position in
    let none = ap (λ (l : Inner g.row.C.Denot). l.sequence) c.in-Ok.ensures.inner in
    let position = ap (λ (h : History). h.position) c.take_room.ensures.same in
    let room = c.take_room.ensures.kept in
    let cut = c.cut.ensures.nests ∙ ap (λ (m : ℕ). nestings_cut m (nestings c.take_room.new.self)) position ∙ ap (nestings_cut n) room in
    let around = ap (λ ls. levels_as (nestings t).steps ls.items) c.cut.ensures.levels in
    begun_nestings t c.in-Ok.level c.push_reserved.new.self n (nestings s) c.push_reserved.ensures.items none cut
    (ap (λ (a : Nestings). a.levels) around ∙ ap (λ (a : Nestings). a.levels) room)
