use Rattle.std.proofs.Common.{inl, inr, List, refl, sym, subst, ◌∙◌, append-nil, arith}
use Rattle.edits.specs.declared.flood.Batch.{Batch}
use Rattle.edits.specs.declared.flood.Spread.{Spread}
use Rattle.map_model.specs.Lists.{Each}
use Rattle.edits.specs.Flooding.{IsBatch}
use Rattle.edits.proofs.Spreading.{IsBatch-off, IsClosed-done, IsSound-off, Waits-none, pending-off, taken-off, work-off}
use Rattle.edits.proofs.flood.Spread.take_joined.Goals as goal

pub take_around-requires-clause-sound : goal.take_around-requires-clause-sound
take_around-requires-clause-sound c =
    let g = c.args.ground.now in
    let s = c.loop-from.self in
    let t : Spread = record { «open» = s.open; taken = s.taken; count = s.count; first = s.first; end = s.end; pending = c.pop.new.self } in
    IsSound-off g s t refl refl refl refl c.loop-from.invariant.sound
    (pending-off g s t refl refl refl refl c.in-Some.from c.in-Some.ensures.items c.loop-from.invariant.sound).1

pub take_around-requires-clause-batch : goal.take_around-requires-clause-batch
take_around-requires-clause-batch c =
    let s = c.loop-from.self in
    let t : Spread = record { «open» = s.open; taken = s.taken; count = s.count; first = s.first; end = s.end; pending = c.pop.new.self } in
    IsBatch-off c.args.ground.now s t refl refl refl refl c.in-Some.from c.in-Some.ensures.items c.loop-from.invariant.sound

pub loop-from-smaller : goal.loop-from-smaller
loop-from-smaller c =
    let s = c.loop-from.self in
    let t : Spread = record { «open» = s.open; taken = s.taken; count = s.count; first = s.first; end = s.end; pending = c.pop.new.self } in
    let off = work-off c.args.ground.now s t refl refl refl refl c.in-Some.from c.in-Some.ensures.items in
    omega (arith, off, c.in_ok-take_around.ensures.spreads.work)

pub loop-from-preserved : goal.loop-from-preserved
loop-from-preserved c =
    let g = c.args.ground.now in
    let s = c.loop-from.self in
    let t : Spread = record { «open» = s.open; taken = s.taken; count = s.count; first = s.first; end = s.end; pending = c.pop.new.self } in
    let around = c.in_ok-take_around.ensures in
    record {
      sound = around.sound;
      closed = IsClosed-done g s t refl refl refl refl c.in-Some.from c.in-Some.ensures.items c.take_around.new.self c.loop-from.invariant.closed around.spreads
          around.covers;
      keeps = λ p h. around.spreads.keeps p (taken-off g s t refl refl refl refl p ∙ c.loop-from.invariant.keeps p h);
    }

pub returns-clause-sound : goal.returns-clause-sound
returns-clause-sound c =
    let s = c.loop-from.self in
    let t : Spread = record { «open» = s.open; taken = s.taken; count = s.count; first = s.first; end = s.end; pending = c.pop.new.self } in
    let all = c.in_default.ensures.items ∙ append-nil c.pop.new.self.items in
    IsSound-off c.args.ground.now s t refl refl refl refl c.loop-from.invariant.sound
    (subst (λ (bs : List Batch). Each (IsBatch s) bs) all c.loop-from.invariant.sound.pending)

pub returns-clause-closed : goal.returns-clause-closed
returns-clause-closed c p r h near free =
    let g = c.args.ground.now in
    let s = c.loop-from.self in
    let t : Spread = record { «open» = s.open; taken = s.taken; count = s.count; first = s.first; end = s.end; pending = c.pop.new.self } in
    elim (c.loop-from.invariant.closed p r (sym (taken-off g s t refl refl refl refl p) ∙ h) near free) [
      | inl taken ↦ inl (taken-off g s t refl refl refl refl r ∙ taken)
      | inr waits ↦ absurd (Waits-none s.pending.items p (omega (arith, c.in_default.ensures.cases)) waits)
    ]

pub returns-clause-keeps : goal.returns-clause-keeps
returns-clause-keeps c p h =
    let s = c.loop-from.self in
    let t : Spread = record { «open» = s.open; taken = s.taken; count = s.count; first = s.first; end = s.end; pending = c.pop.new.self } in
    taken-off c.args.ground.now s t refl refl refl refl p ∙ c.loop-from.invariant.keeps p h
