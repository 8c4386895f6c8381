use Rattle.std.proofs.Common.{refl}
use Rattle.edits.specs.declared.flood.Spread.{Spread}
use Rattle.edits.specs.Flooding.{start_of}
use Rattle.edits.proofs.Reaching.{IsSound-first, is_taken-keeps, taken-first, taken-joined}
use Rattle.edits.proofs.flood.Spread.over.Goals as goal

pub take_start-requires-clause-sound : goal.take_start-requires-clause-sound
take_start-requires-clause-sound c =
    let s : Spread = record { «open» = c.in_ok-open.open; taken = c.in_ok-copied.field-0; count = 0; first = c.words.result; end = 0; pending = c.new.result }
    in
    IsSound-first c.args.ground.now s c.requires c.in_ok-open.ensures.room c.in_ok-copied.ensures c.in_ok-open.ensures.cells c.new.ensures.items c.words.ensures
    refl

pub take_start-requires-clause-none : goal.take_start-requires-clause-none
take_start-requires-clause-none c =
    let s : Spread = record { «open» = c.in_ok-open.open; taken = c.in_ok-copied.field-0; count = 0; first = c.words.result; end = 0; pending = c.new.result }
    in
    taken-first s c.in_ok-copied.ensures

pub returns-clause-cells : goal.returns-clause-cells
returns-clause-cells c =
    let g = c.args.ground.now in
    let joined = c.in_ok-take_joined.ensures in
    taken-joined g c.take_joined.new.self joined.sound joined.closed
    (λ h. is_taken-keeps g c.take_start.new.self c.take_joined.new.self joined.keeps (start_of g) (c.in_ok-take_start.ensures.start h))
