-- The innermost sequence of a stack, which is lent, and what the others are once it is given back.
use Rattle.std.specs.Prelude.{◌-◌, List, [], ◌∷◌, Option, Some, None, slice_get, vec_len}
use Rattle.std.specs.Borrow.{Fml, Lends, MutBor}
use Rattle.std.specs.Vec.{with_item}
use denote.RattleType.{RattleType}
use Rattle.undo_stack.specs.declared.level.Level.{Level}
use Rattle.undo_stack.specs.declared.sequence.Sequence.{Sequence}
use Rattle.undo_stack.specs.declared.stack.sequences.Sequences.{Sequences}
use Rattle.undo_stack.specs.contracts.sequence.Sequence.{the_row as sequence_row}
use Rattle.undo_stack.specs.contracts.stack.sequences.Sequences.{the_row}

-- the innermost of these sequences
abbrev pub innermost_of : {C : Type 0} → Sequence C → List (Level C) → Sequence C
innermost_of q [] = q
innermost_of q (l ∷ ls) = innermost_of l.sequence ls

abbrev pub innermost : {C : Type 0} → Sequences C → Sequence C
innermost z = innermost_of z.steps z.levels.items

-- the sequences z with w as the innermost one, by the last level
abbrev pub with_innermost_at : {C : Type 0} → Option (Level C) → Sequences C → Sequence C → Sequences C
with_innermost_at None z w = record z { steps = w }
with_innermost_at (Some l) z w = record z { levels = with_item z.levels (vec_len z.levels - 1) (record l { sequence = w }) }

abbrev pub with_innermost_of : {C : Type 0} → Sequences C → Sequence C → Sequences C
with_innermost_of z w = with_innermost_at (slice_get z.levels.items (vec_len z.levels - 1)) z w

-- z ends with the last value behind r as its innermost sequence
abbrev pub LendsInnermost : (R : RattleType) → MutBor (Sequences R.Denot) → MutBor (Sequence R.Denot) → Fml
LendsInnermost R z r = Lends (the_row R) (sequence_row R) z r (with_innermost_of z.now)
