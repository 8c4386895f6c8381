use Rattle.std.proofs.Common.{◌<◌, ◌-◌, ◌∙◌, ap, arith, length, refl, sym, take}
use Rattle.std.proofs.lemmas.Option.{slice_get_read}
use Rattle.undo_stack.specs.Lending.{innermost_of}
use Rattle.undo_stack.proofs.Innermost.{IsLastOf, last_items}
use Rattle.undo_stack.proofs.Levels.{innermost_of-append}
use Rattle.undo_stack.proofs.stack.sequences.Sequences.innermost.Goals as goal

pub returns-then-is_open : goal.returns-then-is_open
returns-then-is_open g c =
    let z = c.args.self.now in
    let ls = z.levels.items in
    let v = c.index_mut-level.result.now in
    let at = c.len-last.result - 1 in
    let is = c.index_mut-level.ensures.value in
    let inside : at < length ls = omega (arith, c.if-is_open.ensures, c.len-last.ensures, z.levels.ok.0) in
    let last : IsLastOf ls v at = record { number = omega (arith, c.if-is_open.ensures, c.len-last.ensures, z.levels.ok.0); is = is } in
    let read = rw c.len-last.ensures at (slice_get_read ls (length ls) at v refl inside is) in
    let value = ap (innermost_of z.steps) (last_items ls v at last) ∙ innermost_of-append z.steps (take at ls) v in
    ((refl, λ w. rw (c.len-last.ensures, read) refl), record { lends = tt; value = sym value })
