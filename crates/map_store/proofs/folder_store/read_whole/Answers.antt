use Rattle.std.proofs.Common.{◌≡◌, ◌++◌, take, length, arith, slice_range, sym, ap, ◌∙◌}
use Rattle.std.proofs.lemmas.List.{with_items_is}
use Rattle.map_store.proofs.Reading.{consumes_both, prefix_and_range}
use Rattle.map_store.proofs.folder_store.read_whole.Goals as goal

pub loop-preserved : goal.loop-preserved
loop-preserved g c =
    let bytes = c.read_behind.new.bytes in
    let len : length bytes ≡ c.make_room.new.bytes.len = omega (arith, c.read_behind.auto.bytes, c.deref_mut.ensures.len) in
    let is = with_items_is c.make_room.new.bytes bytes len in
    let read = rw c.in-Some.is at c.in_ok-offset.ensures.read in
    let within = rw c.in-Some.is at c.in_ok-offset.ensures.within in
    let prefix : take c.loop.end bytes ≡ take c.loop.end c.loop.bytes.items =
    c.read_behind.ensures.prefix ∙ ap (λ xs. take c.loop.end xs) c.deref_mut.ensures.value ∙ c.in_ok-make_room.ensures.prefix in
    let all = ap (λ xs. xs ++ slice_range bytes c.loop.end c.in-Some.offset) (sym prefix) ∙ prefix_and_range bytes c.loop.end c.in-Some.offset read.0
    ∙ ap (λ xs. take c.in-Some.offset xs) (sym is) in
    record {
      within = omega (arith, within, len, c.read_behind.auto.bytes);
      limit = c.in_ok-make_room.ensures.limit;
      input = consumes_both _ _ _ _ _ _ all c.loop.invariant.input read.1;
    }
