use Rattle.std.proofs.Common.{◌≡◌, ◌∙◌}
use Rattle.map_model.proofs.DrawnHere.{set-same}
use Rattle.map_model.proofs.+noted.Goals as goal

pub seek::seek_noted-returns-then-seek_noted_object : goal.seek::seek_noted-returns-then-seek_noted_object
seek::seek_noted-returns-then-seek_noted_object t c =
    rw c.seek_noted_object.ensures (set-same c.loop-at.layers c.loop-at.at c.get_mut.result.now c.get_mut.ensures.value) ∙ c.loop-at.invariant

pub seek::seek_noted-loop-at-preserved : goal.seek::seek_noted-loop-at-preserved
seek::seek_noted-loop-at-preserved t c =
    rw c.seek_noted_object.ensures (set-same c.loop-at.layers c.loop-at.at c.get_mut.result.now c.get_mut.ensures.value) ∙ c.loop-at.invariant
