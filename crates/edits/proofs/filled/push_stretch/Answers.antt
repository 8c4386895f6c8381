use Rattle.std.proofs.Common.{◌≡◌, suc, [], ◌∷◌, ◌+◌, ◌-◌, ◌++◌, append_assoc, ap, ◌∙◌, arith}
use Rattle.edits.specs.Stretches.{stretch_edits}
use Rattle.edits.proofs.filled.push_stretch.Goals as goal

pub loop-x-preserved : goal.loop-x-preserved
loop-x-preserved c =
    let st = c.args.stretch in
    let n = c.loop-x.x - st.first in
    let next : suc n ≡ c.loop-x.x + 1 - st.first = omega arith in
    let at : c.loop-x.x ≡ st.first + n = omega arith in
    record {
      cells = c.push_reserved.ensures.items
          ∙ ap (λ es. es ++ (record { x = c.loop-x.x; y = st.y; before = c.args.before; after = c.args.after } ∷ [])) c.loop-x.invariant.cells
          ∙ append_assoc c.args.cells.now.items (stretch_edits st.y st.first c.args.before c.args.after n)
          (record { x = c.loop-x.x; y = st.y; before = c.args.before; after = c.args.after } ∷ [])
          ∙ ap (λ k. c.args.cells.now.items ++ (stretch_edits st.y st.first c.args.before c.args.after n ++
          (record { x = k; y = st.y; before = c.args.before; after = c.args.after } ∷ []))) at
          ∙ ap (λ k. c.args.cells.now.items ++ stretch_edits st.y st.first c.args.before c.args.after k) next;
      room = omega (arith, c.push_reserved.ensures.len, c.push_reserved.ensures.capacity, c.loop-x.invariant.room);
    }
