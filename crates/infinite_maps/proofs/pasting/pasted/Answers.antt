use Rattle.std.proofs.Common.{◌≡◌, ◌+◌, List, [], ◌∷◌, ◌++◌, false, drop, sym, ap, ◌∙◌, append_assoc, arith, ℕ}
use Rattle.std.specs.Prelude.{◌&&◌}
use Rattle.std.proofs.lemmas.List.{at_drop_more}
use Rattle.serde_json.specs.View.{view, items_view}
use Rattle.serde_json.specs.declared.value.Value.{Value}
use Rattle.infinite_maps.specs.declared.rectangle.Rectangle.{Rectangle}
use Rattle.infinite_maps.specs.Sound.{is_sound, are_sound}
use Rattle.infinite_maps.specs.Pasted.{pasted, chunk_cells, rectangle_of, rectangles_of, all_pasted}
use Rattle.infinite_maps.proofs.Places.{both_parts}
use Rattle.infinite_maps.proofs.Refusals.{written_back}
use Rattle.infinite_maps.proofs.pasting.pasted.Goals as goal

pub loop-chunk-preserved : goal.loop-chunk-preserved
loop-chunk-preserved c =
    let l = c.loop-chunk in
    let p = c.args.plane in
    let text = c.args.text in
    let vs = c.deref-chunk-items.result.now in
    let v = c.chunk-item.result in
    let rest = items_view (drop (l.chunk-index + 1) vs) in
    let r : Rectangle = c.in_ok-paste_chunk.field-0 in
    let more = rectangles_of p rest in
    let pasted_on : all_pasted p l.cells.items (items_view (drop l.chunk-index vs))
    ≡ all_pasted p (pasted p.columns (rectangle_of p (view v)) (chunk_cells (view v)) l.cells.items) rest
    = at_drop_more (λ (ws : List Value). all_pasted p l.cells.items (items_view ws)) vs l.chunk-index v c.loop-chunk-test.true
    ∙ ap (λ (w : Value). all_pasted p (pasted p.columns (rectangle_of p (view w)) (chunk_cells (view w)) l.cells.items) rest) (sym c.chunk-item.is) in
    let listed : rectangles_of p (items_view (drop l.chunk-index vs)) ≡ r ∷ more
    = at_drop_more (λ (ws : List Value). rectangles_of p (items_view ws)) vs l.chunk-index v c.loop-chunk-test.true
    ∙ (ap (λ (w : Value). rectangle_of p (view w) ∷ more) (sym c.chunk-item.is) ∙ ap (λ (s : Rectangle). s ∷ more) (sym c.in_ok-paste_chunk.ensures.lies)) in
    let judged : are_sound false text (items_view (drop l.chunk-index vs)) ≡ (is_sound false text (view v) && are_sound false text rest)
    = at_drop_more (λ (ws : List Value). are_sound false text (items_view ws)) vs l.chunk-index v c.loop-chunk-test.true
    ∙ ap (λ (w : Value). is_sound false text (view w) && are_sound false text rest) (sym c.chunk-item.is) in
    let back = written_back l.cells.len l.cells.items c.paste_chunk.new.cells (omega (arith, c.paste_chunk.auto.cells, c.deref_mut.ensures.len))
    (omega (arith, l.cells.ok.0)) in (
      ap (λ (cells : List ℕ). all_pasted p cells rest) (back ∙ c.in_ok-paste_chunk.ensures.pasted
          ∙ ap (λ (cells : List ℕ). pasted p.columns (rectangle_of p (view v)) (chunk_cells (view v)) cells) c.deref_mut.ensures.value)
          ∙ (sym pasted_on ∙ l.invariant.0),
      rw c.in_ok-push.ensures.items (append_assoc l.rectangles.items (r ∷ []) more
          ∙ (ap (λ (rs : List Rectangle). l.rectangles.items ++ rs) (sym listed) ∙ l.invariant.1)),
      λ h. (both_parts _ _ (sym judged ∙ l.invariant.2 h)).1,
    )
