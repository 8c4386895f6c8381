use Rattle.std.proofs.Common.{◌≡◌, ℕ, ◌+◌, List, [], ◌∷◌, ◌++◌, Bool, true, false, drop, sym, ap, ◌∙◌, append_assoc, arith}
use Rattle.std.specs.Prelude.{nat_lt, if◌then◌else◌}
use Rattle.std.proofs.lemmas.List.{at_drop_more}
use Rattle.std.proofs.lemmas.Bool.Decides.{nat_tests}
use Rattle.serde_json.specs.View.{view, items_view}
use Rattle.serde_json.specs.declared.value.Value.{Value}
use Rattle.infinite_maps.specs.declared.rectangle.Rectangle.{Rectangle}
use Rattle.infinite_maps.specs.Rectangles.{area}
use Rattle.infinite_maps.specs.Notes.{noted, noted_all}
use Rattle.infinite_maps.proofs.notes.noted_all.Goals as goal
use Rattle.infinite_maps.proofs.notes.noted_all.Goals.{then-area-gt0+in_ok-push, else-area-gt0}

-- what stands before a rectangle and those behind it, which go on with it if it has a cell
pushed : (found rest before all : List Rectangle) (r : Rectangle) → found ++ before ≡ all → before ≡ r ∷ rest → (found ++ r ∷ []) ++ rest ≡ all
pushed found rest before all r so_far is = append_assoc found (r ∷ []) rest ∙ (ap (λ (rs : List Rectangle). found ++ rs) (sym is) ∙ so_far)

pub loop-value-preserved : goal.loop-value-preserved
loop-value-preserved c =
    let l = c.loop-value in
    let vs = c.deref-value-items.result.now in
    let p = c.args.plane in
    let r = c.noted-rectangle.result in
    let rest : List Rectangle = noted_all p (items_view (drop (l.value-index + 1) vs)) in
    let by = λ (b : Bool) (s : Rectangle). if b then s ∷ rest else rest in
    let before : noted_all p (items_view (drop l.value-index vs)) ≡ by (nat_lt 0 c.area.result) r
    = at_drop_more (λ (ws : List Value). noted_all p (items_view ws)) vs l.value-index c.value-item.result c.loop-value-test.true
    ∙ (ap (λ (v : Value). by (nat_lt 0 (area (noted p (view v)))) (noted p (view v))) (sym c.value-item.is)
    ∙ (ap (λ (s : Rectangle). by (nat_lt 0 (area s)) s) (sym c.noted-rectangle.ensures) ∙ ap (λ (n : ℕ). by (nat_lt 0 n) r) (sym c.area.ensures))) in
    elim c.if-area-gt0.branch [
      | then-area-gt0+in_ok-push w ↦
          let yes : nat_lt 0 c.area.result ≡ true = grind (arith, nat_tests, w.if-area-gt0.true) in
          rw (w.found-is, w.in_ok-push.ensures.items) (pushed l.found.items rest _ _ r l.invariant (before ∙ ap (λ (b : Bool). by b r) yes))
      | else-area-gt0 w ↦
          let no : nat_lt 0 c.area.result ≡ false = grind (arith, nat_tests, w.if-area-gt0.false) in
          rw w.found-is (ap (λ (rs : List Rectangle). l.found.items ++ rs) (sym (before ∙ ap (λ (b : Bool). by b r) no)) ∙ l.invariant)
    ]
