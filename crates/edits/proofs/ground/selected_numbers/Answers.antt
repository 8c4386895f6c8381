use Rattle.std.proofs.Common.{◌≡◌, ◌+◌, ◌*◌, ◌<◌, ◌||◌, Bool, true, false, min, List, refl, ap, sym, ◌∙◌, subst, arith}
use Rattle.std.proofs.lemmas.Nat.{div-mul-add, div_below}
use Rattle.std.specs.FinSet as set
use Rattle.region.specs.declared.runs.Run.{Run}
use Rattle.region.specs.Runs.{IsMaximalRuns, in_runs}
use Rattle.region.proofs.Members.{contains-set_of}
use Rattle.edits.specs.Marks.{is_marked, is_between}
use Rattle.edits.proofs.SelectedNumbers.{runs-above, selected-step}
use Rattle.edits.proofs.ground.selected_numbers.Goals as goal
use Rattle.edits.proofs.ground.selected_numbers.Goals.{in-None, in-Some+then-run-height}

pub loop-run-init : goal.loop-run-init
loop-run-init c =
    let rows = c.rows-run-items.result in
    let same = c.into_iter-run-iterator.ensures.into_iter_gives in (
      tt,
      tt,
      c.in_ok-marks.ensures.room,
      subst (λ (rs : List Run). IsMaximalRuns rs) (sym same) c.rows-run-items.ensures.maximal,
      λ x y l m. ap (λ b. b || in_runs c.into_iter-run-iterator.result (x, y)) (c.in_ok-marks.ensures.none (y * c.args.width + x))
          ∙ ap (λ (rs : List Run). in_runs rs (x, y)) same ∙ sym (contains-set_of rows (x, y)) ∙ ap (λ s. set.contains s (x, y)) c.rows-run-items.ensures.cells,
    )

pub loop-run-preserved-then-run-eq1 : goal.loop-run-preserved-then-run-eq1
loop-run-preserved-then-run-eq1 c =
    let run = c.in-Some.run' in
    let rest = c.next.new.self in
    let w = c.args.width in
    let old = c.loop-run.marks in
    let new = c.mark_one.new.self in
    let split = c.in-Some.ensures.steps in
    let maximal = subst (λ (rs : List Run). IsMaximalRuns rs) split c.loop-run.invariant.3 in
    let end : run.y * w + run.x + 1 ≡ run.y * w + (run.x + 1) = omega arith in
    let cut : run.x + 1 ≡ min w (run.x + run.len) = omega arith in (
      tt,
      tt,
      omega (arith, c.loop-run.invariant.2, c.mark_one.ensures.room),
      maximal.2,
      λ x y l m. selected-step w (run.x + 1) x y old new run rest cut l
          (λ k. c.mark_one.ensures.marks k ∙ ap (λ e. is_marked old k || is_between (run.y * w + run.x) e k) end)
          ∙ ap (λ (rs : List Run). is_marked old (y * w + x) || in_runs rs (x, y)) (sym split)
          ∙ c.loop-run.invariant.4 x y l m,
    )

pub loop-run-preserved : goal.loop-run-preserved
loop-run-preserved c =
    let run = c.in-Some.run' in
    let rest = c.next.new.self in
    let split = c.in-Some.ensures.steps in
    let maximal = subst (λ (rs : List Run). IsMaximalRuns rs) split c.loop-run.invariant.3 in (
      tt,
      tt,
      omega (arith, c.loop-run.invariant.2, c.mark.ensures.room),
      maximal.2,
      λ x y l m. selected-step c.args.width c.min-end.result x y c.loop-run.marks c.mark.new.self run rest c.min-end.ensures l c.mark.ensures.marks
          ∙ ap (λ (rs : List Run). is_marked c.loop-run.marks (y * c.args.width + x) || in_runs rs (x, y)) (sym split)
          ∙ c.loop-run.invariant.4 x y l m,
    )

or_false : (b : Bool) → b ≡ (b || false)
or_false true = refl
or_false false = refl

pub returns-clause-cells : goal.returns-clause-cells
returns-clause-cells c x y l m =
    let w = c.args.width in
    let left = c.loop-run.run-iterator in
    let marked = is_marked c.loop-run.marks (y * w + x) in
    let below = div_below (y * w + x) w c.args.height (omega arith) m in
    let row : y < c.args.height = omega (arith, below, div-mul-add y w x l) in
    let none : in_runs left (x, y) ≡ false = elim c.match-next.branch [
      | in-None v ↦ ap (λ (rs : List Run). in_runs rs (x, y)) v.in-None.ensures.steps.0
      | in-Some+then-run-height v ↦
          let split = v.in-Some.ensures.steps in
          let run = v.in-Some.run' in
          let maximal = subst (λ (rs : List Run). IsMaximalRuns rs) split c.loop-run.invariant.3 in
          ap (λ (rs : List Run). in_runs rs (x, y)) split ∙ runs-above run c.next.new.self (x, y) maximal (omega (arith, v.if-run-height.true))
    ] in
    or_false marked ∙ ap (λ b. marked || b) (sym none) ∙ c.loop-run.invariant.4 x y l row
