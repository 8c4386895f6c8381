use Rattle.std.proofs.Common.{sym, subst, ◌∙◌, arith}
use Rattle.std.proofs.lemmas.Bool.{eq-eqb, eqb-true, false≢true}
use Rattle.edits.specs.Flooding.{free_in, is_taken}
use Rattle.map_model.specs.Alike.{AreAlike}
use Rattle.edits.proofs.FilledAlike.{one-alike}
use Rattle.edits.proofs.Alone.{difference-start, is_start, start-joined}
use Rattle.edits.proofs.SelectedNumbers.{difference-own, difference-taken, taken-free}
use Rattle.edits.proofs.filled.fill_cells.Goals as goal

pub returns-then-eq-clause-cells : goal.returns-then-eq-clause-cells
returns-then-eq-clause-cells c =
    let g = c.new-ground.result in
    let same = c.if-eq.ensures in
    c.new.ensures.items
    ∙ difference-own c.args.width c.args.tiles.now c.args.selection.now c.args.start.0 c.args.start.1 c.args.value (omega (arith, c.requires.column))
    (sym (eqb-true g.value c.args.value (sym same)) ∙ c.new-ground.ensures.value)

pub changes_of-requires-clause-free : goal.changes_of-requires-clause-free
changes_of-requires-clause-free c =
    taken-free c.args.width c.args.tiles.now c.args.selection.now c.args.start.0 c.args.start.1 c.new-ground.result c.new-ground.ensures
    (is_taken c.new-ground.result c.in_ok-spread.spread) c.in_ok-spread.ensures.cells

pub returns-clause-cells : goal.returns-clause-cells
returns-clause-cells c =
    c.in_ok-cells.ensures.cells
    ∙ difference-taken c.args.width c.args.tiles.now c.args.selection.now c.args.start.0 c.args.start.1 c.new-ground.result c.new-ground.ensures
    (is_taken c.new-ground.result c.in_ok-spread.spread) c.in_ok-spread.ensures.cells c.args.value

pub returns-then-not-has_free_neighbour-clause-cells : goal.returns-then-not-has_free_neighbour-clause-cells
returns-then-not-has_free_neighbour-clause-cells c =
    let g = c.new-ground.result in
    let ground = c.new-ground.ensures.sound in
    c.in_ok-change.ensures
    ∙ sym (difference-start g ground c.args.value (λ e. false≢true (c.if-eq.ensures ∙ eq-eqb g.value c.args.value e)))
    ∙ difference-taken c.args.width c.args.tiles.now c.args.selection.now c.args.start.0 c.args.start.1 g c.new-ground.ensures (is_start g)
    (start-joined g (sym c.if-not-has_free_neighbour.ensures)) c.args.value

pub returns-then-eq-clause-alike : goal.returns-then-eq-clause-alike
returns-then-eq-clause-alike c = subst AreAlike (sym c.new.ensures.items) tt

pub returns-then-not-has_free_neighbour-clause-alike : goal.returns-then-not-has_free_neighbour-clause-alike
returns-then-not-has_free_neighbour-clause-alike c =
    let g = c.new-ground.result in
    subst AreAlike (sym c.in_ok-change.ensures)
    (one-alike (free_in g (g.start.0, g.start.1)) (record { x = g.start.0; y = g.start.1; before = g.value; after = c.args.value }))
