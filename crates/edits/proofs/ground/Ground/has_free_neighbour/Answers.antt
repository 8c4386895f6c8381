use Rattle.std.proofs.Common.{◌≡◌, ℕ, ◌+◌, ◌-◌, ◌%◌, ◌^◌, false, ◌||◌, sym, ap, ◌∙◌, arith}
use Rattle.std.proofs.lemmas.Bool.{false_from_ne_true}
use Rattle.edits.specs.declared.ground.Ground.{Ground}
use Rattle.edits.specs.Flooding.{IsGround, free_in, start_of}
use Rattle.edits.specs.Joining.{any_neighbour}
use Rattle.edits.proofs.Flooded.{free_in-column, free_in-row}
use Rattle.edits.proofs.Joined.{any_neighbour-by}
use Rattle.edits.proofs.ground.Ground.has_free_neighbour.Goals as goal

-- the column, or the row, before one
abbrev before : ℕ → ℕ
before a = (a + (2 ^ 32 - 1)) % 2 ^ 32

found : (g : Ground) → IsGround g → let x = g.start.0 in let y = g.start.1 in
    any_neighbour (free_in g) (start_of g) ≡ ((free_in g (before x, y) || free_in g (x + 1, y)) || (free_in g (x, before y) || free_in g (x, y + 1)))
found g ground =
    let x = g.start.0 in
    let y = g.start.1 in
    any_neighbour-by (free_in g) x y (before x) (before y)
    (λ e. false_from_ne_true (free_in g (before x, y)) (λ h. omega (arith, e, ground.narrow, free_in-column g (before x, y) h)))
    (λ l. omega (arith, l, ground.column, ground.narrow))
    (λ e. false_from_ne_true (free_in g (x, before y)) (λ h. omega (arith, e, ground.low, free_in-row g ground (x, before y) h)))
    (λ l. omega (arith, l, ground.row, ground.low))

pub returns-then-is_free_cell : goal.returns-then-is_free_cell
returns-then-is_free_cell c =
    let g = c.args.self.now in
    let x = g.start.0 in
    let y = g.start.1 in
    ap (λ b. (b || free_in g (x + 1, y)) || (free_in g (x, before y) || free_in g (x, y + 1))) c.if-is_free_cell.ensures ∙ sym (found g c.requires)

pub returns-then-is_free_cell-2 : goal.returns-then-is_free_cell-2
returns-then-is_free_cell-2 c =
    let g = c.args.self.now in
    let x = g.start.0 in
    let y = g.start.1 in
    ap (λ b. (false || b) || (free_in g (x, before y) || free_in g (x, y + 1))) c.if-is_free_cell-2.ensures
    ∙ ap (λ b. (b || free_in g (x + 1, y)) || (free_in g (x, before y) || free_in g (x, y + 1))) c.if-is_free_cell.ensures ∙ sym (found g c.requires)

pub returns-then-is_free_cell-3 : goal.returns-then-is_free_cell-3
returns-then-is_free_cell-3 c =
    let g = c.args.self.now in
    let x = g.start.0 in
    let y = g.start.1 in
    ap (λ b. (false || false) || (b || free_in g (x, y + 1))) c.if-is_free_cell-3.ensures
    ∙ ap (λ b. (false || b) || (free_in g (x, before y) || free_in g (x, y + 1))) c.if-is_free_cell-2.ensures
    ∙ ap (λ b. (b || free_in g (x + 1, y)) || (free_in g (x, before y) || free_in g (x, y + 1))) c.if-is_free_cell.ensures ∙ sym (found g c.requires)

pub returns : goal.returns
returns c =
    let g = c.args.self.now in
    let x = g.start.0 in
    let y = g.start.1 in
    ap (λ b. (false || false) || (false || b)) c.is_free_cell-4.ensures
    ∙ ap (λ b. (false || false) || (b || free_in g (x, y + 1))) c.if-is_free_cell-3.ensures
    ∙ ap (λ b. (false || b) || (free_in g (x, before y) || free_in g (x, y + 1))) c.if-is_free_cell-2.ensures
    ∙ ap (λ b. (b || free_in g (x + 1, y)) || (free_in g (x, before y) || free_in g (x, y + 1))) c.if-is_free_cell.ensures ∙ sym (found g c.requires)
