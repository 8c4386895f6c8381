use Rattle.std.proofs.Common.{◌≡◌, ℕ, List, ◌||◌, ◌++◌, sym, ap, ◌∙◌}
use Rattle.std.specs.List.{list_any, IsSplitAt}
use Rattle.std.proofs.lemmas.List.{take-append-drop}
use Rattle.std.proofs.lemmas.List.Folds.{list_any-append}
use Rattle.map_model.specs.Uses.{is_between}
use Rattle.map_model.proofs.tilesets.is_in_cells.Goals as goal

-- some value of a list passes if one of either of its parts does
any-split : (low end mid : ℕ) (xs front back : List ℕ) → IsSplitAt xs mid front back
    → list_any (is_between low end) xs ≡ (list_any (is_between low end) front || list_any (is_between low end) back)
any-split low end mid xs front back is =
    let whole : xs ≡ front ++ back = rw (is.1, is.2) (sym (take-append-drop mid xs)) in
    ap (list_any (is_between low end)) whole ∙ list_any-append (is_between low end) front back

pub returns-then-is_in_block : goal.returns-then-is_in_block
returns-then-is_in_block c =
    let behind = list_any (is_between c.args.low c.args.end) c.in-Some.behind.now in
    let split = any-split c.args.low c.args.end _ c.loop-block.rest.now c.in-Some.block.now c.in-Some.behind.now c.in-Some.ensures.cases in
    let here = sym c.is_in_block.ensures ∙ c.if-is_in_block.true in
    sym (sym c.loop-block.invariant ∙ (split ∙ ap (λ b. b || behind) here))

pub loop-block-preserved : goal.loop-block-preserved
loop-block-preserved c =
    let behind = list_any (is_between c.args.low c.args.end) c.in-Some.behind.now in
    let split = any-split c.args.low c.args.end _ c.loop-block.rest.now c.in-Some.block.now c.in-Some.behind.now c.in-Some.ensures.cases in
    let here = sym c.is_in_block.ensures ∙ c.if-is_in_block.false in
    sym (split ∙ ap (λ b. b || behind) here) ∙ c.loop-block.invariant
