use Rattle.std.proofs.Common.{◌≡◌, ◌≤◌, true, false, ◌∙◌, sym, ap, Some, Ok, subst}
use Rattle.std.proofs.lemmas.Result.{err_from_is_err_and}
use Rattle.serde_json.specs.Data.{depth}
use Rattle.serde_json.specs.Read.{max_depth}
use Rattle.serde_json.specs.View.{view}
use Rattle.serde_json.proofs.Nesting.{depth-read}
use Rattle.infinite_maps.specs.Infinite.{is_infinite}
use Rattle.fractions.specs.declared.place.Place.TheVariants.{Map}
use Rattle.fractions.specs.Aside.{reserved_name, set_aside_of}
use Rattle.fractions.specs.Fractions.{has_fraction, HasFewFractions}
use Rattle.json_trees.specs.Names.{has_name}
use Rattle.json_trees.specs.Texts.{IsTreeOf}
use Rattle.tiled_maps.specs.Trees.{MakesFinite}
use Rattle.tiled_maps.proofs.Answered.{few_seen, SetsAside-none, SetsAside-whole, SetsAside-finite, finite_fault}
use Rattle.tiled_maps.proofs.text.aside_of.Goals as goal

pub returns-in_err-finite : goal.returns-in_err-finite
returns-in_err-finite c =
    let d = view c.args.value in
    let tree : IsTreeOf c.args.bytes.now d = c.requires in
    let few : HasFewFractions d = few_seen d (sym c.has_few_fractions.ensures ∙ c.if-not-has_few_fractions.false) in
    let is : view c.in_ok-whole.whole ≡ set_aside_of d = c.in_ok-whole.ensures.0 in
    let p = err_from_is_err_and c.from_residual-in_err-finite.result c.from_residual-in_err-finite.ensures.1 in
    rw (p.1, p.2) (finite_fault c.args.bytes.now d (view c.in_ok-whole.whole) _ tree few is c.in_err-finite.ensures)

pub returns-in-Some : goal.returns-in-Some
returns-in-Some c =
    let d = view c.args.value in
    let tree : IsTreeOf c.args.bytes.now d = c.requires in
    let free : has_name reserved_name d ≡ false = sym c.has_name.ensures ∙ c.if-has_name.false in
    let few : HasFewFractions d = few_seen d (sym c.has_few_fractions.ensures ∙ c.if-not-has_few_fractions.false) in
    let is : view c.in_ok-whole.whole ≡ set_aside_of d = c.in_ok-whole.ensures.0 in
    let seen : MakesFinite (view c.in_ok-whole.whole) (Ok (Some c.in-Some.finite))
    = subst (λ o. MakesFinite (view c.in_ok-whole.whole) (Ok o)) c.in-Some.is c.in_ok-finite.ensures in
    let made : MakesFinite (set_aside_of d) (Ok (Some c.in-Some.finite)) = subst (λ a. MakesFinite a (Ok (Some c.in-Some.finite))) is seen in
    let text = c.in_ok-to_vec-in-Some.field-0 in
    let text_tree : IsTreeOf text.items (view c.in-Some.finite)
    = (c.in_ok-to_vec-in-Some.ensures.utf8, c.in_ok-to_vec-in-Some.ensures.reads_back made.1.within) in
    (d, view c.in-Some.finite, SetsAside-finite c.args.bytes.now text d (view c.in-Some.finite) tree free few made.0 made.1 text_tree)

pub returns-then-is_whole : goal.returns-then-is_whole
returns-then-is_whole c =
    let d = view c.args.value in
    let tree : IsTreeOf c.args.bytes.now d = c.requires in
    let free : has_name reserved_name d ≡ false = sym c.has_name.ensures ∙ c.if-has_name.false in
    let is : view c.in_ok-whole.whole ≡ set_aside_of d = c.in_ok-whole.ensures.0 in
    let seen : is_infinite (view c.in_ok-whole.whole) ≡ false
    = subst (λ o. MakesFinite (view c.in_ok-whole.whole) (Ok o)) c.in-None.is c.in_ok-finite.ensures in
    let none : has_fraction Map d ≡ false = sym c.has_fraction-is_whole.ensures ∙ c.if-is_whole.true in
    (d, set_aside_of d, SetsAside-none c.args.bytes.now d tree free none (ap is_infinite (sym is) ∙ seen))

pub returns : goal.returns
returns c =
    let d = view c.args.value in
    let tree : IsTreeOf c.args.bytes.now d = c.requires in
    let free : has_name reserved_name d ≡ false = sym c.has_name.ensures ∙ c.if-has_name.false in
    let few : HasFewFractions d = few_seen d (sym c.has_few_fractions.ensures ∙ c.if-not-has_few_fractions.false) in
    let is : view c.in_ok-whole.whole ≡ set_aside_of d = c.in_ok-whole.ensures.0 in
    let seen : is_infinite (view c.in_ok-whole.whole) ≡ false
    = subst (λ o. MakesFinite (view c.in_ok-whole.whole) (Ok o)) c.in-None.is c.in_ok-finite.ensures in
    let some : has_fraction Map d ≡ true = sym c.has_fraction-is_whole.ensures ∙ c.if-is_whole.false in
    let within : depth (view c.in_ok-whole.whole) ≤ max_depth = c.in_ok-whole.ensures.1 (depth-read c.args.bytes.now d tree.1) in
    let text = c.in_ok-to_vec-in-None.field-0 in
    let text_tree : IsTreeOf text.items (set_aside_of d)
    = (c.in_ok-to_vec-in-None.ensures.utf8, c.in_ok-to_vec-in-None.ensures.reads_back within ∙ ap (λ t. Some t) is) in
    (d, set_aside_of d, SetsAside-whole c.args.bytes.now text d tree free few some (ap is_infinite (sym is) ∙ seen) text_tree)
