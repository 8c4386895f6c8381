use Rattle.std.proofs.Common.{◌≡◌, ◌<◌, ◌≤◌, ◌∙◌, sym, ap, subst, None}
use Rattle.serde_json.specs.Data.{depth}
use Rattle.serde_json.specs.Read.{max_depth}
use Rattle.serde_json.specs.View.{view}
use Rattle.serde_json.proofs.Nesting.{depth-read}
use Rattle.infinite_maps.specs.Infinite.{infinite_of}
use Rattle.fractions.specs.Aside.{reserved_name}
use Rattle.fractions.specs.Back.{back}
use Rattle.json_trees.specs.Names.{has_name}
use Rattle.json_trees.specs.Texts.{IsTreeOf}
use Rattle.tiled_maps.specs.Trees.{put_back_of}
use Rattle.tiled_maps.proofs.Answered.{neither, IsPutBack-none, IsPutBack-some, was_infinite, deeper}
use Rattle.tiled_maps.specs.Packed.{note_name}
use Rattle.tiled_maps.specs.Packing.{IsPackedAs}
use Rattle.std.proofs.lemmas.Bool.{leb-true}
use Rattle.tiled_maps.proofs.text.put_back.Goals as goal

pub returns-then-not-has_note : goal.returns-then-not-has_note
returns-then-not-has_note c =
    let d = view c.in_ok-value.value in
    let tree : IsTreeOf c.args.bytes.now d = c.in_ok-value.ensures in
    let none = neither (has_name reserved_name d) (has_name note_name d) (sym c.if-not-has_note.ensures) in
    (d, d, IsPutBack-none c.args.bytes.now d tree none.0 none.1)

pub returns-then-not-is_within : goal.returns-then-not-is_within
returns-then-not-is_within c =
    let d = view c.in_ok-value.value in
    let tree : IsTreeOf c.args.bytes.now d = c.in_ok-value.ensures in
    let put : view c.in_ok-exact.exact ≡ put_back_of d = c.in_ok-exact.ensures ∙ ap back c.in_ok-map.ensures.map in
    let seen : max_depth < depth (view c.in_ok-exact.exact) = deeper (depth (view c.in_ok-exact.exact)) (sym c.if-not-is_within.ensures) in
    let deep : max_depth < depth (put_back_of d) = subst (λ t. max_depth < depth t) put seen in
    (d, tree, was_infinite (infinite_of d) d (depth-read c.args.bytes.now d tree.1) deep, deep)

pub returns : goal.returns
returns c =
    let d = view c.in_ok-value.value in
    let p = view c.in_ok-packed.packed in
    let tree : IsTreeOf c.args.bytes.now d = c.in_ok-value.ensures in
    let put : view c.in_ok-exact.exact ≡ put_back_of d = c.in_ok-exact.ensures ∙ ap back c.in_ok-map.ensures.map in
    let seen : depth (view c.in_ok-exact.exact) ≤ max_depth = leb-true _ _ (sym c.if-not-is_within.ensures) in
    let packed : IsPackedAs None (put_back_of d) p = subst (λ u. IsPackedAs None u p) put c.in_ok-packed.ensures.packed in
    let within : depth p ≤ max_depth = c.in_ok-packed.ensures.within seen in
    let text = c.in_ok-text.text in
    let text_tree : IsTreeOf text.items p = (c.in_ok-text.ensures.utf8, c.in_ok-text.ensures.reads_back within) in
    (d, p, IsPutBack-some c.args.bytes.now text d p tree (sym c.if-not-has_note.ensures) packed text_tree)
