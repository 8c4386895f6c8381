use Rattle.std.proofs.Common.{◌≡◌, false, ◌∙◌, sym, ap}
use Rattle.serde_json.specs.View.{view}
use Rattle.fractions.specs.Aside.{reserved_name}
use Rattle.fractions.specs.Back.{back}
use Rattle.json_trees.specs.Names.{has_name}
use Rattle.json_trees.specs.Texts.{IsTreeOf}
use Rattle.tiled_maps.proofs.Meeting.{put_back_of-free}
use Rattle.fractions.proofs.Whole.{back-unchanged}
use Rattle.tiled_maps.proofs.text.put_back_tree.Goals as goal

pub returns-then-not-has_name : goal.returns-then-not-has_name
returns-then-not-has_name c =
    let d = view c.in_ok-value.value in
    let tree : IsTreeOf c.args.bytes.now d = c.in_ok-value.ensures in
    let none : has_name reserved_name d ≡ false = sym c.if-not-has_name.ensures in
    (d, tree, sym (put_back_of-free d none ∙ back-unchanged d none))

pub returns : goal.returns
returns c = (view c.in_ok-value.value, c.in_ok-value.ensures, c.in_ok-exact.ensures ∙ ap back c.in_ok-map.ensures.map)
