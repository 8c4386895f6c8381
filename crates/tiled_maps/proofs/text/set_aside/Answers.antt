use Rattle.std.proofs.Common.{◌≡◌, ◌≤◌, false, inl, ◌∙◌, sym, subst, arith}
use Rattle.serde_json.specs.View.{view}
use Rattle.json_trees.specs.Names.{has_name}
use Rattle.json_trees.specs.Texts.{IsTreeOf}
use Rattle.tiled_maps.specs.Packed.{note_name, has_packed, packed_cells, most_packed}
use Rattle.tiled_maps.proofs.Answered.{SetsAside-plain, SetsAside-unpacked, unpacked-none, few_cells}
use Rattle.tiled_maps.proofs.text.set_aside.Goals as goal

pub returns-then-not-has_packed : goal.returns-then-not-has_packed
returns-then-not-has_packed c =
    let bytes = c.args.bytes.now in
    let d = view c.in_ok-value.value in
    let tree : IsTreeOf bytes d = c.in_ok-value.ensures in
    let free : has_name note_name d ≡ false = sym c.has_name.ensures ∙ c.if-has_name.false in
    let none : has_packed d ≡ false = sym c.if-not-has_packed.ensures in
    SetsAside-plain bytes d c.aside_of.result
    (record { tree = tree; free = free; few = few_cells d none; plain_tree = subst (IsTreeOf bytes) (sym (unpacked-none d none)) tree }) c.aside_of.ensures

pub returns-then-packed_cells-gt-MOST_PACKED : goal.returns-then-packed_cells-gt-MOST_PACKED
returns-then-packed_cells-gt-MOST_PACKED c =
    let d = view c.in_ok-value.value in
    inl (d, c.in_ok-value.ensures, omega (arith, c.packed_cells.ensures))

pub returns : goal.returns
returns c =
    let bytes = c.args.bytes.now in
    let d = view c.in_ok-value.value in
    let t = view c.in_ok-plain.plain in
    let free : has_name note_name d ≡ false = sym c.has_name.ensures ∙ c.if-has_name.false in
    let few : packed_cells d ≤ most_packed = omega (arith, c.packed_cells.ensures) in
    SetsAside-unpacked bytes d t c.aside_of_unpacked.result c.in_ok-value.ensures free few c.in_ok-plain.ensures c.aside_of_unpacked.ensures
