use Rattle.std.proofs.Common.{◌≡◌, Option, option_map, Ok, Err, subst}
use Rattle.std.proofs.lemmas.Result.{err_from_is_err_and}
use Rattle.serde_json.specs.Data.{Data}
use Rattle.serde_json.specs.View.{view}
use Rattle.tiled_maps.specs.Likeness.{IsSource, PutsLike}
use Rattle.tiled_maps.specs.Alike.{as_in}
use Rattle.tiled_maps.specs.Trees.{put_back_of}
use Rattle.tiled_maps.proofs.PackedLaws.{source_within, unpacks_to_source, seen_by}
use Rattle.tiled_maps.proofs.PutLike.{put_by, fault_by, fault_like}
use Rattle.tiled_maps.proofs.text.put_back_like.Goals as goal

pub returns : goal.returns
returns c =
    let bytes = c.args.bytes.now in
    let source = c.args.source.now in
    let h = c.in_ok-exact.ensures in
    let s = option_map view c.in_ok-tree.tree in
    let is : IsSource source s = c.in_ok-tree.ensures in
    let u = as_in s (put_back_of h.0) in
    let e = view c.in_ok-exact.exact in
    let P : Option Data → Type 0 = λ s. PutsLike s e (Ok c.in_ok-map.map) in
    let like : P s = subst P (seen_by c.as_ref.result c.in_ok-tree.tree c.as_ref.ensures.value) c.in_ok-map.ensures in
    let put = put_by bytes h.0 e s c.in_ok-map.map h.1 h.2 like in
    let p = view c.in_ok-map.map in (
      h.0,
      s,
      p,
      record {
        tree = h.1;
        source_tree = is;
        packed = put.packed;
        text_tree = c.in_ok-laid.ensures.tree;
        kept = c.in_ok-laid.ensures.kept;
        unpacked = unpacks_to_source s u p c.in_ok-laid.laid.text.items source put.kept (source_within source s is) c.in_ok-laid.ensures.kept;
      },
    )

pub returns-in_err-map : goal.returns-in_err-map
returns-in_err-map c =
    let bytes = c.args.bytes.now in
    let h = c.in_ok-exact.ensures in
    let s = option_map view c.in_ok-tree.tree in
    let is : IsSource c.args.source.now s = c.in_ok-tree.ensures in
    let e = view c.in_ok-exact.exact in
    let P : Option Data → Type 0 = λ s. PutsLike s e (Err c.in_err-map.field-0.0) in
    let like : P s = subst P (seen_by c.as_ref.result c.in_ok-tree.tree c.as_ref.ensures.value) c.in_err-map.ensures in
    let p = err_from_is_err_and c.from_residual-in_err-map.result c.from_residual-in_err-map.ensures.1 in
    rw (p.1, p.2) (fault_like bytes c.args.source.now s _ is (fault_by bytes h.0 e s _ h.1 h.2 like))
