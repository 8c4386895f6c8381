-- A map whose layers are packed nests no deeper than the map.
use Rattle.std.proofs.Common.{◌≡◌, ◌≤◌, ℕ, zero, suc, max, List, Bool, true, false, Option, Some, None, Ordering, Less, Equal, Greater, nat_cmp, codes}
use Rattle.std.proofs.Common.{ap}
use Rattle.std.proofs.Common.{arith}
use Rattle.std.specs.Cmp.Lexicographic.{slice_cmp}
use Rattle.std.specs.Ordering.{match_ordering}
use Rattle.deflate.specs.declared.frame.Frame.{Frame}
use Rattle.serde_json.specs.Data.{Data, null, boolean, number, string, array, object, Items, no_items, item, Members, no_members, member, put}
use Rattle.serde_json.specs.Data.{depth, items_depth, members_depth}
use Rattle.serde_json.specs.Find.{get_member}
use Rattle.json_members.specs.Members.{without, put_some}
use Rattle.tiled_maps.specs.Sources.{tiers}
use Rattle.tiled_maps.specs.Packed.{compression, note_name, frame_at, renamed}
use Rattle.tiled_maps.specs.Packing.{ItemsRelated, ArrayRelated, ObjectRelated, SomeRelated, MemberRelated, DataPacked, OwnPacked, ChunksPacked}
use Rattle.tiled_maps.specs.Packing.{LayerPacked, LayersPacked, ItemPacked, MapPacked}

-- ---- members
put_at : (o : Ordering) (k l : List ℕ) (d e : Data) (rest ms : Members) → members_depth rest ≤ max (depth d) (members_depth ms)
    → members_depth (match_ordering o (member k d (member l e ms)) (member l d ms) (member l e rest)) ≤ max (depth d) (max (depth e) (members_depth ms))
put_at Less k l d e rest ms h = omega arith
put_at Equal k l d e rest ms h = omega arith
put_at Greater k l d e rest ms h = omega (arith, h)

members_depth-put : (k : List ℕ) (d : Data) (ms : Members) → members_depth (put k d ms) ≤ max (depth d) (members_depth ms)
members_depth-put k d no_members = omega arith
members_depth-put k d (member l e ms) = put_at (slice_cmp nat_cmp k l) k l d e (put k d ms) ms (members_depth-put k d ms)

without_at : (o : Ordering) (l : List ℕ) (d : Data) (rest ms : Members) → members_depth rest ≤ members_depth ms
    → members_depth (match_ordering o (member l d rest) rest (member l d rest)) ≤ max (depth d) (members_depth ms)
without_at Less l d rest ms h = omega (arith, h)
without_at Equal l d rest ms h = omega (arith, h)
without_at Greater l d rest ms h = omega (arith, h)

members_depth-without : (k : List ℕ) (ms : Members) → members_depth (without k ms) ≤ members_depth ms
members_depth-without k no_members = omega arith
members_depth-without k (member l d ms) = without_at (slice_cmp nat_cmp k l) l d (without k ms) ms (members_depth-without k ms)

abbrev depth_of : Option Data → ℕ
depth_of None = 0
depth_of (Some d) = depth d

get_at : (o : Ordering) (d : Data) (found : Option Data) (ms : Members) → depth_of found ≤ members_depth ms
    → depth_of (match_ordering o found (Some d) found) ≤ max (depth d) (members_depth ms)
get_at Less d found ms h = omega (arith, h)
get_at Equal d found ms h = omega arith
get_at Greater d found ms h = omega (arith, h)

depth-get_member : (k : List ℕ) (ms : Members) → depth_of (get_member k ms) ≤ members_depth ms
depth-get_member k no_members = omega arith
depth-get_member k (member l d ms) = get_at (slice_cmp nat_cmp k l) d (get_member k ms) ms (depth-get_member k ms)

members_depth-put_some : (k : List ℕ) (o : Option Data) (ms : Members) → members_depth (put_some k o ms) ≤ max (depth_of o) (members_depth ms)
members_depth-put_some k None ms = omega arith
members_depth-put_some k (Some d) ms = members_depth-put k d ms

members_depth-renamed : (old new : List ℕ) (ms : Members) → members_depth (renamed old new ms) ≤ members_depth ms
members_depth-renamed old new ms =
    omega (arith, members_depth-put_some new (get_member old ms) (without old ms), depth-get_member old ms, members_depth-without old ms)

-- ---- what is related nests no deeper
abbrev NoDeeper : (Data → Data → Type 0) → Type 0
NoDeeper R = (d e : Data) → R d e → depth e ≤ depth d

abbrev NoneDeeper : (Members → Members → Type 0) → Type 0
NoneDeeper R = (ms ns : Members) → R ms ns → members_depth ns ≤ members_depth ms

same_depth : (d e : Data) → e ≡ d → depth e ≤ depth d
same_depth d e is = omega (arith, ap depth is)

module _ (R : Data → Data → Type 0) (under : NoDeeper R) where
  items_deep : (ds es : Items) → ItemsRelated R ds es → items_depth es ≤ items_depth ds
  items_deep no_items no_items h = omega arith
  items_deep no_items (item e es) h = absurd h
  items_deep (item d ds) no_items h = absurd h
  items_deep (item d ds) (item e es) h = omega (arith, under d e h.0, items_deep ds es h.1)

  array_deep : NoDeeper (ArrayRelated R)
  array_deep null e h = same_depth null e h
  array_deep (boolean b) e h = same_depth (boolean b) e h
  array_deep (number n) e h = same_depth (number n) e h
  array_deep (string s) e h = same_depth (string s) e h
  array_deep (array ds) e (es, is, h) = omega (arith, ap depth is, items_deep ds es h)
  array_deep (object ms) e h = same_depth (object ms) e h

  some_deep : (o p : Option Data) → SomeRelated R o p → depth_of p ≤ depth_of o
  some_deep None None h = omega arith
  some_deep None (Some e) h = absurd h
  some_deep (Some d) None h = absurd h
  some_deep (Some d) (Some e) h = under d e h

  member_deep : (k : List ℕ) → NoneDeeper (MemberRelated k R)
  member_deep k ms ns (o, h, is) =
      omega (
        arith,
        ap members_depth is,
        members_depth-put_some k o (without k ms),
        some_deep (get_member k ms) o h,
        depth-get_member k ms,
        members_depth-without k ms,
      )

module _ (R : Members → Members → Type 0) (under : NoneDeeper R) where
  object_deep : NoDeeper (ObjectRelated R)
  object_deep null e h = same_depth null e h
  object_deep (boolean b) e h = same_depth (boolean b) e h
  object_deep (number n) e h = same_depth (number n) e h
  object_deep (string s) e h = same_depth (string s) e h
  object_deep (array ds) e h = same_depth (array ds) e h
  object_deep (object ms) e (ns, is, h) = omega (arith, ap depth is, under ms ns h)

data_deep : (frame : Frame) → NoDeeper (DataPacked frame)
data_deep frame null e h = same_depth null e h
data_deep frame (boolean b) e h = same_depth (boolean b) e h
data_deep frame (number n) e h = same_depth (number n) e h
data_deep frame (string s) e (t, is, h) = omega (arith, ap depth is)
data_deep frame (array ds) e h = same_depth (array ds) e h
data_deep frame (object ms) e h = same_depth (object ms) e h

own_deep : (frame : Frame) → NoneDeeper (OwnPacked frame)
own_deep frame = member_deep (DataPacked frame) (data_deep frame) (codes "data")

chunk_deep : (frame : Frame) → NoDeeper (ObjectRelated (OwnPacked frame))
chunk_deep frame = object_deep (OwnPacked frame) (own_deep frame)

chunks_deep : (frame : Frame) → NoneDeeper (ChunksPacked frame)
chunks_deep frame =
    member_deep (ArrayRelated (ObjectRelated (OwnPacked frame))) (array_deep (ObjectRelated (OwnPacked frame)) (chunk_deep frame)) (codes "chunks")

layer_deep : (o : Option Frame) → NoneDeeper (LayerPacked o)
layer_deep None ms ns is = omega (arith, ap members_depth is)
layer_deep (Some frame) ms ns (own, all, h, k, is) =
    omega (arith, ap members_depth is, members_depth-renamed note_name compression all, own_deep frame ms own h, chunks_deep frame own all k)

layers_deep : (n : ℕ) → NoneDeeper (LayersPacked n)
unfolding LayersPacked
layers_deep zero ms ns is = omega (arith, ap members_depth is)
layers_deep (suc n) ms ns (own, below, layer) =
    let item_deep = object_deep (λ old new. LayersPacked n old new) (layers_deep n) in
    omega (
      arith,
      member_deep (ArrayRelated (ItemPacked n)) (array_deep (ItemPacked n) item_deep) (codes "layers") ms own below,
      layer_deep (frame_at note_name own) own ns layer,
    )

pub map_deep : (b : Bool) (u p : Data) → MapPacked b u p → depth p ≤ depth u
map_deep false u p is = same_depth u p is
map_deep true u p h = object_deep (λ old new. LayersPacked tiers old new) (layers_deep tiers) u p h
