-- What is done to a layer leaves the members of other names alone.
use Rattle.std.proofs.Common.{◌≡◌, ℕ, List, [], ◌∷◌, ◌++◌, Bool, false, Option, Some, None, codes, bytes_eq, refl, ◌∙◌}
use Rattle.std.specs.Prelude.{unwrap_or}
use Rattle.std.proofs.lemmas.Bool.Decides.{not_from_Decides}
use Rattle.std.proofs.lemmas.Slice.Eq.{bytes_eq-Decides}
use Rattle.serde_json.specs.Data.{Data, Members, put}
use Rattle.serde_json.specs.Find.{get, get_member}
use Rattle.serde_json.proofs.Views.{get_member-put_other}
use Rattle.json_members.specs.Members.{without, put_some}
use Rattle.json_members.proofs.MembersLemmas.{get_member-without}
use Rattle.infinite_maps.specs.declared.rectangle.Rectangle.{Rectangle}
use Rattle.infinite_maps.specs.declared.plane.Plane.{Plane}
use Rattle.infinite_maps.specs.Notes.{mark}
use Rattle.infinite_maps.specs.Rectangles.{width, height, bounds}
use Rattle.infinite_maps.specs.Wide.{wide, widened}
use Rattle.infinite_maps.specs.Layers.{chunks, no_cell, whole_number, place_at, with_bounds, with_old_bounds, with_right_bounds, rest_of, with_chunks}
use Rattle.infinite_maps.specs.Layers.{layer_cells, layer_by, layer_of, is_text_at, old_rectangles, new_rectangles}

-- a member of another name
pub put_keeps : (q k : List ℕ) (d : Data) (ms : Members) → bytes_eq q k ≡ false → get_member q (put k d ms) ≡ get_member q ms
put_keeps q k d ms e = get_member-put_other q k d ms (not_from_Decides (bytes_eq q k) (bytes_eq-Decides q k) e)

pub put_some_keeps : (q k : List ℕ) (o : Option Data) (ms : Members) → bytes_eq q k ≡ false → get_member q (put_some k o ms) ≡ get_member q ms
put_some_keeps q k None ms e = refl
put_some_keeps q k (Some d) ms e = put_keeps q k d ms e

-- a name that no step of a layer or of the map puts in or takes out
pub record IsOther (q : List ℕ) : Type 0 where
  pub mark : bytes_eq q mark ≡ false
  pub width : bytes_eq q (codes "width") ≡ false
  pub height : bytes_eq q (codes "height") ≡ false
  pub startx : bytes_eq q (codes "startx") ≡ false
  pub starty : bytes_eq q (codes "starty") ≡ false
  pub «data» : bytes_eq q (codes "data") ≡ false
  pub chunks : bytes_eq q (codes "chunks") ≡ false

-- what is done to a layer leaves its list of layers, or of objects, alone
module _ (q : List ℕ) (o : IsOther q) where
  rest_keeps : (ms : Members) → get_member q (rest_of ms) ≡ get_member q ms
  rest_keeps ms =
      let a = without mark ms in
      let b = without (codes "width") a in
      let c = without (codes "height") b in
      get_member-without q (codes "data") c o.data
      ∙ (get_member-without q (codes "height") b o.height
      ∙ (get_member-without q (codes "width") a o.width ∙ get_member-without q mark ms o.mark))

  bounds_keep : (p : Plane) (r : Rectangle) (ms : Members) → get_member q (with_bounds p r ms) ≡ get_member q ms
  bounds_keep p r ms =
      let w = whole_number (width r) in
      let y = place_at p.y r.top in
      let x = place_at p.x r.left in
      let a = put (codes "width") w ms in
      let b = put (codes "starty") y a in
      let c = put (codes "startx") x b in
      put_keeps q (codes "height") (whole_number (height r)) c o.height
      ∙ (put_keeps q (codes "startx") x b o.startx
      ∙ (put_keeps q (codes "starty") y a o.starty ∙ put_keeps q (codes "width") w ms o.width))

  old_bounds_keep : (note : Data) (ms : Members) → get_member q (with_old_bounds note ms) ≡ get_member q ms
  old_bounds_keep note ms =
      let a = put_some (codes "width") (get (codes "width") note) ms in
      let b = put_some (codes "starty") (get (codes "starty") note) a in
      let c = put_some (codes "startx") (get (codes "startx") note) b in
      put_some_keeps q (codes "height") (get (codes "height") note) c o.height
      ∙ (put_some_keeps q (codes "startx") (get (codes "startx") note) b o.startx
      ∙ (put_some_keeps q (codes "starty") (get (codes "starty") note) a o.starty
      ∙ put_some_keeps q (codes "width") (get (codes "width") note) ms o.width))

  right_bounds_keep : (p : Plane) (none : Rectangle) (note : Option Data) (rs news : List Rectangle) (ms : Members)
      → get_member q (with_right_bounds p none note rs news ms) ≡ get_member q ms
  right_bounds_keep p none None rs news ms = bounds_keep p (unwrap_or (bounds rs) none) ms
  right_bounds_keep p none (Some note) rs [] ms = old_bounds_keep note ms
  right_bounds_keep p none (Some note) rs (n ∷ ns) ms = bounds_keep p (unwrap_or (bounds rs) none) ms

  chunks_keep : (p : Plane) (none : Rectangle) (note : Option Data) (text : Bool) (cells : List ℕ) (olds news : List Rectangle) (ms : Members)
      → get_member q (with_chunks p none note text cells olds news ms) ≡ get_member q ms
  chunks_keep p none note text cells olds news ms =
      put_keeps q (codes "chunks") (chunks p text cells (olds ++ news)) (with_right_bounds p none note (olds ++ news) news (rest_of ms)) o.chunks
      ∙ (right_bounds_keep p none note (olds ++ news) news (rest_of ms) ∙ rest_keeps ms)

  layer_by_keeps : (p : Plane) (c : Option (List ℕ)) (ms : Members) → get_member q (layer_by p c ms) ≡ get_member q ms
  layer_by_keeps p None ms = refl
  layer_by_keeps p (Some cells) ms =
      let note = get_member mark ms in
      let olds = old_rectangles p note in
      let text = is_text_at (get_member (codes "data") ms) in
      chunks_keep (wide p) (no_cell p) note text (widened p cells) olds (new_rectangles (wide p) (widened p cells) olds) ms

  pub layer_keeps : (p : Plane) (ms : Members) → get_member q (layer_of p ms) ≡ get_member q ms
  unfolding layer_of
  layer_keeps p ms = layer_by_keeps p (layer_cells p (get_member (codes "data") ms)) ms

-- the list of layers, and that of objects
pub layers : IsOther (codes "layers")
layers = record { mark = refl; width = refl; height = refl; startx = refl; starty = refl; «data» = refl; chunks = refl }

pub objects : IsOther (codes "objects")
objects = record { mark = refl; width = refl; height = refl; startx = refl; starty = refl; «data» = refl; chunks = refl }
