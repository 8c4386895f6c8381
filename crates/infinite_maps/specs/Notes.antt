-- What is noted of an infinite map while it is finite.
use Rattle.std.specs.Prelude.{ℕ, ◌+◌, min, max, List, [], ◌∷◌, codes, ℤ, pos, nat_lt, Option, Some, None, option_and_then, unwrap_or, if◌then◌else◌}
use Rattle.serde_json.specs.Data.{Data, Items, no_items, item, Members}
use Rattle.serde_json.specs.Find.{get, at, get_member, as_number, as_i64}
use Rattle.infinite_maps.specs.declared.rectangle.Rectangle.{Rectangle}
use Rattle.infinite_maps.specs.declared.plane.Plane.{Plane}
use Rattle.infinite_maps.specs.Rectangles.{area}
use Rattle.infinite_maps.specs.Cells.{whole}
use Rattle.infinite_maps.specs.Wide.{before_x, before_y}

-- the one name of the notes
abbrev pub mark : List ℕ
mark = codes "roskevad"

-- a whole number, or 0
abbrev pub natural : Option Data → ℕ
natural None = 0
natural (Some d) = whole d

-- a whole number of 64 bits, or 0
abbrev pub integer : Option Data → ℤ
integer o = unwrap_or (option_and_then (λ d. option_and_then as_i64 (as_number d)) o) (pos 0)

-- the map: where its corner lies, how large it is, its blocks, how many cells a layer of whole blocks may have, and how far
-- objects were moved
abbrev pub plane_of : Members → Data → Plane
plane_of ms note = record {
  x = integer (get (codes "x") note);
  y = integer (get (codes "y") note);
  columns = min (natural (get_member (codes "width") ms)) 4096;
  rows = min (natural (get_member (codes "height") ms)) 4096;
  across = max (min (natural (get (codes "chunkwidth") note)) 4096) 1;
  down = max (min (natural (get (codes "chunkheight") note)) 4096) 1;
  lost_x = min (natural (get (codes "lostx") note)) 4096;
  lost_y = min (natural (get (codes "losty") note)) 4096;
  most = min (natural (get (codes "most") note)) 1048576;
  moved_x = integer (get (codes "movedx") note);
  moved_y = integer (get (codes "movedy") note);
}

-- a rectangle `[left, top, width, height]`, as far as it lies on the map; counted from the corner of the wide map
abbrev pub noted : Plane → Data → Rectangle
noted p d = record {
  left = before_x p + min (natural (at 0 d)) p.columns;
  top = before_y p + min (natural (at 1 d)) p.rows;
  right = before_x p + min (natural (at 0 d) + natural (at 2 d)) p.columns;
  bottom = before_y p + min (natural (at 1 d) + natural (at 3 d)) p.rows;
}

-- those that have a cell
abbrev pub noted_all : Plane → Items → List Rectangle
noted_all p no_items = []
noted_all p (item d ds) = if nat_lt 0 (area (noted p d)) then noted p d ∷ noted_all p ds else noted_all p ds
