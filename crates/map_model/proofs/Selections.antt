-- Sets of cells that lie in a map.
use Rattle.std.proofs.Common.{◌≡◌, ◌∙◌, ℕ, true≢false, sym, ap}
use Rattle.std.specs.FinSet as set
use Rattle.region.specs.Cells.{cell_cmp}
use Rattle.map_model.specs.declared.document.Document.TheInside.{Inside}
use Rattle.map_model.specs.Document.{IsDocument, IsSelectionOf, LiesIn}

pub empty-LiesIn : (width height : ℕ) (s : set.FinSet cell_cmp) → s ≡ set.empty → LiesIn width height s
empty-LiesIn width height s none q one = absurd (true≢false (sym one ∙ ap (λ t. set.contains t q) none ∙ set.contains-empty cell_cmp q))

-- the selection of a document lies in its map, also as the parts of the two are seen from within
pub selection-IsSelectionOf : {i j : Inside} → i ≡ j → IsDocument (record { map = j.map; selection = j.selection }) → IsSelectionOf i.map i.selection
selection-IsSelectionOf is h = rw is h.selection
