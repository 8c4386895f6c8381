use Rattle.tmx_tree.specs.Tables.{wang_color_rows}
use Rattle.tmx_tree.proofs.tables.put_wang_color_rows.Goals as goal

pub returns : goal.returns
unfolding wang_color_rows
returns c =
    rw (
      c.row.ensures.name,
      c.row.ensures.kind,
      c.row.ensures.shown,
      c.row-2.ensures.name,
      c.row-2.ensures.kind,
      c.row-2.ensures.shown,
    ) at
    (rw (
      c.row-3.ensures.name,
      c.row-3.ensures.kind,
      c.row-3.ensures.shown,
      c.row-4.ensures.name,
      c.row-4.ensures.kind,
      c.row-4.ensures.shown,
    ) at
    (rw (c.row-5.ensures.name, c.row-5.ensures.kind, c.row-5.ensures.shown) at c.put_rows.ensures))
