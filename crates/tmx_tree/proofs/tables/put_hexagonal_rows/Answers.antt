use Rattle.tmx_tree.specs.Tables.{hexagonal_rows}
use Rattle.tmx_tree.proofs.tables.put_hexagonal_rows.Goals as goal

pub returns : goal.returns
unfolding hexagonal_rows
returns c =
    rw (c.row.ensures.name, c.row.ensures.kind, c.row.ensures.shown) at c.put_rows.ensures
