use Rattle.document_lines.proofs.Covering.{layer_edit-covers, outline_edit-covers, resize-covers, select-covers}
use Rattle.document_lines.proofs.planned.Edit.differs.Goals as goal

pub returns-in-Select : goal.returns-in-Select
returns-in-Select c = rw (c.in-Select.is, c.nothing.ensures) (select-covers c.in-Select.field-0)

pub returns-in-ResizeMap : goal.returns-in-ResizeMap
returns-in-ResizeMap c = rw (c.in-ResizeMap.is, c.of_layers.ensures) (resize-covers c.in-ResizeMap.field-0)

pub returns-in-AddLayer : goal.returns-in-AddLayer
returns-in-AddLayer c = rw c.of_layers-in-AddLayer.ensures (layer_edit-covers c.args.self.now c.in-AddLayer.is)

pub returns-in-RenameLayer : goal.returns-in-RenameLayer
returns-in-RenameLayer c = rw c.of_outline.ensures (outline_edit-covers c.args.self.now c.in-RenameLayer.is)
