use Rattle.std.proofs.Common.{sym, ap, ◌∙◌, subst}
use Rattle.std.proofs.lemmas.Result.{IfOk-weaker}
use Rattle.serde_json.specs.Data.{array, no_items}
use Rattle.map_model.specs.Bodies.{IsTiles}
use Rattle.map_json.specs.Members.{Own, with_own}
use Rattle.map_json.proofs.Outlines.{outline_frame-other, outline_own-tiles}
use Rattle.map_json.proofs.writing.outline_frame.Goals as goal

pub returns-in-Tiles : goal.returns-in-Tiles
returns-in-Tiles c =
    let l = c.args.layer.now in
    let size = c.args.size in
    let same = outline_own-tiles size.width size.height (array no_items) l l.body _ _ c.in-Tiles.is in
    IfOk-weaker c.tiles_outline.result _ _ (λ x h. h ∙ ap (λ (own : Own). with_own own l.kept) (sym same)) c.tiles_outline.ensures

pub returns-in-Objects : goal.returns-in-Objects
returns-in-Objects c =
    let size = c.args.size in
    IfOk-weaker c.layer_frame.result _ _ (λ x h. h ∙ outline_frame-other size.width size.height c.args.layer.now (subst IsTiles c.in-Objects.is))
    c.layer_frame.ensures

pub returns-in-Other : goal.returns-in-Other
returns-in-Other c =
    let size = c.args.size in
    IfOk-weaker c.layer_frame-in-Other.result _ _ (λ x h. h ∙ outline_frame-other size.width size.height c.args.layer.now (subst IsTiles c.in-Other.is))
    c.layer_frame-in-Other.ensures

pub returns-in-Group : goal.returns-in-Group
returns-in-Group c =
    let size = c.args.size in
    IfOk-weaker c.layer_frame-in-Group.result _ _ (λ x h. h ∙ outline_frame-other size.width size.height c.args.layer.now (subst IsTiles c.in-Group.is))
    c.layer_frame-in-Group.ensures
