use Rattle.std.proofs.Common.{◌++◌, IsUtf8, ap, ◌∙◌, subst}
use Rattle.serde_json.specs.View.{view as data_of}
use Rattle.map_json.proofs.Returning.{Returns-read}
use Rattle.map_json.proofs.map_text.push_value.Goals as goal

pub returns : goal.returns
returns c =
    let piece = c.in_ok-piece.ensures in (
      c.in_ok-extend_from_slice.ensures.items ∙ ap (λ t. c.args.text.now.items ++ t) (c.deref.ensures.value ∙ piece.text c.requires.whole),
      Returns-read (data_of c.args.value.now) c.in_ok-piece.piece.items
          (subst IsUtf8 (piece.text c.requires.whole) piece.utf8) piece.order c.requires.whole c.requires.shallow (piece.reads_back c.requires.shallow),
    )
