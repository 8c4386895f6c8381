use Rattle.std.proofs.lemmas.Str.{IsUtf8-string_bytes}
use Rattle.map_model.proofs.contents.MapText.text_is_utf8.Goals as goal

pub returns : goal.returns
returns c = rw (← c.self.view_is) (IsUtf8-string_bytes c.self.inside.text)
