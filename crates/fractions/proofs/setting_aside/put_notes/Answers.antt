use Rattle.std.proofs.Common.{◌∙◌, ap}
use Rattle.serde_json.specs.Data.{put}
use Rattle.serde_json.specs.View.{members_view}
use Rattle.fractions.specs.Aside.{reserved_name}
use Rattle.fractions.proofs.Walks.{notes_put}
use Rattle.fractions.proofs.setting_aside.put_notes.Goals as goal

pub returns-in_ok-put : goal.returns-in_ok-put
returns-in_ok-put c = c.in_ok-put.ensures.ok ∙ ap (λ d. put reserved_name d (members_view c.args.members.now.entries)) c.from.ensures
    ∙ notes_put c.args.notes.entries (members_view c.args.members.now.entries) c.if-not-is_empty.ensures.1
