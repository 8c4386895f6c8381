use Rattle.std.proofs.Common.{ℕ, ◌+◌, ◌*◌}
use Rattle.tmx_writer.proofs.anew.+anew.Given as goal

abbrev pub decreases-push_element : goal.decreases-push_element
decreases-push_element l = 3 * l.most

abbrev pub decreases-push_kids : goal.decreases-push_kids
decreases-push_kids l = 3 * l.most + 1

abbrev pub decreases-push_content : goal.decreases-push_content
decreases-push_content l = 3 * l.most + 2
