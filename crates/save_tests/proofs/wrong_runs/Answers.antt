use Rattle.save_tests.proofs.Wrong.{renamed_too_soon, synced_again, written_in_place, removed_first, not_kept_by_a_rename, not_synced, failed_before, appended}
use Rattle.save_tests.proofs.wrong_runs.Goals as goal

pub returns-clause-written_in_place : goal.returns-clause-written_in_place
returns-clause-written_in_place c = written_in_place

pub returns-clause-removed_first : goal.returns-clause-removed_first
returns-clause-removed_first c = removed_first

pub returns-clause-renamed_too_soon : goal.returns-clause-renamed_too_soon
returns-clause-renamed_too_soon c = renamed_too_soon

pub returns-clause-appended : goal.returns-clause-appended
returns-clause-appended c = λ beside path bytes old apart. appended beside path bytes apart old

pub returns-clause-synced_again : goal.returns-clause-synced_again
returns-clause-synced_again c = synced_again

pub returns-clause-not_kept : goal.returns-clause-not_kept
returns-clause-not_kept c = λ beside path bytes apart. not_kept_by_a_rename beside path bytes

pub returns-clause-not_synced : goal.returns-clause-not_synced
returns-clause-not_synced c = not_synced

pub returns-clause-failed_before : goal.returns-clause-failed_before
returns-clause-failed_before c = failed_before
