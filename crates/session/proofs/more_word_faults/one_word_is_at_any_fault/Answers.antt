use Rattle.session.proofs.AnyFaults.{more_words_are_the_line, one_is_at_any_fault}
use Rattle.session.proofs.more_word_faults.one_word_is_at_any_fault.Goals as goal

pub returns-clause-words : goal.returns-clause-words
returns-clause-words c = more_words_are_the_line

pub returns-clause-one : goal.returns-clause-one
returns-clause-one c = one_is_at_any_fault
