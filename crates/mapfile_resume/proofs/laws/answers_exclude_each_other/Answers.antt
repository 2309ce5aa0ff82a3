use Rattle.mapfile_resume.proofs.AnswerLemmas.{read_is_not_refused, none_is_not_read, none_says_nothing}
use Rattle.mapfile_resume.proofs.laws.answers_exclude_each_other.Goals as goal

pub returns-clause-read : goal.returns-clause-read
returns-clause-read c = read_is_not_refused

pub returns-clause-like_none : goal.returns-clause-like_none
returns-clause-like_none c = none_is_not_read

pub returns-clause-blank : goal.returns-clause-blank
returns-clause-blank c = none_says_nothing
