use Rattle.dwg_classes.proofs.ClassCode.{any_class_is_lawful, numbered_class_is_lawful, class_least}
use Rattle.dwg_classes.proofs.ClassLineLemmas.{classes_alike, tried_ok, tried_err}
use Rattle.dwg_classes.proofs.WrittenClasses.{are_values, written_are_classes, read_are_values}
use Rattle.dwg_classes.proofs.laws.classes_laws.Goals as goal

pub returns-clause-any : goal.returns-clause-any
returns-clause-any c = any_class_is_lawful

pub returns-clause-numbered : goal.returns-clause-numbered
returns-clause-numbered c = numbered_class_is_lawful

pub returns-clause-least : goal.returns-clause-least
returns-clause-least c = class_least

pub returns-clause-cut : goal.returns-clause-cut
returns-clause-cut c = classes_alike

pub returns-clause-read : goal.returns-clause-read
returns-clause-read c = tried_ok

pub returns-clause-refused : goal.returns-clause-refused
returns-clause-refused c = tried_err

pub returns-clause-values : goal.returns-clause-values
returns-clause-values c = are_values

pub returns-clause-written : goal.returns-clause-written
returns-clause-written c = written_are_classes

pub returns-clause-again : goal.returns-clause-again
returns-clause-again c = read_are_values
