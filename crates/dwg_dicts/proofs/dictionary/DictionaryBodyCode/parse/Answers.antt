use Rattle.std.proofs.Common.{rules}
use Rattle.dwg_dicts.proofs.ItemReading.{dictionary_parsed}
use Rattle.dwg_dicts.proofs.dictionary.DictionaryBodyCode.parse.Goals as goal

pub returns-in_default-clause-parsed : goal.returns-in_default-clause-parsed
returns-in_default-clause-parsed c = rw dictionary_parsed (search rules)

pub returns-in_default-2-clause-parsed : goal.returns-in_default-2-clause-parsed
returns-in_default-2-clause-parsed c = rw dictionary_parsed (search rules)

pub returns-clause-parsed : goal.returns-clause-parsed
returns-clause-parsed c = rw dictionary_parsed (search rules)
