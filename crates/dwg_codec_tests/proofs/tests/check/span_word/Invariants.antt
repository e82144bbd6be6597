use Rattle.dwg_codec_tests.proofs.tests.check.span_word.Given as goal

abbrev pub ghosts-span_counted : goal.ghosts-span_counted
ghosts-span_counted a = record { name = a.blank.name; parts = a.blank.parts }
