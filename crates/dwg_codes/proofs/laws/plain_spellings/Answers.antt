use Rattle.dwg_grammar.proofs.PlainLemmas.{mc_spells, signed_mc_spells, ms_spells, rs_spells, rl_spells, rd_spells, tv_spells}
use Rattle.dwg_codes.proofs.laws.plain_spellings.Goals as goal

pub returns-clause-mc : goal.returns-clause-mc
returns-clause-mc c = mc_spells

pub returns-clause-signed_mc : goal.returns-clause-signed_mc
returns-clause-signed_mc c = signed_mc_spells

pub returns-clause-ms : goal.returns-clause-ms
returns-clause-ms c = ms_spells

pub returns-clause-rs : goal.returns-clause-rs
returns-clause-rs c = rs_spells

pub returns-clause-rl : goal.returns-clause-rl
returns-clause-rl c = rl_spells

pub returns-clause-rd : goal.returns-clause-rd
returns-clause-rd c = rd_spells

pub returns-clause-tv : goal.returns-clause-tv
returns-clause-tv c = tv_spells
