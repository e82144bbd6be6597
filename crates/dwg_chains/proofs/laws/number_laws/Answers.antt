use Rattle.dwg_chains.proofs.Numbering.{path_of_number, ranks_fall, chain_of_numbers, places_rise}
use Rattle.dwg_chains.proofs.laws.number_laws.Goals as goal

pub returns-clause-path : goal.returns-clause-path
returns-clause-path g c = path_of_number

pub returns-clause-ranks_fall : goal.returns-clause-ranks_fall
returns-clause-ranks_fall g c = ranks_fall

pub returns-clause-chain : goal.returns-clause-chain
returns-clause-chain g c = chain_of_numbers

pub returns-clause-places_rise : goal.returns-clause-places_rise
returns-clause-places_rise g c = places_rise
