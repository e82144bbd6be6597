use Rattle.dwg_chains.proofs.PlaceLaws.{rank_seen, path_seen, chain_seen}
use Rattle.dwg_chains.proofs.laws.place_laws.Goals as goal

pub returns-clause-rank_seen : goal.returns-clause-rank_seen
returns-clause-rank_seen g c = rank_seen

pub returns-clause-path_seen : goal.returns-clause-path_seen
returns-clause-path_seen g c = path_seen

pub returns-clause-chain_seen : goal.returns-clause-chain_seen
returns-clause-chain_seen g c = chain_seen
