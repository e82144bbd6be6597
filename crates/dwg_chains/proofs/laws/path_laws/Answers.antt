use Rattle.dwg_chains.proofs.RankLemmas.{one_rank, path_of_rank, rank_of_path}
use Rattle.dwg_chains.proofs.PathLaws.{rank_is_small, path_decided}
use Rattle.dwg_chains.proofs.laws.path_laws.Goals as goal

pub returns-clause-one_rank : goal.returns-clause-one_rank
returns-clause-one_rank g c = one_rank

pub returns-clause-path_of_rank : goal.returns-clause-path_of_rank
returns-clause-path_of_rank g c = path_of_rank

pub returns-clause-rank_of_path : goal.returns-clause-rank_of_path
returns-clause-rank_of_path g c = rank_of_path

pub returns-clause-rank_is_small : goal.returns-clause-rank_is_small
returns-clause-rank_is_small g c = rank_is_small

pub returns-clause-path_decided : goal.returns-clause-path_decided
returns-clause-path_decided g c = path_decided
