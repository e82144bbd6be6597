use Rattle.dwg_chains.proofs.ChainLaws.{chain_decided}
use Rattle.dwg_chains.proofs.laws.chain_laws.Goals as goal

pub returns : goal.returns
returns g c = record { chain_decided = chain_decided }
