use Rattle.dwg_graph.proofs.ObjectPaths.{paths_are_of_objects, chains_are_of_objects, ascending_are_distinct}
use Rattle.dwg_graph.proofs.laws.graph_laws.Goals as goal

pub returns : goal.returns
returns c = record { paths = paths_are_of_objects; chains = chains_are_of_objects; distinct = ascending_are_distinct }
