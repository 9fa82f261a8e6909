use Rattle.std.proofs.Common.{◌+◌, take}
use Rattle.std.specs.List.{filter_map}
use Rattle.cdi_live.specs.Graphs.{number_of}
use Rattle.cdi_live.proofs.RowNumbers.{IsRowSoFar}
use Rattle.cdi_live.proofs.graph.Counts.numbers_of.Given as goal

abbrev pub invariant-loop-node : goal.invariant-loop-node
invariant-loop-node l =
    IsRowSoFar (l.self.beans + l.self.interceptors) (filter_map (number_of (record { beans = l.self.beans; interceptors = l.self.interceptors })) (take l.node-index l.nodes)) l.listed.items l.row
