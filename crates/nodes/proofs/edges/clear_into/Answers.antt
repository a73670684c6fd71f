-- Which edges are left.
use Rattle.std.proofs.Common.{rules, ◌≡◌, ◌≤◌, length}
use Rattle.layout.specs.Header.{edge_count}
use Rattle.nodes.proofs.EdgeLaws.{gone_into}
use Rattle.nodes.proofs.edges.clear_into.Goals as goal

pub returns-clause-edges : goal.returns-clause-edges
returns-clause-edges c =
    let l : edge_count c.args.state.now ≤ 256 = search rules in
    let w : length c.args.state.now ≡ 37041 = search rules in
    gone_into c.args.state.now c.drop_edges.new.state l c.args.id c.drop_edges.ensures w
