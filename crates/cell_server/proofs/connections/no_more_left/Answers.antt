use Rattle.std.proofs.Common.{arith}
use Rattle.cell_server.proofs.connections.no_more_left.Goals as goal

pub returns : goal.returns
returns g c =
    let few = g.met.A.Door.no_more_left c.args._door.now in
    omega (arith, few)
