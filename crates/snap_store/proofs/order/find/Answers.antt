use Rattle.std.proofs.Common.{sym, arith, Less, Equal, Greater}
use Rattle.snap_store.proofs.Taken.{here, missing}
use Rattle.snap_store.proofs.order.find.Goals as goal

pub returns-then-at-len-clause-index : goal.returns-then-at-len-clause-index
returns-then-at-len-clause-index c = sym (missing c.args.taken.now.items c.args.dir c.args.name.now c.place-at.result c.requires c.place-at.ensures.parted (let e = c.if-at-len.true in omega arith))

pub returns-in-Less-clause-index : goal.returns-in-Less-clause-index
returns-in-Less-clause-index c =
    sym (here c.args.taken.now.items c.args.dir c.args.name.now c.place-at.result c.requires c.place-at.ensures.parted c.index.result.now Less (let e = c.if-at-len.false in let m = c.place-at.ensures.most in omega arith) c.index.ensures c.in-Less.ensures)

pub returns-in-Equal-clause-index : goal.returns-in-Equal-clause-index
returns-in-Equal-clause-index c =
    sym (here c.args.taken.now.items c.args.dir c.args.name.now c.place-at.result c.requires c.place-at.ensures.parted c.index.result.now Equal (let e = c.if-at-len.false in let m = c.place-at.ensures.most in omega arith) c.index.ensures c.in-Equal.ensures)

pub returns-in-Greater-clause-index : goal.returns-in-Greater-clause-index
returns-in-Greater-clause-index c =
    sym (here c.args.taken.now.items c.args.dir c.args.name.now c.place-at.result c.requires c.place-at.ensures.parted c.index.result.now Greater (let e = c.if-at-len.false in let m = c.place-at.ensures.most in omega arith) c.index.ensures c.in-Greater.ensures)
