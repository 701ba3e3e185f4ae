use Rattle.std.proofs.Common.{sym, subst}
use Rattle.kms_rest.specs.Calls.{SaysCall}
use Rattle.kms_rest.specs.declared.operation.Operation.{Operation}
use Rattle.kms_rest.proofs.calls.read_call.Goals as goal

pub returns-in-Create : goal.returns-in-Create
returns-in-Create c = subst (λ (o : Operation). SaysCall o c.args.name.now c.args.query.now c.args.body.now c.create.result) (sym c.in-Create.is) (c.create.ensures c.args.name.now c.args.query.now)

pub returns-in-Roll : goal.returns-in-Roll
returns-in-Roll c = subst (λ (o : Operation). SaysCall o c.args.name.now c.args.query.now c.args.body.now c.roll.result) (sym c.in-Roll.is) (c.roll.ensures c.args.query.now)

pub returns-in-Delete : goal.returns-in-Delete
returns-in-Delete c = subst (λ (o : Operation). SaysCall o c.args.name.now c.args.query.now c.args.body.now c.delete.result) (sym c.in-Delete.is) (c.delete.ensures c.args.query.now c.args.body.now)

pub returns-in-Invalidate : goal.returns-in-Invalidate
returns-in-Invalidate c = subst (λ (o : Operation). SaysCall o c.args.name.now c.args.query.now c.args.body.now c.invalidate.result) (sym c.in-Invalidate.is) (c.invalidate.ensures c.args.query.now c.args.body.now)

pub returns-in-Metadata : goal.returns-in-Metadata
returns-in-Metadata c = subst (λ (o : Operation). SaysCall o c.args.name.now c.args.query.now c.args.body.now c.metadata.result) (sym c.in-Metadata.is) (c.metadata.ensures c.args.query.now c.args.body.now)

pub returns-in-Current : goal.returns-in-Current
returns-in-Current c = subst (λ (o : Operation). SaysCall o c.args.name.now c.args.query.now c.args.body.now c.current.result) (sym c.in-Current.is) (c.current.ensures c.args.query.now c.args.body.now)

pub returns-in-Versions : goal.returns-in-Versions
returns-in-Versions c = subst (λ (o : Operation). SaysCall o c.args.name.now c.args.query.now c.args.body.now c.versions.result) (sym c.in-Versions.is) (c.versions.ensures c.args.query.now c.args.body.now)

pub returns-in-Generate : goal.returns-in-Generate
returns-in-Generate c = subst (λ (o : Operation). SaysCall o c.args.name.now c.args.query.now c.args.body.now c.generate.result) (sym c.in-Generate.is) (c.generate.ensures c.args.body.now)

pub returns-in-Batch : goal.returns-in-Batch
returns-in-Batch c = subst (λ (o : Operation). SaysCall o c.args.name.now c.args.query.now c.args.body.now c.batch.result) (sym c.in-Batch.is) (c.batch.ensures c.args.query.now)

pub returns-in-Version : goal.returns-in-Version
returns-in-Version c = subst (λ (o : Operation). SaysCall o c.args.name.now c.args.query.now c.args.body.now c.version.result) (sym c.in-Version.is) (c.version.ensures c.args.query.now c.args.body.now)

pub returns-in-Metadatas : goal.returns-in-Metadatas
returns-in-Metadatas c = subst (λ (o : Operation). SaysCall o c.args.name.now c.args.query.now c.args.body.now c.metadatas.result) (sym c.in-Metadatas.is) (c.metadatas.ensures c.args.name.now c.args.body.now)
