use Rattle.std.proofs.Common.{refl}
use Rattle.kms_store.proofs.MaterialReads.{has_materials}
use Rattle.kms_core.proofs.ServiceLemmas.{acts_working}
use Rattle.kms_core.proofs.ReadLemmas.{acts_answering}
use Rattle.kms_core.proofs.service.Service.act.Goals as goal

pub returns-in-Invalidate : goal.returns-in-Invalidate
returns-in-Invalidate g c = rw c.in-Invalidate.is (acts_working (g.D.Disk.state c.args.disk.now) c.args.self.now c.invalidate.new.self _ c.args.now _ _ _ refl (c.invalidate.ensures (g.W.Words.to_come c.args.words.now) c.args.now))

pub returns-in-Metadata : goal.returns-in-Metadata
returns-in-Metadata g c = rw c.in-Metadata.is (acts_answering (g.D.Disk.state c.args.disk.now) c.args.self.now (g.W.Words.to_come c.args.words.now) c.args.now _ _ c.metadata.result refl refl (λ why e. absurd cc) (λ name sent e. absurd cc) c.metadata.ensures)

pub returns-in-Metadatas : goal.returns-in-Metadatas
returns-in-Metadatas g c = rw c.in-Metadatas.is (acts_answering (g.D.Disk.state c.args.disk.now) c.args.self.now (g.W.Words.to_come c.args.words.now) c.args.now _ _ c.metadatas.result refl refl (λ why e. absurd cc) (λ name sent e. absurd cc) c.metadatas.ensures)

pub returns-in-Names : goal.returns-in-Names
returns-in-Names g c = rw c.in-Names.is (acts_answering (g.D.Disk.state c.args.disk.now) c.args.self.now (g.W.Words.to_come c.args.words.now) c.args.now _ _ c.names.result refl refl (λ why e. absurd cc) (λ name sent e. absurd cc) c.names.ensures)

pub returns-in-Current : goal.returns-in-Current
returns-in-Current g c = rw c.in-Current.is (acts_answering (g.D.Disk.state c.args.disk.now) c.args.self.now (g.W.Words.to_come c.args.words.now) c.args.now _ _ c.current_version.result refl refl (λ why e. absurd cc) (λ name sent e. absurd cc) c.current_version.ensures)

pub returns-in-Versions : goal.returns-in-Versions
returns-in-Versions g c = rw c.in-Versions.is (c.versions.ensures (g.W.Words.to_come c.args.words.now) c.args.now)

pub returns-in-Version : goal.returns-in-Version
returns-in-Version g c = rw c.in-Version.is (c.version.ensures (g.W.Words.to_come c.args.words.now) c.args.now)

pub returns-in-Decrypt : goal.returns-in-Decrypt
returns-in-Decrypt g c = rw c.in-Decrypt.is (c.decrypt.ensures (g.W.Words.to_come c.args.words.now) c.args.now)

pub returns-in-Reencrypt : goal.returns-in-Reencrypt
returns-in-Reencrypt g c = rw c.in-Reencrypt.is (c.reencrypt.ensures (g.W.Words.to_come c.args.words.now) c.args.now)

pub returns-in-Batch : goal.returns-in-Batch
returns-in-Batch g c = rw c.in-Batch.is (c.batch.ensures (g.W.Words.to_come c.args.words.now) c.args.now)

pub returns-in-Generate : goal.returns-in-Generate
returns-in-Generate g c = rw c.in-Generate.is (acts_working (g.D.Disk.state c.args.disk.now) c.args.self.now c.generate.new.self _ c.args.now _ _ _ refl (c.generate.ensures c.args.now))

pub returns-in-Delete : goal.returns-in-Delete
returns-in-Delete g c = rw c.in-Delete.is (c.delete.ensures (g.W.Words.to_come c.args.words.now) c.args.now)

pub versions-requires : goal.versions-requires
versions-requires g c = record { held = λ telling. let s = c.requires.stands telling in has_materials (g.D.Disk.state c.args.disk.now) c.args.self.now.store s.0 c.count.ensures.file s.1 }

pub version-requires : goal.version-requires
version-requires g c = record { held = λ telling. let s = c.requires.stands telling in has_materials (g.D.Disk.state c.args.disk.now) c.args.self.now.store s.0 c.count.ensures.file s.1 }

pub decrypt-requires : goal.decrypt-requires
decrypt-requires g c = record { held = λ telling. let s = c.requires.stands telling in has_materials (g.D.Disk.state c.args.disk.now) c.args.self.now.store s.0 c.count.ensures.file s.1 }

pub reencrypt-requires : goal.reencrypt-requires
reencrypt-requires g c = record { held = λ telling. let s = c.requires.stands telling in has_materials (g.D.Disk.state c.args.disk.now) c.args.self.now.store s.0 c.count.ensures.file s.1 }

pub batch-requires : goal.batch-requires
batch-requires g c = record { held = λ telling. let s = c.requires.stands telling in has_materials (g.D.Disk.state c.args.disk.now) c.args.self.now.store s.0 c.count.ensures.file s.1 }
