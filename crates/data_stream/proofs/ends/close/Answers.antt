use Rattle.std.proofs.Common.{rules, refl}
use Rattle.file_orders.specs.declared.ends.FsEnd.TheVariants as end
use Rattle.data_stream.proofs.EndLemmas.{closes_shown, closes_silent, closes_unmade}
use Rattle.data_stream.proofs.ends.close.Goals as goal

pub returns-in-Ok-clause-closes : goal.returns-in-Ok-clause-closes
returns-in-Ok-clause-closes g c = closes_shown c.args.how (end.Put c.in-Put.count) c.in-Put.is _ _ _ _ (search rules) c.show.ensures.shows

pub returns-in-Err-clause-closes : goal.returns-in-Err-clause-closes
returns-in-Err-clause-closes g c = closes_unmade c.args.how _ _ _ c.show-in-Err.ensures.shows

pub returns-in-Read-clause-closes : goal.returns-in-Read-clause-closes
returns-in-Read-clause-closes g c = closes_silent c.args.how (end.Read c.in-Read.count) c.in-Read.is _ refl

pub returns-in-Ok-name_refused-clause-closes : goal.returns-in-Ok-name_refused-clause-closes
returns-in-Ok-name_refused-clause-closes g c = closes_shown c.args.how (end.NameRefused c.in-NameRefused.why) c.in-NameRefused.is _ _ _ _ (search rules) c.show-in-Ok-name_refused.ensures.shows

pub returns-in-Err-name_refused-clause-closes : goal.returns-in-Err-name_refused-clause-closes
returns-in-Err-name_refused-clause-closes g c = closes_unmade c.args.how _ _ _ c.show-in-Err-name_refused.ensures.shows

pub returns-in-Ok-key_refused-clause-closes : goal.returns-in-Ok-key_refused-clause-closes
returns-in-Ok-key_refused-clause-closes g c = closes_shown c.args.how (end.KeyRefused c.in-KeyRefused.why) c.in-KeyRefused.is _ _ _ _ (search rules) c.show-in-Ok-key_refused.ensures.shows

pub returns-in-Err-key_refused-clause-closes : goal.returns-in-Err-key_refused-clause-closes
returns-in-Err-key_refused-clause-closes g c = closes_unmade c.args.how _ _ _ c.show-in-Err-key_refused.ensures.shows

pub returns-in-Directory-clause-closes : goal.returns-in-Directory-clause-closes
returns-in-Directory-clause-closes g c = closes_shown c.args.how end.Directory c.in-Directory.is _ _ _ _ refl c.show-in-Directory.ensures.shows

pub returns-in-StoreFault-clause-closes : goal.returns-in-StoreFault-clause-closes
returns-in-StoreFault-clause-closes g c = closes_shown c.args.how end.StoreFault c.in-StoreFault.is _ _ _ _ refl c.show-in-StoreFault.ensures.shows

pub returns-in-NoMemory-clause-closes : goal.returns-in-NoMemory-clause-closes
returns-in-NoMemory-clause-closes g c = closes_shown c.args.how end.NoMemory c.in-NoMemory.is _ _ _ _ refl c.show-in-NoMemory.ensures.shows

pub returns-in-ReadFault-clause-closes : goal.returns-in-ReadFault-clause-closes
returns-in-ReadFault-clause-closes g c = closes_shown c.args.how end.ReadFault c.in-ReadFault.is _ _ _ _ refl c.show-in-ReadFault.ensures.shows

pub returns-in-VaultFault-clause-closes : goal.returns-in-VaultFault-clause-closes
returns-in-VaultFault-clause-closes g c = closes_shown c.args.how end.VaultFault c.in-VaultFault.is _ _ _ _ refl c.show-in-VaultFault.ensures.shows

pub returns-in-TooLong-clause-closes : goal.returns-in-TooLong-clause-closes
returns-in-TooLong-clause-closes g c = closes_shown c.args.how end.TooLong c.in-TooLong.is _ _ _ _ refl c.show-in-TooLong.ensures.shows

pub returns-in-WriteFault-clause-closes : goal.returns-in-WriteFault-clause-closes
returns-in-WriteFault-clause-closes g c = closes_silent c.args.how end.WriteFault c.in-WriteFault.is _ refl
