use Rattle.std.proofs.Common.{◌∙◌, sym, subst, arith}
use Rattle.key_index.specs.Index.{Index}
use Rattle.key_images.specs.Adding.{AddsKeys, AddsNoKeys}
use Rattle.key_images.proofs.Headers.{Header, bad_greatest, failed, header_takes, header_within, no_keys_there, read_all, too_many_keys}
use Rattle.key_images.proofs.KeyLemmas.{err_again}
use Rattle.key_images.proofs.table.index_of.Goals as goal

pub returns-in-Err-clause-none : goal.returns-in-Err-clause-none
returns-in-Err-clause-none c = failed c.args.bytes.now c.in-Err.fault c.in-Err.ensures

pub returns-then-count-gt-MOST_KEYS-clause-none : goal.returns-then-count-gt-MOST_KEYS-clause-none
returns-then-count-gt-MOST_KEYS-clause-none c e =
    let h : Header = (c.in-Ok.header.0, c.in-Ok.header.1, c.in-Ok.header.2, c.in-Ok.header.3.now) in
    too_many_keys c.args.bytes.now h c.in-Ok.ensures c.if-count-gt-MOST_KEYS.true

pub returns-then-not-may_be_greatest-clause-none : goal.returns-then-not-may_be_greatest-clause-none
returns-then-not-may_be_greatest-clause-none c e =
    let h : Header = (c.in-Ok.header.0, c.in-Ok.header.1, c.in-Ok.header.2, c.in-Ok.header.3.now) in
    bad_greatest c.args.bytes.now h c.in-Ok.ensures (sym c.may_be_greatest.ensures ∙ c.if-not-may_be_greatest.true)

pub add_keys-requires-clause-place : goal.add_keys-requires-clause-place
add_keys-requires-clause-place c =
    let h : Header = (c.in-Ok.header.0, c.in-Ok.header.1, c.in-Ok.header.2, c.in-Ok.header.3.now) in
    header_within c.args.bytes.now h c.in-Ok.ensures (header_takes c.args.bytes.now h (λ i. omega (arith, c.type_inv.bytes i)) c.in-Ok.ensures) c.args.end c.requires.place

pub returns-in-Err-add_keys-clause-none : goal.returns-in-Err-add_keys-clause-none
returns-in-Err-add_keys-clause-none c e =
    let h : Header = (c.in-Ok.header.0, c.in-Ok.header.1, c.in-Ok.header.2, c.in-Ok.header.3.now) in
    no_keys_there c.args.bytes.now h c.in-Ok.ensures
    (subst (λ (x : Index). AddsNoKeys c.in-Ok.header.3.now c.in-Ok.header.2 x) c.since-index.ensures (c.in-Err-add_keys.ensures.none (err_again c.in-Err-add_keys.fault e)))

pub returns-in-Ok-add_keys-clause-made : goal.returns-in-Ok-add_keys-clause-made
returns-in-Ok-add_keys-clause-made c =
    let h : Header = (c.in-Ok.header.0, c.in-Ok.header.1, c.in-Ok.header.2, c.in-Ok.header.3.now) in
    read_all c.args.bytes.now h c.in-Ok.ensures (header_takes c.args.bytes.now h (λ i. omega (arith, c.type_inv.bytes i)) c.in-Ok.ensures) c.args.end c.add_keys.new.index.index c.requires.place
    (omega (arith, c.if-count-gt-MOST_KEYS.false)) (sym c.may_be_greatest.ensures ∙ c.if-not-may_be_greatest.false)
    (subst (λ (x : Index). AddsKeys c.in-Ok.header.3.now c.args.end c.in-Ok.header.2 x c.add_keys.new.index.index) c.since-index.ensures c.in-Ok-add_keys.ensures.added)
