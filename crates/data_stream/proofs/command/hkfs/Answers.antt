use Rattle.std.proofs.Common.{⊎_elim}
use Rattle.fs_command_line.specs.declared.order.FsOrder.TheVariants.{Put, Read}
use Rattle.clap_lines.specs.Orders.{IsMistake}
use Rattle.fs_command_line.specs.Orders.{line_fault}
use Rattle.data_stream.specs.Statuses.{NamesPut}
use Rattle.data_stream.proofs.OrderLemmas.{helps_so, named_so, obeyed, versions_so}
use Rattle.data_stream.proofs.StatusLemmas.{as_words, mistaken, names_put}
use Rattle.data_stream.proofs.command.hkfs.Goals as goal

pub returns-clause-help : goal.returns-clause-help
returns-clause-help g c =
    ⊎_elim (λ help. helps_so _ _ _ _ _ c.obey.result c.read_order-order.result (c.read_order-order.ensures.help help) c.obey.ensures.obeys)
    (λ version. versions_so _ _ _ _ _ c.obey.result c.read_order-order.result (c.read_order-order.ensures.version version) c.obey.ensures.obeys)

pub returns-clause-put : goal.returns-clause-put
returns-clause-put g c user path names =
    obeyed _ _ _ _ _ c.obey.result c.read_order-order.result (Put user path) (named_so c.read_order-order.result c.args.words.now c.read_order-order.ensures.ok c.read_order-order.ensures.usage (Put user path) names) c.obey.ensures.obeys

pub returns-clause-put_kept : goal.returns-clause-put_kept
returns-clause-put_kept g c user path names tells past sound =
    obeyed _ _ _ _ _ c.obey.result c.read_order-order.result (Put user path) (named_so c.read_order-order.result c.args.words.now c.read_order-order.ensures.ok c.read_order-order.ensures.usage (Put user path) names)
    (c.obey.ensures.kept tells past sound)

pub returns-clause-read : goal.returns-clause-read
returns-clause-read g c user path from count names =
    obeyed _ _ _ _ _ c.obey.result c.read_order-order.result (Read user path from count) (named_so c.read_order-order.result c.args.words.now c.read_order-order.ensures.ok c.read_order-order.ensures.usage (Read user path from count) names)
    c.obey.ensures.obeys

pub returns-clause-read_kept : goal.returns-clause-read_kept
returns-clause-read_kept g c user path from count names tells past sound =
    obeyed _ _ _ _ _ c.obey.result c.read_order-order.result (Read user path from count) (named_so c.read_order-order.result c.args.words.now c.read_order-order.ensures.ok c.read_order-order.ensures.usage (Read user path from count) names)
    (c.obey.ensures.kept tells past sound)

pub returns-clause-reason : goal.returns-clause-reason
returns-clause-reason g c =
    as_words (record { mistake = _; puts = _; properties_failed = _; input_failed = _; output_failed = _; vault_failed = _; disk = _; disk' = _; acls = _; acls' = _; words = _; words' = _; input = _; vault = g.V.Vault.state c.args.vault.now })
    (IsMistake (line_fault c.args.words.now)) (NamesPut c.args.words.now) c.obey.result (mistaken c.read_order-order.result c.args.words.now c.read_order-order.ensures.usage)
    (names_put c.read_order-order.result c.args.words.now c.read_order-order.ensures.ok) c.obey.ensures.reason
