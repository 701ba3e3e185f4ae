-- The words of the commands.
use Rattle.std.proofs.Common.{refl, codes, List, [], ◌∷◌, ◌≡◌}
use Rattle.std.specs.Prelude.{Some, option_map}
use Rattle.clap.specs.Words.{fault_of, subcommand_of, Text}
use Rattle.clap.proofs.OnLiterals.{clap_on_literals}
use Rattle.clap.specs.declared.error.ErrorKind.TheVariants.{MissingRequiredArgument, UnknownArgument}
use Rattle.clap_lines.specs.Orders.{IsMistake, number_at, order_at, user_at}
use Rattle.clap_lines.proofs.OrderLemmas.{named_at, refused_by_clap}
use Rattle.clap_lines.proofs.ValueLemmas.{IsWord, plain_word}
use Rattle.read_words.specs.Values.{read_values}
use Rattle.read_words.proofs.ReadLemmas.{HasRead, read_is_named}
use Rattle.copy_command_line.specs.Line as line
use Rattle.copy_command_line.specs.Orders.{IsSpelled, Names, copy_order, line_fault, order_named, read_order}
use Rattle.copy_command_line.specs.declared.order.CopyOrder.{CopyOrder}
use Rattle.copy_command_line.specs.declared.order.CopyOrder.TheVariants.{Copy, Read, Help, Version}
use Rattle.copy_command_line.proofs.OrderLemmas.{plain}

-- ---- what clap finds

fault_copy : (s t : Text) → IsWord s → IsWord t → fault_of line.hkcopy (codes "copy" ∷ s ∷ t ∷ []) ≡ []
unfolding clap_on_literals
fault_copy s t w x = rw (w.no_dashes, w.no_long, w.no_short, x.no_dashes, x.no_long, x.no_short) refl

order_copy : (s t : Text) → IsWord s → IsWord t → order_at order_named (subcommand_of line.hkcopy (codes "copy" ∷ s ∷ t ∷ [])) ≡ copy_order (Some s) (Some t)
unfolding clap_on_literals
order_copy s t w x = rw (w.no_dashes, w.no_long, w.no_short, x.no_dashes, x.no_long, x.no_short) refl

fault_read : (u p f c : Text) → IsWord u → IsWord p → IsWord f → IsWord c → fault_of line.hkcopy (codes "read" ∷ u ∷ p ∷ f ∷ c ∷ []) ≡ []
unfolding clap_on_literals
fault_read u p f c w x y z = rw (w.no_dashes, w.no_long, w.no_short, x.no_dashes, x.no_long, x.no_short, y.no_dashes, y.no_long, y.no_short, z.no_dashes, z.no_long, z.no_short) refl

order_read : (u p f c : Text) → IsWord u → IsWord p → IsWord f → IsWord c
    → order_at order_named (subcommand_of line.hkcopy (codes "read" ∷ u ∷ p ∷ f ∷ c ∷ [])) ≡ option_map read_order (read_values (user_at u) (Some p) (number_at f) (number_at c))
unfolding clap_on_literals
order_read u p f c w x y z = rw (w.no_dashes, w.no_long, w.no_short, x.no_dashes, x.no_long, x.no_short, y.no_dashes, y.no_long, y.no_short, z.no_dashes, z.no_long, z.no_short) refl

pub reads : HasRead line.hkcopy order_named read_order
reads = record { plain = plain; fault = fault_read; order = order_read }

-- ---- words that name an order

pub spelling_is_named : (o : CopyOrder) (words : List Text) → IsSpelled o words → Names o words
spelling_is_named (Copy source target) words s =
    let f = plain_word source s.0 in
    let t = plain_word target s.1 in
    named_at line.hkcopy order_named words _ (Copy source target) s.2 (fault_copy source target f t) (order_copy source target f t)
spelling_is_named (Read user path from count) words s = read_is_named line.hkcopy order_named read_order reads user path from count words s
spelling_is_named (Help text) words s = absurd s
spelling_is_named (Version text) words s = absurd s

-- ---- what is refused

pub one_less_is_refused : IsMistake (line_fault (codes "copy" ∷ codes "/b" ∷ []))
unfolding clap_on_literals
one_less_is_refused = refused_by_clap line.hkcopy order_named (codes "copy" ∷ codes "/b" ∷ []) MissingRequiredArgument refl (λ e. cc) (λ e. cc)

pub one_more_is_refused : IsMistake (line_fault (codes "copy" ∷ codes "/b" ∷ codes "/c" ∷ codes "/d" ∷ []))
unfolding clap_on_literals
one_more_is_refused = refused_by_clap line.hkcopy order_named (codes "copy" ∷ codes "/b" ∷ codes "/c" ∷ codes "/d" ∷ []) UnknownArgument refl (λ e. cc) (λ e. cc)
