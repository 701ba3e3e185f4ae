-- The words of the commands.
use Rattle.std.proofs.Common.{refl, codes, List, [], ◌∷◌, ◌≡◌, ◌∙◌, ap}
use Rattle.std.specs.Prelude.{Option, Some, None, option_map}
use Rattle.clap.specs.Words.{fault_of, subcommand_of, Text}
use Rattle.clap.proofs.OnLiterals.{clap_on_literals}
use Rattle.clap.specs.declared.error.ErrorKind.TheVariants.{MissingRequiredArgument, UnknownArgument}
use Rattle.clap_lines.specs.Orders.{IsMistake, IsPlain, IsRightUser, number_at, order_at, user_at}
use Rattle.clap_lines.proofs.OrderLemmas.{named_at, refused_by_clap, refused_by_value}
use Rattle.clap_lines.proofs.ValueLemmas.{IsWord, plain_word, user_read, user_refused}
use Rattle.read_words.specs.Values.{read_values}
use Rattle.read_words.proofs.ReadLemmas.{HasRead, read_is_named}
use Rattle.fs_command_line.specs.Line as line
use Rattle.fs_command_line.specs.Orders.{IsSpelled, Names, line_fault, order_named, put_order, read_order}
use Rattle.fs_command_line.specs.declared.order.FsOrder.{FsOrder}
use Rattle.fs_command_line.specs.declared.order.FsOrder.TheVariants.{Put, Read, Help, Version}
use Rattle.fs_command_line.proofs.OrderLemmas.{plain}

-- ---- what clap finds

fault_put : (u p : Text) → IsWord u → IsWord p → fault_of line.hkfs (codes "put" ∷ u ∷ p ∷ []) ≡ []
unfolding clap_on_literals
fault_put u p w x = rw (w.no_dashes, w.no_long, w.no_short, x.no_dashes, x.no_long, x.no_short) refl

order_put : (u p : Text) → IsWord u → IsWord p → order_at order_named (subcommand_of line.hkfs (codes "put" ∷ u ∷ p ∷ [])) ≡ put_order (user_at u) (Some p)
unfolding clap_on_literals
order_put u p w x = rw (w.no_dashes, w.no_long, w.no_short, x.no_dashes, x.no_long, x.no_short) refl

fault_read : (u p f c : Text) → IsWord u → IsWord p → IsWord f → IsWord c → fault_of line.hkfs (codes "read" ∷ u ∷ p ∷ f ∷ c ∷ []) ≡ []
unfolding clap_on_literals
fault_read u p f c w x y z = rw (w.no_dashes, w.no_long, w.no_short, x.no_dashes, x.no_long, x.no_short, y.no_dashes, y.no_long, y.no_short, z.no_dashes, z.no_long, z.no_short) refl

order_read : (u p f c : Text) → IsWord u → IsWord p → IsWord f → IsWord c
    → order_at order_named (subcommand_of line.hkfs (codes "read" ∷ u ∷ p ∷ f ∷ c ∷ [])) ≡ option_map read_order (read_values (user_at u) (Some p) (number_at f) (number_at c))
unfolding clap_on_literals
order_read u p f c w x y z = rw (w.no_dashes, w.no_long, w.no_short, x.no_dashes, x.no_long, x.no_short, y.no_dashes, y.no_long, y.no_short, z.no_dashes, z.no_long, z.no_short) refl

pub reads : HasRead line.hkfs order_named read_order
reads = record { plain = plain; fault = fault_read; order = order_read }

-- ---- words that name an order

put_is : (user : Option Text) (u p : Text) → user ≡ Some u → put_order user (Some p) ≡ Some (Put u p)
put_is user u p e = ap (λ (x : Option Text). put_order x (Some p)) e

pub spelling_is_named : (o : FsOrder) (words : List Text) → IsSpelled o words → Names o words
spelling_is_named (Put user path) words s =
    let u = plain_word user s.1 in
    let p = plain_word path s.2 in
    named_at line.hkfs order_named words _ (Put user path) s.3 (fault_put user path u p) (order_put user path u p ∙ put_is (user_at user) user path (user_read user s.0))
spelling_is_named (Read user path from count) words s = read_is_named line.hkfs order_named read_order reads user path from count words s
spelling_is_named (Help text) words s = absurd s
spelling_is_named (Version text) words s = absurd s

-- ---- what is refused

no_put : (user path : Option Text) → user ≡ None → put_order user path ≡ None
no_put user path e = ap (λ (x : Option Text). put_order x path) e

pub wrong_user_is_refused : (user path : Text) → IsPlain user → IsPlain path → ¬ IsRightUser user → IsMistake (line_fault (codes "put" ∷ user ∷ path ∷ []))
wrong_user_is_refused user path u p wrong =
    let x = plain_word user u in
    let y = plain_word path p in
    refused_by_value line.hkfs order_named _ plain (fault_put user path x y) (order_put user path x y ∙ no_put (user_at user) (Some path) (user_refused user wrong))

pub one_less_is_refused : IsMistake (line_fault (codes "put" ∷ codes "alice" ∷ []))
unfolding clap_on_literals
one_less_is_refused = refused_by_clap line.hkfs order_named (codes "put" ∷ codes "alice" ∷ []) MissingRequiredArgument refl (λ e. cc) (λ e. cc)

pub one_more_is_refused : IsMistake (line_fault (codes "put" ∷ codes "alice" ∷ codes "/b" ∷ codes "/c" ∷ []))
unfolding clap_on_literals
one_more_is_refused = refused_by_clap line.hkfs order_named (codes "put" ∷ codes "alice" ∷ codes "/b" ∷ codes "/c" ∷ []) UnknownArgument refl (λ e. cc) (λ e. cc)
