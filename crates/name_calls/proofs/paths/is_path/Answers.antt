use Rattle.std.proofs.Common.{◌≤◌, ◌∙◌, List, ℕ, length, ap, arith}
use Rattle.name_calls.specs.Paths.{is_absolute}
use Rattle.name_calls.proofs.PathLemmas.{parts_of, read-more-is}
use Rattle.name_calls.proofs.paths.is_path.Goals as goal

pub returns : goal.returns
returns c =
    let two : 2 ≤ length c.args.bytes.now = let a = c.if-bytes-eq0.false in let b = c.if-bytes-eq1.false in omega arith in
    c.are_names_from_root.ensures ∙ ap (λ (bs : List ℕ). is_absolute (parts_of bs)) c.after_first_byte.ensures ∙ read-more-is c.args.bytes.now two c.if-bytes-ne47.false
