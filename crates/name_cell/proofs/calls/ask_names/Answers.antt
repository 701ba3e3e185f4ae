use Rattle.name_cell.proofs.ReplyLemmas.{ask_is_answered}
use Rattle.name_cell.proofs.calls.ask_names.Goals as goal

pub note_in-requires : goal.note_in-requires
note_in-requires g c = ask_is_answered _ _ _ _ c.args.user c.args.ask c.act-acted.result c.act-acted.ensures
