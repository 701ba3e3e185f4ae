use Rattle.std.proofs.Common.{◌∙◌}
use Rattle.kms_json.specs.Replies.{reply_data}
use Rattle.kms_json.proofs.ReplyLemmas.{text_written}
use Rattle.kms_json.proofs.replies.write_reply.Goals as goal

pub returns : goal.returns
returns c =
    c.of.ensures ∙ c.into_inner.ensures.items
    ∙ text_written (reply_data c.args.reply.now) c.new-out.result c.write_value.new.out c.new-out.ensures.tokens (c.new-out.ensures.before ∙ c.new.ensures.items) c.in_ok-write_value.ensures
