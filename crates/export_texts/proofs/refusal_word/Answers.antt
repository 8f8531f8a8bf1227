-- `export_texts::refusal_word` meets its contract: the call's own.
use Rattle.export_texts.proofs.Texts.{word-written}
use Rattle.export_texts.proofs.refusal_word.Goals as goal

pub returns : goal.returns
returns c =
    word-written c.answer_count.type_inv c.answer_count.ensures _ (c.refusal_word.ensures.answer, c.refusal_word.ensures.buffer)
