use Rattle.machine_text.proofs.Order.{words_decide}
use Rattle.machine_text.proofs.table.TableOrd.cmp.Goals as goal

pub returns : goal.returns
returns c =
    rw (c.then.ensures, c.cmp-first.ensures, c.cmp.ensures, c.first_word.ensures.word, c.first_word-2.ensures.word, c.last_word.ensures, c.last_word-2.ensures)
    (words_decide c.args.self.now c.args.other.now c.first_word.ensures.table c.first_word-2.ensures.table)
